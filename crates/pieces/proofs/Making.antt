-- A new tray is sound, and empty.
use Rattle.std.proofs.Common.{◌≡◌, ℕ, ◌+◌, ◌-◌, ◌<◌, ◌≤◌, min, Bool, true, cond, ◌&&◌, ltb, List, [], length, take, pos, negsuc, sym, ap, ◌∙◌, subst, inl, inr, zero-le, arith}
use Rattle.std.proofs.lemmas.Int.{ints}
use Rattle.std.proofs.lemmas.List.{length-set, get_or-set_same, get_or-set_other}
use Rattle.std.proofs.lemmas.Bool.{cases_eq, cond_both, and_parts, ltb-true}
use Rattle.elements.specs.Kinds.{ElementKind}
use Rattle.pieces.specs.Ticks.{TickOk}
use Rattle.pieces.proofs.Bounds.{none_unsettled}
use Rattle.pieces.proofs.Keeping.{keep}
use Rattle.pieces.specs.declared.tray.records.Cell.{Cell}
use Rattle.pieces.specs.declared.tray.records.Head.{Head}
use Rattle.pieces.specs.TrayKinds.{TraySeat}
use Rattle.pieces.specs.declared.seats.Seat.TheVariants.{Empty}
use Rattle.pieces.specs.TrayStates.{state_of, cell_at, head_of, stack}
use Rattle.pieces.specs.TrayCalls.{filled, enough, new_cells, new_heads, made_tray}
use Rattle.pieces.specs.TrayBounds.{all_unsettled, SeatOk, Bounded}
use Rattle.pieces.specs.TraySound.{HeadTrue, SeatTrue, Consistent, Sound}
use Rattle.pieces.proofs.Filling.{take_filled, length_filled, get_or_filled}

-- what strips that hold a tray have
tray_held : {E : Type 0} (cs : List (Cell E)) (hs : List (Head E)) (ss : List (TraySeat E)) → enough cs hs ss ≡ true
    → (1 < length cs) × (0 < length hs) × (0 < length ss)
tray_held cs hs ss g =
    let a = and_parts (ltb 1 (length cs) && ltb 0 (length hs)) (ltb 0 (length ss)) g in
    let b = and_parts (ltb 1 (length cs)) (ltb 0 (length hs)) a.0 in
    (ltb-true 1 (length cs) b.0, ltb-true 0 (length hs) b.1, ltb-true 0 (length ss) a.1)

-- a new tray
module _ {E : Type 0} (e : ElementKind E) (cs : List (Cell E)) (hs : List (Head E)) (ss : List (TraySeat E)) where
  -- strips that hold a tray
  module _ (two : 1 < length cs) (one : 0 < length hs) (some : 0 < length ss) where
    abbrev k : ℕ
    k = min (length cs - 1) 1024

    abbrev n : ℕ
    n = min (length ss) 16

    abbrev zeroth : Cell E
    zeroth = record { element = e.blank; tick = negsuc 0 }

    abbrev other : Cell E
    other = record { element = e.blank; tick = pos 0 }

    fits : k + 1 ≤ length cs
    fits = omega arith

    head_is : head_of e.blank (new_heads e hs) ≡ record { index = 0; element = e.blank; tick = pos 0 }
    head_is = get_or-set_same hs 0 (record { index = 0; element = e.blank; tick = pos 0 }) _ one

    long : length (filled (k + 1) other cs) ≡ length cs
    long = length_filled (k + 1) other cs fits

    cells_fit : (y : ℕ) → y ≤ k → TickOk 0 0 (cell_at e.blank (new_cells e k cs) y).tick
    cells_fit y m = elim (cases_eq y 0) [
      | inl z ↦ subst (λ c. TickOk 0 0 c.tick)
          (sym (ap (cell_at e.blank (new_cells e k cs)) z ∙ get_or-set_same (filled (k + 1) other cs) 0 zeroth _ (omega (arith, long))))
          (record { low = omega (arith, ints); high = omega (arith, ints) })
      | inr z ↦ subst (λ c. TickOk 0 0 c.tick)
          (sym (get_or-set_other (filled (k + 1) other cs) 0 y zeroth _ z ∙ get_or_filled (k + 1) other cs y _ (omega arith)))
          (record { low = omega (arith, ints); high = omega (arith, ints) })
    ]

    abbrev none : ℕ
    none = all_unsettled k (take n (filled n Empty ss))

    made_held : Bounded e.blank (record { cells = new_cells e k cs; heads = new_heads e hs; seats = filled n Empty ss; seatings = 0; room = k; count = n })
    made_held =
        let z : 0 ≡ none = sym (ap (all_unsettled k) (take_filled n Empty ss) ∙ none_unsettled E k n) in
        record {
          seats_long = omega (arith, length_filled n Empty ss (omega arith));
          room_small = omega arith;
          few = zero-le;
          held = λ _.
              record {
                heads_long = omega (arith, length-set hs 0 (record { index = 0; element = e.blank; tick = pos 0 }));
                cells_long = omega (arith, long, length-set (filled (k + 1) other cs) 0 zeroth);
                some_room = omega arith;
                top = subst (λ h. h.index ≤ k) (sym head_is) zero-le;
                cells_ok = λ y m. subst (λ p. TickOk p 0 (cell_at e.blank (new_cells e k cs) y).tick) z (cells_fit y m);
                head_ok = subst (λ p. TickOk p 0 (head_of e.blank (new_heads e hs)).tick) z
                    (subst (λ h. TickOk 0 0 h.tick) (sym head_is) (record { low = omega (arith, ints); high = omega (arith, ints) }));
                seats_ok = λ j l. subst (λ q. SeatOk k none 0 q) (sym (get_or_filled n Empty ss j Empty l)) tt;
              };
        }

    made_consistent : Consistent e.blank (record { cells = new_cells e k cs; heads = new_heads e hs; seats = filled n Empty ss; seatings = 0; room = k; count = n })
    made_consistent =
        record {
          head_true = subst (λ h. HeadTrue (cell_at e.blank (new_cells e k cs) h.index) h) (sym head_is)
              (subst (λ c. HeadTrue c (record { index = 0; element = e.blank; tick = pos 0 }))
              (sym (get_or-set_same (filled (k + 1) other cs) 0 zeroth _ (omega (arith, long))))
              (record { behind = omega (arith, ints); ahead = omega (arith, ints); written = λ f. absurd (omega (arith, ints)) }));
          seats_true = λ j l. subst (λ q. SeatTrue e.blank (new_cells e k cs) (head_of e.blank (new_heads e hs)) q) (sym (get_or_filled n Empty ss j Empty l)) tt;
        }

  pub made_sound : Sound e.blank (made_tray e cs hs ss)
  made_sound =
      cond_both (enough cs hs ss) _ _ (Sound e.blank)
      (λ g.
      let l = tray_held cs hs ss g in
      record { bounded = made_held l.0 l.1 l.2; few_workers = omega arith; consistent = λ _. made_consistent l.0 l.1 l.2 })
      (λ _. record {
        bounded = record { seats_long = zero-le; room_small = omega arith; few = zero-le; held = λ m. absurd (nobody m) };
        few_workers = zero-le;
        consistent = λ m. absurd (nobody m);
      })
    where
      nobody : 0 < 0 → ⊥
      nobody m = omega arith

-- nothing lies on a tray with the head of a new one
pub made_bare : {E : Type 0} (e : ElementKind E) (cs : List (Cell E)) (hs : List (Head E)) (ss : List (TraySeat E)) → enough cs hs ss ≡ true
    → (hs' : List (Head E)) → hs' ≡ new_heads e hs → (b : Bool) (ds : List (Cell E))
    → cond b (stack e.blank ds (head_of e.blank hs').index (head_of e.blank hs').element) [] ≡ []
made_bare e cs hs ss held hs' is b ds =
    let one = (tray_held cs hs ss held).1 in
    let top : (head_of e.blank hs').index ≡ 0 = grind (arith, get_or-set_same) in
    grind arith

-- what a new tray has been made of, in strips that hold one
module _ {E : Type 0} (e : ElementKind E) (cs : List (Cell E)) (hs : List (Head E)) (ss : List (TraySeat E)) (cs' : List (Cell E)) (hs' : List (Head E)) (ss' : List (TraySeat E)) (k n : ℕ)
    (g : enough cs hs ss ≡ true) (room : k ≡ min (length cs - 1) 1024) (count : n ≡ min (length ss) 16)
    (cells : cs' ≡ new_cells e k cs) (heads : hs' ≡ new_heads e hs) (seats : ss' ≡ filled n Empty ss) where
  made_is : state_of cs' hs' ss' 0 k n ≡ made_tray e cs hs ss
  made_is = grind arith

  pub made_kept : ∥ Sound e.blank (state_of cs' hs' ss' 0 k n) ∥₁
  made_kept = keep made_is (made_sound e cs hs ss)
