-- No late write: what a write to a cell, and what a move of the head, leave true of every seat.
use Rattle.std.proofs.Common.{◌≡◌, ℕ, ◌<◌, Bool, true, false, cond, List, length, set, pos, ◌+ℤ◌, ◌≤ℤ◌, sym, refl, ap, ◌∙◌, subst, inl, inr, arith}
use Rattle.std.proofs.lemmas.Int.{ints}
use Rattle.std.proofs.lemmas.List.{get_or-set_same, get_or-set_other}
use Rattle.std.proofs.lemmas.Bool.{cases_Bool, cases_eq, both_ways}
use Rattle.std.proofs.lemmas.Bool.Decides.{Decides-eqb, Decides-and}
use Rattle.elements.specs.Kinds.{ElementKind}
use Rattle.pieces.proofs.TickLaws.{Decides-tick_eq}
use Rattle.pieces.specs.declared.tray.records.Cell.{Cell}
use Rattle.pieces.specs.declared.tray.records.Head.{Head}
use Rattle.pieces.specs.declared.tray.records.Try.{Try}
use Rattle.pieces.specs.declared.tray.records.Next.{Next}
use Rattle.pieces.specs.TrayKinds.{TraySeat}
use Rattle.pieces.specs.declared.seats.Seat.TheVariants.{Empty, Loaded, Ended, Running}
use Rattle.pieces.specs.declared.tray.records.Phase.TheVariants.{HeadRead, CellRead, CellWritten, NeighbourRead}
use Rattle.pieces.specs.TrayKinds.{pushes}
use Rattle.pieces.specs.TrayStates.{cell_at}
use Rattle.pieces.specs.TrayAccess.{agrees, neighbour, moved_head}
use Rattle.pieces.specs.TrayBounds.{SeatOk}
use Rattle.pieces.specs.TraySound.{TryTrue, SeatTrue}
use Rattle.pieces.proofs.Ticks.{goes}

-- a head that agrees with a try has the index and the tick that it saw
pub agree : {E : Type 0} (h : Head E) (t : Try E) → agrees h t ≡ true → (h.index ≡ t.head.index) × (h.tick ≡ t.head.tick)
agree h t = (Decides-and _ _ (Decides-eqb _ _) (Decides-tick_eq _ _)).0

module _ {E : Type 0} (blank : E) (cs : List (Cell E)) (x : ℕ) (c : Cell E) where
  pub cell_same : x < length cs → cell_at blank (set cs x c) x ≡ c
  cell_same l = get_or-set_same cs x c (record { element = blank; tick = pos 0 }) l

  pub cell_other : (y : ℕ) → (y ≡ x → ⊥) → cell_at blank (set cs x c) y ≡ cell_at blank cs y
  cell_other y n = get_or-set_other cs x y c (record { element = blank; tick = pos 0 }) n

  -- the tick of a cell only grows
  pub tick_grows : x < length cs → ((cell_at blank cs x).tick +ℤ pos 1) ≡ c.tick → (y : ℕ) → (cell_at blank cs y).tick ≤ℤ (cell_at blank (set cs x c) y).tick
  tick_grows l e y = elim (cases_eq y x) [
    | inl p ↦ subst (λ z. (cell_at blank cs z).tick ≤ℤ (cell_at blank (set cs x c) z).tick) (sym p)
        (omega (arith, ints, ap (λ (r : Cell E). r.tick) (cell_same l)))
    | inr n ↦ omega (arith, ints, ap (λ (r : Cell E). r.tick) (cell_other y n))
  ]

-- a try that the head agrees with writes what the head holds into the head's cell, which is one tick behind
module _ {E : Type 0} (blank : E) (k p g : ℕ) (cs : List (Cell E)) (h : Head E) (t : Try E) (l : t.head.index < length cs)
    (a : agrees h t ≡ true) (e : ((cell_at blank cs t.head.index).tick +ℤ pos 1) ≡ t.head.tick) where
  abbrev cell : Cell E
  cell = record { element = t.head.element; tick = t.head.tick }

  abbrev cs' : List (Cell E)
  cs' = set cs t.head.index cell

  up : (y : ℕ) → (cell_at blank cs y).tick ≤ℤ (cell_at blank cs' y).tick
  up = tick_grows blank cs t.head.index cell l e

  pub write_try : (t' : Try E) → TryTrue (cell_at blank cs t'.head.index) h t' → TryTrue (cell_at blank cs' t'.head.index) h t'
  write_try t' o =
      record {
        behind = omega (arith, ints, o.behind, up t'.head.index);
        stands = o.stands;
        past = λ n. omega (arith, ints, o.past n, up t'.head.index);
      }

  -- no try waits for the tick after the one that was written
  no_later : (t' : Try E) → TryTrue (cell_at blank cs t'.head.index) h t' → t'.head.index ≡ t.head.index → (t.head.tick +ℤ pos 1) ≡ t'.head.tick → ⊥
  no_later t' o i q = elim (cases_Bool (agrees h t')) [
    | inl y ↦ omega (arith, ints, (agree h t' y).1, (agree h t a).1)
    | inr n ↦ omega (arith, ints, subst (λ z. t'.head.tick ≤ℤ (cell_at blank cs z).tick) i (o.past n))
  ]

  pub write_keeps : (q : TraySeat E) → SeatOk k p g q → SeatTrue blank cs h q → SeatTrue blank cs' h q
  write_keeps Empty b o = tt
  write_keeps (Loaded c) b o = tt
  write_keeps (Running (HeadRead t')) b o = write_try t' o
  write_keeps (Running (CellRead t' u)) b o = (
    write_try t' o.0,
    λ f. elim (cases_eq t'.head.index t.head.index) [
      | inl i ↦ absurd (no_later t' o.0 i
          (subst (λ r. (r.tick +ℤ pos 1) ≡ t'.head.tick) (cell_same blank cs t.head.index cell l)
          (subst (λ z. ((cell_at blank cs' z).tick +ℤ pos 1) ≡ t'.head.tick) i f)))
      | inr n ↦ let s = cell_other blank cs t.head.index cell t'.head.index n in
          ap (λ r. r.element) s ∙ o.1 (subst (λ r. (r.tick +ℤ pos 1) ≡ t'.head.tick) s f)
    ],
  )
  write_keeps (Running (CellWritten t')) b o = (write_try t' o.0, omega (arith, ints, o.1, up t'.head.index))
  write_keeps (Running (NeighbourRead t' x)) b o = (
    write_try t' o.0,
    omega (arith, ints, o.1, up t'.head.index),
    λ y.
        let i : t'.head.index ≡ t.head.index = sym (agree h t' y).0 ∙ (agree h t a).0 in
        let s = cell_other blank cs t.head.index cell (neighbour t') (λ w. (goes k t' b.0.index b.1).1 (w ∙ sym i)) in
        let m = o.2 y in
        record {
          tick = m.tick ∙ sym (ap (λ r. r.tick) s);
          element = m.element ∙ ap (λ (r : Cell E). cond (pushes t'.command) t'.command.element r.element) (sym s);
        },
  )
  write_keeps (Ended r) b o = tt

-- the head moves to where a try goes that it agrees with
module _ {E : Type 0} (e : ElementKind E) (cs : List (Cell E)) (h : Head E) (t : Try E) (x : Next E)
    (a : agrees h t ≡ true) (o : SeatTrue e.blank cs h (Running (NeighbourRead t x))) where
  abbrev h' : Head E
  h' = moved_head e t x

  all_past : (t' : Try E) → TryTrue (cell_at e.blank cs t'.head.index) h t' → t'.head.tick ≤ℤ (cell_at e.blank cs t'.head.index).tick
  all_past t' o' = elim (cases_Bool (agrees h t')) [
    | inl y ↦ omega (
      arith,
      ints,
      subst (λ z. t.head.tick ≤ℤ (cell_at e.blank cs z).tick) (sym (agree h t a).0 ∙ (agree h t' y).0) o.1,
      (agree h t a).1,
      (agree h t' y).1,
    )
    | inr m ↦ o'.past m
  ]

  -- the pair of index and tick in the head never comes back: no try has seen the new one
  pub never_seen : (t' : Try E) → TryTrue (cell_at e.blank cs t'.head.index) h t' → agrees h' t' ≡ false
  never_seen t' o' = go (agrees h' t') refl
    where
      go : (y : Bool) → agrees h' t' ≡ y → y ≡ false
      go true y =
          let i : neighbour t ≡ t'.head.index = (agree h' t' y).0 in
          let m : x.tick ≡ (cell_at e.blank cs t'.head.index).tick = (o.2 a).tick ∙ ap (λ z. (cell_at e.blank cs z).tick) i in
          absurd (omega (arith, ints, all_past t' o', (agree h' t' y).1))
      go false y = refl

  pub move_try : (t' : Try E) → TryTrue (cell_at e.blank cs t'.head.index) h t' → TryTrue (cell_at e.blank cs t'.head.index) h' t'
  move_try t' o' =
      record { behind = o'.behind; stands = λ y. absurd (both_ways (agrees h' t') (never_seen t' o') y); past = λ _. all_past t' o' }

  pub move_keeps : (q : TraySeat E) → SeatTrue e.blank cs h q → SeatTrue e.blank cs h' q
  move_keeps Empty p = tt
  move_keeps (Loaded c) p = tt
  move_keeps (Running (HeadRead t')) p = move_try t' p
  move_keeps (Running (CellRead t' u)) p = (move_try t' p.0, p.1)
  move_keeps (Running (CellWritten t')) p = (move_try t' p.0, p.1)
  move_keeps (Running (NeighbourRead t' x')) p = (move_try t' p.0, p.1, λ y. absurd (both_ways (agrees h' t') (never_seen t' p.0) y))
  move_keeps (Ended r) p = tt
