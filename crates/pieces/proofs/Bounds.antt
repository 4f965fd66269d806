-- Every call leaves a tray within its bounds.
use Rattle.std.proofs.Common.{◌≡◌, ℕ, ◌+◌, ◌<◌, ◌≤◌, Bool, true, false, cond, ltb, List, [], ◌∷◌, length, take, set, replicate, sum_by, sym, refl, ap, ◌∙◌, subst, inl, inr, zero-le, le_refl, arith}
use Rattle.std.proofs.lemmas.List.{length-set, get_or-set_same, get_or-set_other}
use Rattle.std.proofs.lemmas.List.Sums.{sum_by-cons}
use Rattle.std.proofs.lemmas.List.Folds.{sum_by-replicate}
use Rattle.std.proofs.lemmas.Bool.{cases_eq, ltb-true}
use Rattle.elements.specs.Kinds.{ElementKind, uncompared}
use Rattle.elements.specs.declared.commands.Command.{Command}
use Rattle.pieces.specs.declared.tray.records.Cell.{Cell}
use Rattle.pieces.specs.declared.tray.records.Head.{Head}
use Rattle.pieces.specs.declared.tray.records.Try.{Try}
use Rattle.pieces.specs.declared.tray.records.Next.{Next}
use Rattle.pieces.specs.TrayKinds.{TrayCommand, TraySeat, tray_knows, tray_command}
use Rattle.pieces.specs.declared.seats.Seat.TheVariants.{Empty, Loaded, Ended, Running}
use Rattle.pieces.specs.declared.tray.records.Phase.TheVariants.{HeadRead, CellRead, CellWritten, NeighbourRead}
use Rattle.pieces.specs.Seats.{seat_at}
use Rattle.pieces.specs.TrayStates.{TrayState, state_of, cell_at, head_of, with_seat, with_seats}
use Rattle.pieces.specs.TrayAccess.{at_limit, settled_early, neighbour, helps, helped_cells, next_of, unchanged, moved_head, limit_reply, done_reply, accessed}
use Rattle.pieces.specs.TrayCalls.{loaded, seat_outcome, step_outcome, take_outcome, clear_outcome}
use Rattle.pieces.specs.TrayBounds.{unsettled, all_unsettled, TryOk, SeatOk, Held, Bounded}
use Rattle.pieces.proofs.Filling.{filled_keeps}
use Rattle.pieces.specs.Calls.{most_seatings}
use Rattle.pieces.specs.Ticks.{TickOk}
use Rattle.pieces.proofs.CallLaws.{by_test, seat_left, take_left}
use Rattle.pieces.proofs.SeatLaws.{sum_set}
use Rattle.pieces.proofs.TickLaws.{tick_kept, tick_up}
use Rattle.pieces.proofs.Ticks.{try_kept, seat_kept, goes}

-- how many seats are unsettled, as a sum
is_sum : {E : Type 0} (k : ℕ) (qs : List (TraySeat E)) → all_unsettled k qs ≡ sum_by (unsettled k) qs
is_sum k [] = refl
is_sum k (q ∷ qs) = omega (arith, is_sum k qs, sum_by-cons (unsettled k) q qs)

-- a seat without a command: empty, or ended
abbrev pub Rests : {E : Type 0} → TraySeat E → Type 0
Rests Empty = Unit {0}
Rests (Loaded c) = ⊥
Rests (Running t) = ⊥
Rests (Ended r) = Unit {0}

at_most_one : (b : Bool) → cond {A = ℕ} b 0 1 ≤ 1
at_most_one true = zero-le
at_most_one false = le_refl 1

module _ {E : Type 0} (e : ElementKind E) (s : TrayState E) (b : Bounded e.blank s) (i : ℕ) (l : i < s.count) where
  abbrev before : ℕ
  before = all_unsettled s.room (take s.count s.seats)

  abbrev after : TraySeat E → ℕ
  after q = all_unsettled s.room (take s.count (set s.seats i q))

  -- what is true of a tray with workers
  pub held : Held e.blank s before
  held = b.held (omega arith)

  counted : (q : TraySeat E) → after q + unsettled s.room (seat_at s.seats i) ≡ before + unsettled s.room q
  counted q =
      omega (
        arith,
        is_sum s.room (take s.count s.seats),
        is_sum s.room (take s.count (set s.seats i q)),
        sum_set (unsettled s.room) s.count Empty s.seats b.seats_long i l q,
      )

  -- worker i has another seat, in a tray with other cells, another head and more seatings
  reseated : (cs : List (Cell E)) (hs : List (Head E)) (q : TraySeat E) (g : ℕ)
      → after q + s.seatings ≤ before + g → g ≤ most_seatings
      → length cs ≡ length s.cells → length hs ≡ length s.heads → (head_of e.blank hs).index ≤ s.room
      → ((y : ℕ) → y ≤ s.room → TickOk (after q) g (cell_at e.blank cs y).tick) → TickOk (after q) g (head_of e.blank hs).tick
      → SeatOk s.room (after q) g q
      → Bounded e.blank (record { cells = cs; heads = hs; seats = set s.seats i q; seatings = g; room = s.room; count = s.count })
  reseated cs hs q g more few cl hl top cells head ok =
      record {
        seats_long = omega (arith, b.seats_long, length-set s.seats i q);
        room_small = b.room_small;
        few = few;
        held = λ _.
            record {
              heads_long = omega (arith, held.heads_long);
              cells_long = omega (arith, held.cells_long);
              some_room = held.some_room;
              top = top;
              cells_ok = cells;
              head_ok = head;
              seats_ok = λ j m. elim (cases_eq j i) [
                | inl f ↦ subst (λ z. SeatOk s.room (after q) g z)
                    (sym (ap (seat_at (set s.seats i q)) f ∙ get_or-set_same s.seats i q Empty (omega (arith, b.seats_long)))) ok
                | inr n ↦ subst (λ z. SeatOk s.room (after q) g z)
                    (sym (get_or-set_other s.seats i j q Empty n)) (seat_kept before s.seatings (after q) g more s.room _ (held.seats_ok j m))
              ];
            };
      }

  -- only the seat is another
  quiet : (q : TraySeat E) (g : ℕ) → after q + s.seatings ≤ before + g → g ≤ most_seatings → SeatOk s.room (after q) g q
      → Bounded e.blank (record { cells = s.cells; heads = s.heads; seats = set s.seats i q; seatings = g; room = s.room; count = s.count })
  quiet q g more few ok =
      reseated s.cells s.heads q g more few refl refl held.top
      (λ y m. tick_kept before s.seatings (after q) g more (held.cells_ok y m))
      (tick_kept before s.seatings (after q) g more held.head_ok) ok

  -- what a seat that is no more unsettled than before leaves
  fewer : (q q' : TraySeat E) → seat_at s.seats i ≡ q → unsettled s.room q' ≤ unsettled s.room q → after q' + s.seatings ≤ before + s.seatings
  fewer q q' f m = omega (arith, counted q', ap (unsettled s.room) f)

  helped : (t : Try E) (u : E) (q : TraySeat E) → after q + s.seatings ≤ before + s.seatings
      → TryOk s.room before s.seatings t → SeatOk s.room (after q) s.seatings q
      → Bounded e.blank (record { cells = helped_cells e s.cells t u; heads = s.heads; seats = set s.seats i q; seatings = s.seatings; room = s.room; count = s.count })
  helped t u q more try ok = go (helps e (cell_at e.blank s.cells t.head.index) t u)
    where
      within_cells : t.head.index < length s.cells
      within_cells = omega (arith, held.cells_long, try.index)

      go : (h : Bool) → Bounded e.blank (record {
        cells = cond h (set s.cells t.head.index (record { element = t.head.element; tick = t.head.tick })) s.cells;
        heads = s.heads;
        seats = set s.seats i q;
        seatings = s.seatings;
        room = s.room;
        count = s.count;
      })
      go true =
          reseated (set s.cells t.head.index (record { element = t.head.element; tick = t.head.tick })) s.heads q s.seatings more b.few
          (length-set s.cells t.head.index _) refl held.top
          (λ y m. elim (cases_eq y t.head.index) [
            | inl f ↦ subst (λ z. TickOk (after q) s.seatings z.tick)
                (sym (ap (cell_at e.blank (set s.cells t.head.index (record { element = t.head.element; tick = t.head.tick }))) f
                ∙ get_or-set_same s.cells t.head.index (record { element = t.head.element; tick = t.head.tick }) _ within_cells))
                (tick_kept before s.seatings (after q) s.seatings more try.tick)
            | inr n ↦ subst (λ z. TickOk (after q) s.seatings z.tick)
                (sym (get_or-set_other s.cells t.head.index y (record { element = t.head.element; tick = t.head.tick }) _ n))
                (tick_kept before s.seatings (after q) s.seatings more (held.cells_ok y m))
          ])
          (tick_kept before s.seatings (after q) s.seatings more held.head_ok) ok
      go false = quiet q s.seatings more b.few ok

  -- the head moves, and one seat more has settled
  moved : (t : Try E) (x : Next E) (q : TraySeat E) → after q + 1 ≤ before → SeatOk s.room before s.seatings (Running (NeighbourRead t x))
      → SeatOk s.room (after q) s.seatings q
      → Bounded e.blank (record { cells = s.cells; heads = set s.heads 0 (moved_head e t x); seats = set s.seats i q; seatings = s.seatings; room = s.room; count = s.count })
  moved t x q less o ok =
      let more : after q + s.seatings ≤ before + s.seatings = omega arith in
      let top : head_of e.blank (set s.heads 0 (moved_head e t x)) ≡ moved_head e t x = get_or-set_same s.heads 0 (moved_head e t x) _ held.heads_long in
      reseated s.cells (set s.heads 0 (moved_head e t x)) q s.seatings more b.few refl (length-set s.heads 0 _)
      (subst (λ h. h.index ≤ s.room) (sym top) (goes s.room t o.0.index o.1).0)
      (λ y m. tick_kept before s.seatings (after q) s.seatings more (held.cells_ok y m))
      (subst (λ h. TickOk (after q) s.seatings h.tick) (sym top) (tick_up before s.seatings (after q) less x.tick o.2))
      ok

  -- an access of worker i, whose seat is q
  pub access_bounded : (q : TraySeat E) → seat_at s.seats i ≡ q → SeatOk s.room before s.seatings q
      → Bounded e.blank (accessed e s i q).1
  access_bounded Empty at o = b
  access_bounded (Loaded c) at o =
      let more = fewer (Loaded c) (Running (HeadRead (record { command = c; head = head_of e.blank s.heads }))) at (at_most_one (at_limit s.room (head_of e.blank s.heads) c)) in
      quiet _ s.seatings more b.few
      (record {
        index = held.top;
        tick = tick_kept before s.seatings _ s.seatings more held.head_ok;
      })
  access_bounded (Running (HeadRead t)) at o =
      let more = fewer (Running (HeadRead t)) (Running (CellRead t (cell_at e.blank s.cells t.head.index).element)) at (le_refl (cond (settled_early s.room t) 0 1)) in
      quiet _ s.seatings more b.few (try_kept before s.seatings _ s.seatings more o)
  access_bounded (Running (CellRead t u)) at o = go (settled_early s.room t) refl
    where
      go : (y : Bool) → settled_early s.room t ≡ y
          → Bounded e.blank (record {
            cells = helped_cells e s.cells t u;
            heads = s.heads;
            seats = set s.seats i (cond y (Ended (limit_reply e t.command)) (Running (CellWritten t)));
            seatings = s.seatings;
            room = s.room;
            count = s.count;
          })
      go true y = helped t u _ (fewer (Running (CellRead t u)) (Ended (limit_reply e t.command)) at zero-le) o tt
      go false y =
          let more = fewer (Running (CellRead t u)) (Running (CellWritten t)) at (omega (arith, ap (λ z. cond {A = ℕ} z 0 1) y)) in
          helped t u _ more o (try_kept before s.seatings _ s.seatings more o, y)
  access_bounded (Running (CellWritten t)) at o =
      let more = fewer (Running (CellWritten t)) (Running (NeighbourRead t (next_of e s.cells t))) at (le_refl 1) in
      quiet _ s.seatings more b.few (
        try_kept before s.seatings _ s.seatings more o.0,
        o.1,
        tick_kept before s.seatings _ s.seatings more (held.cells_ok (neighbour t) (goes s.room t o.0.index o.1).0),
      )
  access_bounded (Running (NeighbourRead t x)) at o =
      by_test (Bounded e.blank) (unchanged e (head_of e.blank s.heads) t) _ _
      (λ _. moved t x (Ended (done_reply e t)) (omega (arith, counted (Ended (done_reply e t)), ap (unsettled s.room) at)) o tt)
      (λ _. quiet (Loaded t.command) s.seatings (fewer (Running (NeighbourRead t x)) (Loaded t.command) at (le_refl 1)) b.few tt)
  access_bounded (Ended r) at o = b

  -- a seat is left without a command
  pub rested_bounded : (q : TraySeat E) → Rests q → Bounded e.blank (with_seat s i q)
  rested_bounded Empty r = quiet Empty s.seatings (fewer (seat_at s.seats i) Empty refl zero-le) b.few tt
  rested_bounded (Loaded c) r = absurd r
  rested_bounded (Running t) r = absurd r
  rested_bounded (Ended y) r = quiet (Ended y) s.seatings (fewer (seat_at s.seats i) (Ended y) refl zero-le) b.few tt

  -- as one that is emptied
  pub emptied_bounded : Bounded e.blank (with_seat s i Empty)
  emptied_bounded = rested_bounded Empty tt

  -- or loaded, which is one seating more
  pub loaded_bounded : (c : TrayCommand E) → s.seatings < most_seatings
      → Bounded e.blank (state_of s.cells s.heads (set s.seats i (Loaded c)) (s.seatings + 1) s.room s.count)
  loaded_bounded c f = quiet (Loaded c) (s.seatings + 1) (omega (arith, counted (Loaded c))) (omega arith) tt

pub none_unsettled : (E : Type 0) (k n : ℕ) → all_unsettled {E = E} k (replicate n Empty) ≡ 0
none_unsettled E k n = omega (arith, is_sum {E = E} k (replicate n Empty), sum_by-replicate (unsettled {E = E} k) n Empty)

-- so each call leaves a tray within its bounds, by these alone
module _ {E : Type 0} (e : ElementKind E) (s : TrayState E) (b : Bounded e.blank s) (i : ℕ) where
  pub seat_bounded : (d : Command E) → Bounded e.blank (seat_outcome s i d).1
  seat_bounded d =
      seat_left s.seats s.count s (loaded s i d) (Bounded e.blank) b i s.seatings (tray_knows d.kind)
      (λ l _ f. loaded_bounded e s b i l (tray_command d) f)

  pub step_bounded : Bounded e.blank (step_outcome e s i).1
  step_bounded =
      by_test (Bounded e.blank) (ltb i s.count) _ _
      (λ f. let l = ltb-true i s.count f in access_bounded e s b i l (seat_at s.seats i) refl ((held e s b i l).seats_ok i l)) (λ _. b)

  pub take_bounded : (e' : ElementKind E) → Bounded e.blank (take_outcome e' s i).1
  take_bounded e' = take_left s.seats s.count s (with_seat s i Empty) (Bounded e.blank) b i e'.blank (emptied_bounded e s b i)

pub clear_bounded : {E : Type 0} (blank : E) (s : TrayState E) → Bounded blank s → Bounded blank (clear_outcome s)
clear_bounded blank s b =
    filled_keeps (λ qs. Bounded blank (with_seats s qs)) Empty s.seats s.count b.seats_long b
    (λ qs i l o. emptied_bounded (uncompared blank) (with_seats s qs) o i l) s.count (le_refl s.count)
