-- A tray keeps in its type that it is sound: that is so in one way, and whatever is taken to stand past the ends of the strips.
use Rattle.std.proofs.Common.{◌≡◌, ℕ, ◌<◌, ◌≤◌, List, length, pos, sym, subst, arith}
use mathlib.Core.Logic.{∥∥₁_elim}
use base.Stored.{Coded, Coded-set}
use Rattle.std.proofs.Props.{props}
use Rattle.std.proofs.lemmas.List.{get_or_default}
use Rattle.pieces.specs.Ticks.{TickOk}
use Rattle.pieces.specs.declared.tray.records.Cell.{Cell}
use Rattle.pieces.specs.declared.tray.records.Head.{Head}
use Rattle.pieces.specs.TrayKinds.{TraySeat}
use Rattle.pieces.specs.declared.seats.Seat.TheVariants.{Empty, Loaded, Ended, Running}
use Rattle.pieces.specs.declared.tray.records.Phase.TheVariants.{HeadRead, CellRead, CellWritten, NeighbourRead}
use Rattle.pieces.specs.Seats.{seat_at}
use Rattle.pieces.specs.TrayStates.{TrayState, cell_at, head_of}
use Rattle.pieces.specs.TrayAccess.{neighbour}
use Rattle.pieces.specs.TrayBounds.{SeatOk, Held, Bounded}
use Rattle.pieces.specs.TraySound.{HeadTrue, TryTrue, ReadTrue, WriteTrue, NextTrue, SeatTrue, Consistent, Sound}
use Rattle.pieces.proofs.Ticks.{goes}

-- in one way: the bounds
pub seat_ok_one : (k p g : ℕ) {E : Type 0} (q : TraySeat E) → IsProp (SeatOk k p g q)
seat_ok_one k p g Empty = hlevel props
seat_ok_one k p g (Loaded c) = hlevel props
seat_ok_one k p g (Running (HeadRead t)) = hlevel props
seat_ok_one k p g (Running (CellRead t u)) = hlevel props
seat_ok_one k p g (Running (CellWritten t)) = hlevel props
seat_ok_one k p g (Running (NeighbourRead t n)) = hlevel props
seat_ok_one k p g (Ended r) = hlevel props

bounded_one : {E : Type 0} (blank : E) (s : TrayState E) → IsProp (Bounded blank s)
bounded_one blank s = hlevel (props, seat_ok_one)

-- and what seats, cells and head have in common, of elements that are a set
module _ {E : Type 0} (set : IsSet E) where
  seat_true_one : (blank : E) (cs : List (Cell E)) (h : Head E) (q : TraySeat E) → IsProp (SeatTrue blank cs h q)
  seat_true_one blank cs h Empty = hlevel props
  seat_true_one blank cs h (Loaded c) = hlevel props
  seat_true_one blank cs h (Running (HeadRead t)) = hlevel props
  seat_true_one blank cs h (Running (CellRead t u)) = hlevel props
  seat_true_one blank cs h (Running (CellWritten t)) = hlevel props
  seat_true_one blank cs h (Running (NeighbourRead t n)) = hlevel props
  seat_true_one blank cs h (Ended r) = hlevel props

  sound_one : (blank : E) (s : TrayState E) → IsProp (Sound blank s)
  sound_one blank s = hlevel (props, bounded_one, seat_true_one)

-- whatever the blank
module _ {E : Type 0} (d d' : E) (k p g : ℕ) (cs : List (Cell E)) (long : k < length cs) where
  cell_any : (y : ℕ) → y ≤ k → cell_at d cs y ≡ cell_at d' cs y
  cell_any y l = get_or_default cs y (record { element = d; tick = pos 0 }) (record { element = d'; tick = pos 0 }) (omega arith)

  seat_true_any : (h : Head E) (q : TraySeat E) → SeatOk k p g q → SeatTrue d cs h q → SeatTrue d' cs h q
  seat_true_any h Empty b o = o
  seat_true_any h (Loaded c) b o = o
  seat_true_any h (Running (HeadRead t)) b o = subst (λ c. TryTrue c h t) (cell_any t.head.index b.index) o
  seat_true_any h (Running (CellRead t u)) b o = subst (λ c. TryTrue c h t × ReadTrue c t u) (cell_any t.head.index b.index) o
  seat_true_any h (Running (CellWritten t)) b o = subst (λ c. TryTrue c h t × WriteTrue c t) (cell_any t.head.index b.0.index) o
  seat_true_any h (Running (NeighbourRead t x)) b o = (
    subst (λ c. TryTrue c h t) (cell_any t.head.index b.0.index) o.0,
    subst (λ c. WriteTrue c t) (cell_any t.head.index b.0.index) o.1,
    λ a. subst (λ c. NextTrue c t x) (cell_any (neighbour t) (goes k t b.0.index b.1).0) (o.2 a),
  )
  seat_true_any h (Ended r) b o = o

module _ {E : Type 0} (d d' : E) (s : TrayState E) where
  head_any : 0 < length s.heads → head_of d s.heads ≡ head_of d' s.heads
  head_any l = get_or_default s.heads 0 (record { index = 0; element = d; tick = pos 0 }) (record { index = 0; element = d'; tick = pos 0 }) l

  held_any : (p : ℕ) → Held d s p → Held d' s p
  held_any p h =
      record {
        heads_long = h.heads_long;
        cells_long = h.cells_long;
        some_room = h.some_room;
        top = subst (λ z. z.index ≤ s.room) (head_any h.heads_long) h.top;
        cells_ok = λ y l. subst (λ z. TickOk p s.seatings z.tick) (cell_any d d' s.room p s.seatings s.cells h.cells_long y l) (h.cells_ok y l);
        head_ok = subst (λ z. TickOk p s.seatings z.tick) (head_any h.heads_long) h.head_ok;
        seats_ok = h.seats_ok;
      }

  consistent_any : (p : ℕ) → Held d s p → Consistent d s → Consistent d' s
  consistent_any p b o =
      record {
        head_true = subst (λ h. HeadTrue (cell_at d' s.cells h.index) h) (head_any b.heads_long)
            (subst (λ c. HeadTrue c (head_of d s.heads))
            (cell_any d d' s.room p s.seatings s.cells b.cells_long (head_of d s.heads).index b.top) o.head_true);
        seats_true = λ j l. subst (λ h. SeatTrue d' s.cells h (seat_at s.seats j)) (head_any b.heads_long)
            (seat_true_any d d' s.room p s.seatings s.cells b.cells_long (head_of d s.heads) (seat_at s.seats j) (b.seats_ok j l) (o.seats_true j l));
      }

  bounded_any : Bounded d s → Bounded d' s
  bounded_any b = record { seats_long = b.seats_long; room_small = b.room_small; few = b.few; held = λ m. held_any _ (b.held m) }

  pub sound_any : Sound d s → Sound d' s
  sound_any o =
      record { bounded = bounded_any o.bounded; few_workers = o.few_workers; consistent = λ m. consistent_any _ (o.bounded.held m) (o.consistent m) }

-- out of a tray's type
pub known : {E : Type 0} → Coded E → (blank : E) (s : TrayState E) → ∥ Sound blank s ∥₁ → Sound blank s
known coded blank s w = ∥∥₁_elim w (sound_one (Coded-set coded) blank s) (λ o. o)

-- and back into it, after a call that leaves s'
pub keep : {E : Type 0} {blank : E} {s s' : TrayState E} → s' ≡ s → Sound blank s → ∥ Sound blank s' ∥₁
keep left o = ∣ subst (Sound _) (sym left) o ∣₁
