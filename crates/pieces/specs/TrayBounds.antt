-- What is always true of a tray: its indices lie in its strips, and no tick passes the number of seatings.
use Rattle.std.specs.Prelude.{◌≡◌, ℕ, ◌+◌, ◌<◌, ◌≤◌, false, cond, List, [], ◌∷◌, length, take}
use Rattle.pieces.specs.declared.tray.records.Cell.{Cell}
use Rattle.pieces.specs.declared.tray.records.Head.{Head}
use Rattle.pieces.specs.declared.tray.records.Try.{Try}
use Rattle.pieces.specs.TrayKinds.{TraySeat}
use Rattle.pieces.specs.declared.seats.Seat.TheVariants.{Empty, Loaded, Running, Ended}
use Rattle.pieces.specs.declared.tray.records.Phase.TheVariants.{HeadRead, CellRead, CellWritten, NeighbourRead}
use Rattle.pieces.specs.Calls.{most_seatings}
use Rattle.pieces.specs.Ticks.{TickOk}
use Rattle.pieces.specs.Seats.{seat_at}
use Rattle.pieces.specs.TrayStates.{TrayState, cell_at, head_of}
use Rattle.pieces.specs.TrayAccess.{settled_early}

-- 1 for a seat that is loaded, or runs a try that has not settled
abbrev pub unsettled : {E : Type 0} → ℕ → TraySeat E → ℕ
unsettled k Empty = 0
unsettled k (Loaded c) = 1
unsettled k (Running (HeadRead t)) = cond (settled_early k t) 0 1
unsettled k (Running (CellRead t u)) = cond (settled_early k t) 0 1
unsettled k (Running (CellWritten t)) = 1
unsettled k (Running (NeighbourRead t x)) = 1
unsettled k (Ended r) = 0

-- how many seats are so
abbrev pub all_unsettled : {E : Type 0} → ℕ → List (TraySeat E) → ℕ
all_unsettled k [] = 0
all_unsettled k (q ∷ qs) = unsettled k q + all_unsettled k qs

-- the head that a try remembers lies within the tray
pub record TryOk {E : Type 0} (k p g : ℕ) (t : Try E) : Type 0 where
  pub index : t.head.index ≤ k
  pub tick : TickOk p g t.head.tick

-- what a seat remembers; a try that goes on after its third access has not settled
abbrev pub SeatOk : {E : Type 0} → ℕ → ℕ → ℕ → TraySeat E → Type 0
SeatOk k p g Empty = Unit {0}
SeatOk k p g (Loaded c) = Unit {0}
SeatOk k p g (Running (HeadRead t)) = TryOk k p g t
SeatOk k p g (Running (CellRead t u)) = TryOk k p g t
SeatOk k p g (Running (CellWritten t)) = TryOk k p g t × (settled_early k t ≡ false)
SeatOk k p g (Running (NeighbourRead t x)) = TryOk k p g t × (settled_early k t ≡ false) × TickOk p g x.tick
SeatOk k p g (Ended r) = Unit {0}

-- of a tray with workers, p of whose seats have not settled; `blank` stands for what is past a strip's end
pub record Held {E : Type 0} (blank : E) (s : TrayState E) (p : ℕ) : Type 0 where
  pub heads_long : 0 < length s.heads
  pub cells_long : s.room < length s.cells
  pub some_room : 1 ≤ s.room
  pub top : (head_of blank s.heads).index ≤ s.room
  pub cells_ok : (y : ℕ) → y ≤ s.room → TickOk p s.seatings (cell_at blank s.cells y).tick
  pub head_ok : TickOk p s.seatings (head_of blank s.heads).tick
  pub seats_ok : (j : ℕ) → j < s.count → SeatOk s.room p s.seatings (seat_at s.seats j)

-- of every tray
pub record Bounded {E : Type 0} (blank : E) (s : TrayState E) : Type 0 where
  pub seats_long : s.count ≤ length s.seats
  pub room_small : s.room ≤ 1024
  pub few : s.seatings ≤ most_seatings
  pub held : 0 < s.count → Held blank s (all_unsettled s.room (take s.count s.seats))

-- what an access relies on, at the seat q, in strips of k places: they are long enough, and what the seat remembers lies
-- within them
pub record Reachable {E : Type 0} (k : ℕ) (cs : List (Cell E)) (hs : List (Head E)) (q : TraySeat E) : Type 0 where
  pub heads : 0 < length hs
  pub cells : k < length cs
  pub room : k ≤ 1024
  pub remembered : SeatOk k 0 most_seatings q
