-- What is always true of a tray besides its bounds: how what the seats remember agrees with the cells and the head.
use Rattle.std.specs.Prelude.{◌≡◌, ℕ, ◌<◌, ◌≤◌, true, false, cond, List, pos, ◌+ℤ◌, ◌≤ℤ◌}
use Rattle.pieces.specs.declared.tray.records.Cell.{Cell}
use Rattle.pieces.specs.declared.tray.records.Head.{Head}
use Rattle.pieces.specs.declared.tray.records.Try.{Try}
use Rattle.pieces.specs.declared.tray.records.Next.{Next}
use Rattle.pieces.specs.declared.seats.Seat.TheVariants.{Empty, Loaded, Running, Ended}
use Rattle.pieces.specs.declared.tray.records.Phase.TheVariants.{HeadRead, CellRead, CellWritten, NeighbourRead}
use Rattle.pieces.specs.TrayKinds.{TraySeat, pushes}
use Rattle.pieces.specs.Seats.{seat_at}
use Rattle.pieces.specs.TrayStates.{TrayState, cell_at, head_of}
use Rattle.pieces.specs.TrayAccess.{agrees, neighbour}
use Rattle.pieces.specs.TrayBounds.{Bounded}

module _ {E : Type 0} where
  -- the head and its cell c: the cell is one tick behind, or holds the head's element
  pub record HeadTrue (c : Cell E) (h : Head E) : Type 0 where
    pub behind : h.tick ≤ℤ (c.tick +ℤ pos 1)
    pub ahead : c.tick ≤ℤ h.tick
    pub written : c.tick ≡ h.tick → c.element ≡ h.element

  -- a try and the cell c of the head that it saw, while the head is h: the cell is at most one tick behind; while the head
  -- has the index and the tick that the try saw, it has the element too; and once it has not, the cell is no tick behind
  -- any more, so that a late write finds nothing to overwrite
  pub record TryTrue (c : Cell E) (h : Head E) (t : Try E) : Type 0 where
    pub behind : t.head.tick ≤ℤ (c.tick +ℤ pos 1)
    pub stands : agrees h t ≡ true → h.element ≡ t.head.element
    pub past : agrees h t ≡ false → t.head.tick ≤ℤ c.tick

  -- what access 2 read is still in the cell, if that is still one tick behind
  abbrev pub ReadTrue : Cell E → Try E → E → Type 0
  ReadTrue c t u = (c.tick +ℤ pos 1) ≡ t.head.tick → c.element ≡ u

  -- after access 3 the cell is no tick behind
  abbrev pub WriteTrue : Cell E → Try E → Type 0
  WriteTrue c t = t.head.tick ≤ℤ c.tick

  -- what access 4 read is what the neighbour's cell c holds
  pub record NextTrue (c : Cell E) (t : Try E) (x : Next E) : Type 0 where
    pub tick : x.tick ≡ c.tick
    pub element : x.element ≡ cond (pushes t.command) t.command.element c.element

  -- a seat by its phase; what access 4 read stands while the head stands. `blank` is for what is past the cells' end
  abbrev pub SeatTrue : E → List (Cell E) → Head E → TraySeat E → Type 0
  SeatTrue blank cs h Empty = Unit {0}
  SeatTrue blank cs h (Loaded c) = Unit {0}
  SeatTrue blank cs h (Running (HeadRead t)) = TryTrue (cell_at blank cs t.head.index) h t
  SeatTrue blank cs h (Running (CellRead t u)) =
      TryTrue (cell_at blank cs t.head.index) h t × ReadTrue (cell_at blank cs t.head.index) t u
  SeatTrue blank cs h (Running (CellWritten t)) =
      TryTrue (cell_at blank cs t.head.index) h t × WriteTrue (cell_at blank cs t.head.index) t
  SeatTrue blank cs h (Running (NeighbourRead t x)) =
      TryTrue (cell_at blank cs t.head.index) h t
      × WriteTrue (cell_at blank cs t.head.index) t
      × (agrees h t ≡ true → NextTrue (cell_at blank cs (neighbour t)) t x)
  SeatTrue blank cs h (Ended r) = Unit {0}

module _ {E : Type 0} (blank : E) (s : TrayState E) where
  pub record Consistent : Type 0 where
    pub head_true : HeadTrue (cell_at blank s.cells (head_of blank s.heads).index) (head_of blank s.heads)
    pub seats_true : (j : ℕ) → j < s.count → SeatTrue blank s.cells (head_of blank s.heads) (seat_at s.seats j)

  -- of every tray: its bounds, at most sixteen workers, and that it is consistent
  pub record Sound : Type 0 where
    pub bounded : Bounded blank s
    pub few_workers : s.count ≤ 16
    pub consistent : 0 < s.count → Consistent
