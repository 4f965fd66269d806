-- What a tray shows of itself; one without workers shows nothing.
use Rattle.std.specs.Prelude.{ℕ, cond, ◌&&◌, Some, None, Option, nat_le, nat_lt}
use Rattle.pieces.specs.declared.tray.records.Cell.{Cell}
use Rattle.pieces.specs.declared.tray.records.Head.{Head}
use Rattle.pieces.specs.TrayKinds.{TraySeat}
use Rattle.pieces.specs.Seats.{seat_at}
use Rattle.pieces.specs.TrayStates.{TrayState, cell_at, head_of}

module _ {E : Type 0} where
  abbrev pub shown_head : E → TrayState E → Option (Head E)
  shown_head blank s = cond (nat_lt 0 s.count) (Some (head_of blank s.heads)) None

  -- the cells 0 to k
  abbrev pub shown_cell : E → TrayState E → ℕ → Option (Cell E)
  shown_cell blank s x = cond (nat_lt 0 s.count && nat_le x s.room) (Some (cell_at blank s.cells x)) None

  abbrev pub shown_seat : TrayState E → ℕ → Option (TraySeat E)
  shown_seat s i = cond (nat_lt i s.count) (Some (seat_at s.seats i)) None
