-- The five accesses of a try.
use Rattle.std.specs.Prelude.{ℕ, ◌+◌, ◌-◌, Bool, cond, ◌&&◌, List, pos, ◌+ℤ◌, ◌-ℤ◌, Ok, Err, Result, ◌==◌, slice_set, refl}
use Rattle.elements.specs.Kinds.{ElementKind}
use Rattle.elements.specs.Codes.{reply}
use Rattle.elements.specs.Refusals.{refusal}
use Rattle.elements.specs.declared.commands.Reply.{Reply}
use Rattle.elements.specs.declared.commands.Code.TheVariants.{Done, Full, Popped, Empty as Bare}
use Rattle.elements.specs.declared.answers.StepAnswer.{StepAnswer}
use Rattle.elements.specs.declared.answers.StepAnswer.TheVariants.{Moved, Settled, SettledEnded, Ended as AnsweredEnd, StoodOff}
use Rattle.elements.specs.declared.refusals.Refusal.{Refusal}
use Rattle.elements.specs.declared.refusals.Cause.TheVariants.{NothingToStep}
use Rattle.elements.specs.declared.refusals.Layer.TheVariants.{Piece}
use Rattle.pieces.specs.declared.tray.records.Cell.{Cell}
use Rattle.pieces.specs.declared.tray.records.Head.{Head}
use Rattle.pieces.specs.declared.tray.records.Try.{Try}
use Rattle.pieces.specs.declared.tray.records.Next.{Next}
use Rattle.pieces.specs.declared.seats.Seat.TheVariants.{Empty, Loaded, Running, Ended}
use Rattle.pieces.specs.declared.tray.records.Phase.TheVariants.{HeadRead, CellRead, CellWritten, NeighbourRead}
use Rattle.pieces.specs.Ticks.{tick_eq}
use Rattle.pieces.specs.TrayKinds.{TrayCommand, TraySeat, pushes}
use Rattle.pieces.specs.TrayStates.{TrayState, cell_at, head_of, with_cells, with_head, with_seat}

-- does a command find a tray of k places, with this head, at its limit: full for a push, empty for a pop?
abbrev pub at_limit : {E : Type 0} → ℕ → Head E → TrayCommand E → Bool
at_limit k h c = cond (pushes c) (h.index == k) (h.index == 0)

-- did a try settle at its first access?
abbrev pub settled_early : {E : Type 0} → ℕ → Try E → Bool
settled_early k t = at_limit k t.head t.command

-- the cell that a try makes the top: the one above for a push, the one below for a pop
abbrev pub neighbour : {E : Type 0} → Try E → ℕ
neighbour t = cond (pushes t.command) (t.head.index + 1) (t.head.index - 1)

-- has the head still the index and the tick that a try saw?
abbrev pub agrees : {E : Type 0} → Head E → Try E → Bool
agrees h t = h.index == t.head.index && tick_eq h.tick t.head.tick

module _ {E : Type 0} (e : ElementKind E) where
  -- the reply of a try that found the tray at its limit
  abbrev pub limit_reply : TrayCommand E → Reply E
  limit_reply c = cond (pushes c) (reply Full e.blank) (reply Bare e.blank)

  -- the reply of a try that moved the head: a pop has the element that was the top
  abbrev pub done_reply : Try E → Reply E
  done_reply t = cond (pushes t.command) (reply Done e.blank) (reply Popped t.head.element)

  -- access 3 helps: is the cell still as it was before the top that the try saw was laid on, and as access 2 read it?
  abbrev pub helps : Cell E → Try E → E → Bool
  helps c t u = tick_eq c.tick (t.head.tick -ℤ pos 1) && e.same c.element u

  -- the cells after it
  abbrev pub helped_cells : List (Cell E) → Try E → E → List (Cell E)
  helped_cells cs t u =
      cond (helps (cell_at e.blank cs t.head.index) t u)
      (slice_set cs t.head.index (record { element = t.head.element; tick = t.head.tick })) cs

  -- access 4 reads there the tick, and a pop the element too
  abbrev pub next_of : List (Cell E) → Try E → Next E
  next_of cs t =
      record {
        element = cond (pushes t.command) t.command.element (cell_at e.blank cs (neighbour t)).element;
        tick = (cell_at e.blank cs (neighbour t)).tick;
      }

  -- access 5 compares: has the head still the index, the tick and an element the same as the try saw?
  abbrev pub unchanged : Head E → Try E → Bool
  unchanged h t = h.index == t.head.index && tick_eq h.tick t.head.tick && e.same h.element t.head.element

  -- and sets
  abbrev pub moved_head : Try E → Next E → Head E
  moved_head t x = record { index = neighbour t; element = x.element; tick = x.tick +ℤ pos 1 }

  -- one access of worker i, whose seat is q: what it answers, and what it leaves
  abbrev pub accessed : TrayState E → ℕ → TraySeat E → Result StepAnswer Refusal × TrayState E
  accessed s i Empty = (Err (refusal Piece 6 NothingToStep refl refl), s)
  accessed s i (Loaded c) = (
    Ok (cond (at_limit s.room (head_of e.blank s.heads) c) Settled Moved),
    with_seat s i (Running (HeadRead (record { command = c; head = head_of e.blank s.heads }))),
  )
  accessed s i (Running (HeadRead t)) = (Ok Moved, with_seat s i (Running (CellRead t (cell_at e.blank s.cells t.head.index).element)))
  accessed s i (Running (CellRead t u)) = (
    Ok (cond (settled_early s.room t) AnsweredEnd Moved),
    with_seat (with_cells s (helped_cells s.cells t u)) i
        (cond (settled_early s.room t) (Ended (limit_reply t.command)) (Running (CellWritten t))),
  )
  accessed s i (Running (CellWritten t)) = (Ok Moved, with_seat s i (Running (NeighbourRead t (next_of s.cells t))))
  accessed s i (Running (NeighbourRead t x)) =
      cond (unchanged (head_of e.blank s.heads) t)
      (Ok SettledEnded, with_seat (with_head s (moved_head t x)) i (Ended (done_reply t)))
      (Ok StoodOff, with_seat s i (Loaded t.command))
  accessed s i (Ended r) = (Err (refusal Piece 6 NothingToStep refl refl), s)
