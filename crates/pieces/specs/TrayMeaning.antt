-- What a tray means.
use Rattle.std.specs.Prelude.{ℕ, false, cond, not, List, map, take, Some, None}
use Rattle.elements.specs.declared.element.Element.{Ghosts}
use Rattle.elements.specs.Codes.{is_change}
use Rattle.elements.specs.Kinds.{ElementKind}
use Rattle.pieces.specs.Names.{Names}
use Rattle.pieces.specs.Views.{TryView, SeatView, empty, loaded, running, ended, PieceView}
use Rattle.pieces.specs.Meanings.{PieceCalls, PieceMeaning}
use Rattle.pieces.specs.declared.tray.Tray.{Tray}
use Rattle.pieces.specs.declared.tray.records.Head.{Head}
use Rattle.pieces.specs.declared.tray.records.Try.{Try}
use Rattle.pieces.specs.declared.seats.Seat.TheVariants.{Empty, Loaded, Running, Ended}
use Rattle.pieces.specs.declared.tray.records.Phase.TheVariants.{HeadRead, CellRead, CellWritten, NeighbourRead}
use Rattle.pieces.specs.TrayKinds.{TraySeat, tray_kinds, command_of}
use Rattle.pieces.specs.OrdinaryTray.{ordinary_tray}
use Rattle.pieces.specs.TrayStates.{TrayState, head_of, tray_content}
use Rattle.pieces.specs.TrayAccess.{settled_early, agrees, limit_reply}
use Rattle.pieces.specs.TrayCalls.{seat_outcome, step_outcome, take_outcome, clear_outcome}
use Rattle.pieces.specs.Trays.{tray_state}

module _ {E : Type 0} (e : ElementKind E) where
  -- it names the ordinary tray of its k places; its longest try is a push or a pop that reaches the head
  abbrev pub tray_names : TrayState E → Names E (List E)
  tray_names s =
      record { blank = e.blank; kinds = tray_kinds; ordinary = ordinary_tray e.blank s.room; change = is_change; longest = 5 }

  -- a try after n accesses, in a tray of k places, while the head is h. One that found the tray at its limit has settled;
  -- any other is disturbed once the head has no longer the index and the tick that it saw
  abbrev pub try_view : ℕ → Head E → Try E → ℕ → TryView E
  try_view k h t n =
      record {
        accesses = n;
        disturbed = cond (settled_early k t) false (not (agrees h t));
        settled = cond (settled_early k t) (Some (limit_reply e t.command)) None;
      }

  abbrev pub seat_view : ℕ → Head E → TraySeat E → SeatView E
  seat_view k h Empty = empty
  seat_view k h (Loaded c) = loaded (command_of c)
  seat_view k h (Running (HeadRead t)) = running (command_of t.command) (try_view k h t 1)
  seat_view k h (Running (CellRead t u)) = running (command_of t.command) (try_view k h t 2)
  seat_view k h (Running (CellWritten t)) = running (command_of t.command) (try_view k h t 3)
  seat_view k h (Running (NeighbourRead t x)) = running (command_of t.command) (try_view k h t 4)
  seat_view k h (Ended r) = ended r

  abbrev pub tray_view : TrayState E → PieceView E (List E)
  tray_view s =
      record {
        content = tray_content e.blank s;
        seatings = s.seatings;
        seats = map (seat_view s.room (head_of e.blank s.heads)) (take s.count s.seats);
      }

  abbrev pub tray_calls : PieceCalls E (TrayState E)
  tray_calls = record { seat = seat_outcome; step = step_outcome e; take = take_outcome e; clear = clear_outcome }

  abbrev pub tray_meaning : {g : Ghosts E} → PieceMeaning (Tray E g) E
  tray_meaning =
      record { Content = List E; Model = TrayState E; model = tray_state; names = tray_names; view = tray_view; calls = tray_calls }
