use Rattle.std.proofs.Common.{◌≡◌, ◌≤◌, length, vec_items, vec_len, vec_capacity}
use Rattle.pieces.specs.Trays.{tray_state}
use Rattle.runs.proofs.Playing.{FirstCalls}
use Rattle.runs.proofs.play.play.Given as goal

abbrev pub invariant-loop-call : goal.invariant-loop-call
invariant-loop-call g l =
    record {
      first : FirstCalls g.E.Element.kind (tray_state l.initial.tray) l.calls l.call-index (vec_items l.events) (tray_state l.tray);
      made : vec_len l.events ≡ l.call-index;
      places : length l.calls ≤ vec_capacity l.events;
    }
