-- A whole call of one worker, with no call of another in between.
use Rattle.std.specs.Prelude.{◌≡◌, ℕ, ◌+◌, ◌<◌, Bool, true, false, cond, map, Ok, Err, Result}
use Rattle.elements.specs.Outcomes.{unless_refused}
use Rattle.elements.specs.declared.commands.Command.{Command}
use Rattle.elements.specs.declared.commands.Reply.{Reply}
use Rattle.elements.specs.declared.answers.StepAnswer.{StepAnswer}
use Rattle.elements.specs.declared.answers.StepAnswer.TheVariants.{Moved, Settled, SettledEnded, Ended, StoodOff}
use Rattle.elements.specs.declared.refusals.Refusal.{Refusal}
use Rattle.pieces.specs.Names.{Names}
use Rattle.pieces.specs.Views.{PieceView, workers_of, seat_of, loaded}
use Rattle.pieces.specs.Accesses.{disturbed_seat, after}
use Rattle.pieces.specs.Calls.{seat_refusal}

-- was a Step answered with the end of its try?
abbrev pub ended_by : Result StepAnswer Refusal → Bool
ended_by (Ok Moved) = false
ended_by (Ok Settled) = false
ended_by (Ok SettledEnded) = true
ended_by (Ok Ended) = true
ended_by (Ok StoodOff) = false
ended_by (Err r) = false

-- a try that was begun at a loaded seat and made to its end: all its accesses together are one that settles and ends it
abbrev pub Finished : {E C : Type 0} → Names E C → PieceView E C → ℕ → PieceView E C → Type 0
Finished {E} N v i v' = (c : Command E) → i < workers_of v → seat_of v i ≡ loaded c → v' ≡ after N v i SettledEnded

module _ {E C : Type 0} (N : Names E C) where
  -- what a whole call gives and leaves: reply and content are the ordinary object's, there is one seating more, a change
  -- disturbs every try that has not settled, and the worker's seat is empty again
  abbrev pub called_alone_view : PieceView E C → Command E → Reply E × PieceView E C
  called_alone_view v c = (
    (N.ordinary v.content c).1,
    record {
      content = (N.ordinary v.content c).0;
      seatings = v.seatings + 1;
      seats = cond (N.change (N.ordinary v.content c).1.code) (map disturbed_seat v.seats) v.seats;
    },
  )

  -- it is refused as a Seat is, or does that
  abbrev pub called_alone : PieceView E C → ℕ → Command E → Result (Reply E) Refusal × PieceView E C
  called_alone v i c = unless_refused (seat_refusal N v i c) v (called_alone_view v c)
