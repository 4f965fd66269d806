-- The calls of a piece: which questions are asked before each, in which order, and what it answers and leaves.
use Rattle.std.specs.Prelude.{◌≡◌, ℕ, ◌+◌, Bool, true, false, map, Some, None, Ok, Err, Option, Result, nat_lt, slice_set, refl}
use Rattle.elements.specs.Codes.{reply}
use Rattle.elements.specs.Outcomes.{unless_refused}
use Rattle.elements.specs.Refusals.{refusal, ask}
use Rattle.elements.specs.declared.commands.Command.{Command}
use Rattle.elements.specs.declared.commands.Reply.{Reply}
use Rattle.elements.specs.declared.commands.Code.TheVariants.{StoodOff}
use Rattle.elements.specs.declared.answers.StepAnswer.{StepAnswer}
use Rattle.elements.specs.declared.refusals.Refusal.{Refusal}
use Rattle.elements.specs.declared.refusals.Cause.TheVariants.{NoSuchWorker, NotIdle, UnknownKind, NoSeatingsLeft, NothingToStep, NothingToTake}
use Rattle.elements.specs.declared.refusals.Layer.TheVariants.{Piece}
use Rattle.pieces.specs.Names.{Names, knows}
use Rattle.pieces.specs.Views.{SeatView, empty, loaded, running, ended, PieceView, workers_of, seat_of}
use Rattle.pieces.specs.Accesses.{Allowed, after}

-- how often a piece can be seated
abbrev pub most_seatings : ℕ
most_seatings = 4000000000

module _ {E : Type 0} where
  -- is the seat empty?
  abbrev pub is_empty : SeatView E → Bool
  is_empty empty = true
  is_empty (loaded c) = false
  is_empty (running c t) = false
  is_empty (ended r) = false

  -- is it loaded or running?
  abbrev pub can_step : SeatView E → Bool
  can_step empty = false
  can_step (loaded c) = true
  can_step (running c t) = true
  can_step (ended r) = false

  -- is it ended, or loaded without a try?
  abbrev pub can_take : SeatView E → Bool
  can_take empty = false
  can_take (loaded c) = true
  can_take (running c t) = false
  can_take (ended r) = true

  -- what a Take gives: the reply of an ended seat; else that the call was stood off
  abbrev pub reply_at : E → SeatView E → Reply E
  reply_at blank empty = reply StoodOff blank
  reply_at blank (loaded c) = reply StoodOff blank
  reply_at blank (running c t) = reply StoodOff blank
  reply_at blank (ended r) = r

module _ {E C : Type 0} where
  -- the view with another seat of worker i
  abbrev pub reseated : PieceView E C → ℕ → SeatView E → PieceView E C
  reseated v i q = record v { seats = slice_set v.seats i q }

  -- the questions before a Step, the first no deciding
  abbrev pub step_refusal : PieceView E C → ℕ → Option Refusal
  step_refusal v i =
      ask (nat_lt i (workers_of v)) (refusal Piece 1 NoSuchWorker refl refl)
      (ask (can_step (seat_of v i)) (refusal Piece 6 NothingToStep refl refl) None)

  -- before a Take
  abbrev pub take_refusal : PieceView E C → ℕ → Option Refusal
  take_refusal v i =
      ask (nat_lt i (workers_of v)) (refusal Piece 1 NoSuchWorker refl refl)
      (ask (can_take (seat_of v i)) (refusal Piece 7 NothingToTake refl refl) None)

  -- Clear empties every seat
  abbrev pub cleared : PieceView E C → PieceView E C
  cleared v = record v { seats = map (λ _. empty) v.seats }

module _ {E C : Type 0} (N : Names E C) where
  -- before a Seat
  abbrev pub seat_refusal : PieceView E C → ℕ → Command E → Option Refusal
  seat_refusal v i c =
      ask (nat_lt i (workers_of v)) (refusal Piece 1 NoSuchWorker refl refl)
      (ask (is_empty (seat_of v i)) (refusal Piece 2 NotIdle refl refl)
      (ask (knows N c) (refusal Piece 4 UnknownKind refl refl)
      (ask (nat_lt v.seatings most_seatings) (refusal Piece 5 NoSeatingsLeft refl refl) None)))

  -- Seat loads the empty seat, and is one seating more
  abbrev pub seated : PieceView E C → ℕ → Command E → Result (Unit {0}) Refusal × PieceView E C
  seated v i c =
      unless_refused (seat_refusal v i c) v
      (tt, reseated (record v { seatings = v.seatings + 1 }) i (loaded c))

  -- Take empties the seat, and gives its reply
  abbrev pub taken : PieceView E C → ℕ → Result (Reply E) Refusal × PieceView E C
  taken v i = unless_refused (take_refusal v i) v (reply_at N.blank (seat_of v i), reseated v i empty)

  -- Step is answered by what is allowed, and leaves what that answer says
  abbrev pub Stepped : PieceView E C → ℕ → Result StepAnswer Refusal → PieceView E C → Type 0
  Stepped v i (Ok a) v' = (step_refusal v i ≡ None) × Allowed N.longest (seat_of v i) a × (v' ≡ after N v i a)
  Stepped v i (Err e) v' = (step_refusal v i ≡ Some e) × (v' ≡ v)
