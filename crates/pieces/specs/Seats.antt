-- The seats of a piece's workers, and the questions that every piece asks alike before its calls.
use Rattle.std.specs.Prelude.{ℕ, ◌+◌, Bool, true, false, cond, List, Ok, Err, Result, nat_lt, slice_index_or, refl}
use Rattle.elements.specs.Codes.{reply}
use Rattle.elements.specs.Refusals.{refusal}
use Rattle.elements.specs.declared.commands.Reply.{Reply}
use Rattle.elements.specs.declared.commands.Code.TheVariants.{StoodOff}
use Rattle.elements.specs.declared.refusals.Refusal.{Refusal}
use Rattle.elements.specs.declared.refusals.Cause.TheVariants.{NoSuchWorker, NotIdle, UnknownKind, NoSeatingsLeft, NothingToTake}
use Rattle.elements.specs.declared.refusals.Layer.TheVariants.{Piece}
use Rattle.pieces.specs.declared.seats.Seat.{Seat}
use Rattle.pieces.specs.declared.seats.Seat.TheVariants.{Empty, Loaded, Running, Ended}
use Rattle.pieces.specs.Calls.{most_seatings}
use Rattle.pieces.specs.Outcomes.{refused, if_worker}

module _ {K E T : Type 0} where
  -- the seat of worker i; empty for a worker that there is not
  abbrev pub seat_at : List (Seat K E T) → ℕ → Seat K E T
  seat_at qs i = slice_index_or qs i Empty

  -- is a seat empty?
  abbrev pub is_empty : Seat K E T → Bool
  is_empty Empty = true
  is_empty (Loaded c) = false
  is_empty (Running t) = false
  is_empty (Ended r) = false

  -- the seat of worker i of n, if there is such a worker
  abbrev pub occupant : ℕ → List (Seat K E T) → ℕ → Result (Seat K E T) Refusal
  occupant n qs i = cond (nat_lt i n) (Ok (seat_at qs i)) (Err (refusal Piece 1 NoSuchWorker refl refl))

  -- can a command be seated here?
  abbrev pub idle : Seat K E T → Result (Unit {0}) Refusal
  idle q = cond (is_empty q) (Ok tt) (Err (refusal Piece 2 NotIdle refl refl))

  -- what can be taken from a seat: the reply of an ended one; from a loaded one, that its call was stood off
  abbrev pub reply_in : E → Seat K E T → Result (Reply E) Refusal
  reply_in blank Empty = Err (refusal Piece 7 NothingToTake refl refl)
  reply_in blank (Loaded c) = Ok (reply StoodOff blank)
  reply_in blank (Running t) = Err (refusal Piece 7 NothingToTake refl refl)
  reply_in blank (Ended r) = Ok r

-- one seating more than g, if there are any left
abbrev pub once_more : ℕ → Result ℕ Refusal
once_more g = cond (nat_lt g most_seatings) (Ok (g + 1)) (Err (refusal Piece 5 NoSeatingsLeft refl refl))

-- the calls of a piece in the state m, whose n workers have the first n of the seats qs
module _ {K E T M : Type 0} (qs : List (Seat K E T)) (n : ℕ) (m : M) where
  -- Seat of worker i, after g seatings, of a command whose kind is known or is not: the questions, the first no deciding;
  -- one that is not refused leaves m'
  abbrev pub seat_asked : ℕ → ℕ → Bool → M → Result (Unit {0}) Refusal × M
  seat_asked i g known m' =
      if_worker n m i
      (cond (is_empty (seat_at qs i))
      (cond known (cond (nat_lt g most_seatings) (Ok tt, m') (refused m 5 NoSeatingsLeft refl refl)) (refused m 4 UnknownKind refl refl))
      (refused m 2 NotIdle refl refl))

  -- a Take that gives this leaves m', and one that is refused m
  abbrev pub taken_or : M → Result (Reply E) Refusal → Result (Reply E) Refusal × M
  taken_or m' (Ok r) = (Ok r, m')
  taken_or m' (Err x) = (Err x, m)

  -- Take of worker i
  abbrev pub take_asked : E → ℕ → M → Result (Reply E) Refusal × M
  take_asked blank i m' = if_worker n m i (taken_or m' (reply_in blank (seat_at qs i)))
