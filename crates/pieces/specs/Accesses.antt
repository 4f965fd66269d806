-- One access of a try: which answers may come, and what each of them leaves.
use Rattle.std.specs.Prelude.{◌≡◌, ℕ, ◌+◌, ◌<◌, ◌≤◌, Bool, true, false, cond, map, Some, None, Option, slice_set}
use Rattle.elements.specs.declared.commands.Command.{Command}
use Rattle.elements.specs.declared.commands.Reply.{Reply}
use Rattle.elements.specs.declared.answers.StepAnswer.{StepAnswer}
use Rattle.elements.specs.declared.answers.StepAnswer.TheVariants.{Moved, Settled, SettledEnded, Ended, StoodOff}
use Rattle.pieces.specs.Names.{Names}
use Rattle.pieces.specs.Views.{TryView, new_try, SeatView, empty, loaded, running, ended, PieceView, seat_of}

module _ {E : Type 0} where
  -- has a try settled?
  abbrev pub has_settled : Option (Reply E) → Bool
  has_settled None = false
  has_settled (Some r) = true

  -- the answers that an access of a try may get, where w is the most accesses in one try: all the freedom of a piece.
  -- The w-th access is not answered moved or settled; only a try that has not settled settles, and only such a one that
  -- is disturbed is stood off
  abbrev pub MayAnswer : ℕ → TryView E → StepAnswer → Type 0
  MayAnswer w t Moved = t.accesses + 1 < w
  MayAnswer w t Settled = (has_settled t.settled ≡ false) × (t.accesses + 1 < w)
  MayAnswer w t SettledEnded = (has_settled t.settled ≡ false) × (t.accesses + 1 ≤ w)
  MayAnswer w t Ended = (has_settled t.settled ≡ true) × (t.accesses + 1 ≤ w)
  MayAnswer w t StoodOff = (has_settled t.settled ≡ false) × (t.disturbed ≡ true) × (t.accesses + 1 ≤ w)

  -- and that an access at a seat may get: at a loaded one it begins a try
  abbrev pub Allowed : ℕ → SeatView E → StepAnswer → Type 0
  Allowed w empty a = ⊥
  Allowed w (loaded c) a = MayAnswer w new_try a
  Allowed w (running c t) a = MayAnswer w t a
  Allowed w (ended r) a = ⊥

  -- one access more, settled with o
  abbrev pub one_more : TryView E → Option (Reply E) → TryView E
  one_more t o = record t { accesses = t.accesses + 1; settled = o }

  -- the seat of a try that ends: with the reply that it settled with. One that had not settled would be loaded again
  abbrev pub ended_with : Command E → Option (Reply E) → SeatView E
  ended_with c None = loaded c
  ended_with c (Some r) = ended r

  -- a change of another worker disturbs a try that has not settled
  abbrev pub disturbed_try : Option (Reply E) → TryView E → TryView E
  disturbed_try None t = record t { disturbed = true }
  disturbed_try (Some r) t = t

  abbrev pub disturbed_seat : SeatView E → SeatView E
  disturbed_seat empty = empty
  disturbed_seat (loaded c) = loaded c
  disturbed_seat (running c t) = running c (disturbed_try t.settled t)
  disturbed_seat (ended r) = ended r

-- what an access leaves: the worker's seat, the content, and whether it disturbs the others
pub record Left (E C : Type 0) : Type 0 where
  pub seat : SeatView E
  pub content : C
  pub disturbs : Bool

module _ {E C : Type 0} (N : Names E C) where
  -- an access of a try t of the command c to the content x, by its answer. To settle is to have the ordinary object's
  -- reply, and its content, at this moment
  abbrev pub left_by : C → Command E → TryView E → StepAnswer → Left E C
  left_by x c t Moved = record { seat = running c (one_more t t.settled); content = x; disturbs = false }
  left_by x c t Settled =
      record {
        seat = running c (one_more t (Some (N.ordinary x c).1));
        content = (N.ordinary x c).0;
        disturbs = N.change (N.ordinary x c).1.code;
      }
  left_by x c t SettledEnded =
      record { seat = ended (N.ordinary x c).1; content = (N.ordinary x c).0; disturbs = N.change (N.ordinary x c).1.code }
  left_by x c t Ended = record { seat = ended_with c t.settled; content = x; disturbs = false }
  left_by x c t StoodOff = record { seat = loaded c; content = x; disturbs = false }

  -- an access at a seat
  abbrev pub left_at : C → SeatView E → StepAnswer → Left E C
  left_at x empty a = record { seat = empty; content = x; disturbs = false }
  left_at x (loaded c) a = left_by x c new_try a
  left_at x (running c t) a = left_by x c t a
  left_at x (ended r) a = record { seat = ended r; content = x; disturbs = false }

  -- the view after it
  abbrev pub view_left : PieceView E C → ℕ → Left E C → PieceView E C
  view_left v i l =
      record {
        content = l.content;
        seatings = v.seatings;
        seats = slice_set (cond l.disturbs (map disturbed_seat v.seats) v.seats) i l.seat;
      }

  -- what worker i's access leaves of the view, by its answer
  abbrev pub after : PieceView E C → ℕ → StepAnswer → PieceView E C
  after v i a = view_left v i (left_at v.content (seat_of v i) a)
