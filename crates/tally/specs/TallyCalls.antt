-- The accesses and the calls of a tally: what each answers and what it leaves, refused or not, as a function of the
-- whole state before.
use Rattle.std.specs.Prelude.{ℕ, ◌+◌, min, Bool, cond, ◌&&◌, replicate, pos, ◌+ℤ◌, Ok, Result, ◌==◌, nat_lt, refl}
use Rattle.std.specs.Ordering.{int_eq}
use Rattle.elements.specs.Kinds.{amount_kind}
use Rattle.elements.specs.Codes.{reply}
use Rattle.elements.specs.Refusals.{one_of}
use Rattle.elements.specs.declared.commands.Command.{Command}
use Rattle.elements.specs.declared.commands.Reply.{Reply}
use Rattle.elements.specs.declared.commands.Code.TheVariants.{Added, Over, Total}
use Rattle.elements.specs.declared.kinds.Amount.{Amount}
use Rattle.elements.specs.declared.answers.StepAnswer.{StepAnswer}
use Rattle.elements.specs.declared.answers.StepAnswer.TheVariants.{Moved, SettledEnded, StoodOff}
use Rattle.elements.specs.declared.refusals.Refusal.{Refusal}
use Rattle.elements.specs.declared.refusals.Cause.TheVariants.{NothingToStep}
use Rattle.pieces.specs.declared.seats.Seat.TheVariants.{Empty, Loaded, Running, Ended}
use Rattle.pieces.specs.Outcomes.{refused, if_worker}
use Rattle.pieces.specs.Seats.{seat_at, seat_asked, take_asked}
use Rattle.tally.specs.declared.records.Pair.{Pair}
use Rattle.tally.specs.declared.records.TallyKind.{TallyKind}
use Rattle.tally.specs.declared.records.TallyKind.TheVariants.{Add, Read}
use Rattle.tally.specs.TallyKinds.{tally_kinds, tally_command}
use Rattle.tally.specs.TallyStates.{TallySeat, TallyState, tried, with_seat}

-- would an add of this amount pass the limit m?
abbrev pub passes : ℕ → ℕ → Amount → Bool
passes m total x = nat_lt m (total + x.units)

-- access 1 reads the pair: what it answers, and what the seat then holds. A read settles and ends here, and so does an
-- add that would pass the limit
abbrev pub pair_read : ℕ → Pair → TallyKind → Amount → StepAnswer × TallySeat
pair_read m p Add x =
    cond (passes m p.total x) (SettledEnded, Ended (reply Over amount_kind.blank)) (Moved, Running (record { amount = x; pair = p }))
pair_read m p Read x = (SettledEnded, Ended (reply Total (record { units = p.total })))

-- access 2 compares: is the pair p still as access 1 read it?
abbrev pub unchanged : Pair → Pair → Bool
unchanged p q = p.total == q.total && int_eq p.tick q.tick

-- and sets: the sum, and a tick more
abbrev pub moved_pair : Pair → Amount → Pair
moved_pair p x = record { total = p.total + x.units; tick = p.tick +ℤ pos 1 }

-- one access of worker i, whose seat is q
abbrev pub accessed : TallyState → ℕ → TallySeat → Result StepAnswer Refusal × TallyState
accessed s i Empty = refused s 6 NothingToStep refl refl
accessed s i (Loaded c) = (Ok (pair_read s.limit s.pair c.kind c.element).0, with_seat s i (pair_read s.limit s.pair c.kind c.element).1)
accessed s i (Running r) =
    cond (unchanged s.pair r.pair)
    (Ok SettledEnded, with_seat (record s { pair = moved_pair s.pair r.amount }) i (Ended (reply Added (record { units = s.pair.total + r.amount.units }))))
    (Ok StoodOff, with_seat s i (Loaded (tried r)))
accessed s i (Ended r) = refused s 6 NothingToStep refl refl

-- Step
abbrev pub step_outcome : TallyState → ℕ → Result StepAnswer Refusal × TallyState
step_outcome s i = if_worker s.count s i (accessed s i (seat_at s.seats i))

-- Seat, which leaves the command in the worker's seat, and is one seating more
abbrev pub seat_outcome : TallyState → ℕ → Command Amount → Result (Unit {0}) Refusal × TallyState
seat_outcome s i c =
    seat_asked s.seats s.count s i s.seatings (one_of tally_kinds c.kind)
    (with_seat (record s { seatings = s.seatings + 1 }) i (Loaded (tally_command c)))

-- Take, which leaves the worker's seat empty
abbrev pub take_outcome : TallyState → ℕ → Result (Reply Amount) Refusal × TallyState
take_outcome s i = take_asked s.seats s.count s amount_kind.blank i (with_seat s i Empty)

-- Clear
abbrev pub clear_outcome : TallyState → TallyState
clear_outcome s = record s { seats = replicate 16 Empty }

-- a new tally for n workers with the limit m
abbrev pub made_tally : ℕ → ℕ → TallyState
made_tally n m =
    record {
      pair = record { total = 0; tick = pos 0 };
      seats = replicate 16 Empty;
      seatings = 0;
      limit = min m 1000000000;
      count = min n 16;
    }
