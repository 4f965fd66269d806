-- The state of a tally, part by part.
use Rattle.std.specs.Prelude.{ℕ, List, slice_set}
use Rattle.elements.specs.declared.kinds.Amount.{Amount}
use Rattle.pieces.specs.declared.seats.KnownCommand.{KnownCommand}
use Rattle.pieces.specs.declared.seats.Seat.{Seat}
use Rattle.tally.specs.declared.records.Pair.{Pair}
use Rattle.tally.specs.declared.records.PairRead.{PairRead}
use Rattle.tally.specs.declared.records.TallyKind.{TallyKind}
use Rattle.tally.specs.declared.records.TallyKind.TheVariants.{Add}

-- the seat of a worker
abbrev pub TallySeat : Type 0
TallySeat = Seat TallyKind Amount PairRead

-- the whole state: what a tally holds
pub record TallyState : Type 0 where
  pub pair : Pair
  pub seats : List TallySeat
  pub seatings : ℕ
  pub limit : ℕ
  pub count : ℕ

-- the command of a try under way, which is an add
abbrev pub tried : PairRead → KnownCommand TallyKind Amount
tried r = record { kind = Add; element = r.amount }

-- the state with another seat of worker i
abbrev pub with_seat : TallyState → ℕ → TallySeat → TallyState
with_seat s i q = record s { seats = slice_set s.seats i q }
