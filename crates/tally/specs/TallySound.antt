-- What is always true of a tally.
use Rattle.std.specs.Prelude.{◌≡◌, ℕ, ◌+◌, ◌<◌, ◌≤◌, length, take, ◌≤ℤ◌, sum_by}
use Rattle.pieces.specs.declared.seats.Seat.TheVariants.{Empty, Loaded, Running, Ended}
use Rattle.pieces.specs.Calls.{most_seatings}
use Rattle.pieces.specs.Seats.{seat_at}
use Rattle.pieces.specs.Ticks.{TickOk}
use Rattle.tally.specs.declared.records.Pair.{Pair}
use Rattle.tally.specs.declared.records.PairRead.{PairRead}
use Rattle.tally.specs.TallyStates.{TallySeat, TallyState}

-- 1 for a seat that is loaded or runs a try, none of which has settled
abbrev pub unsettled : TallySeat → ℕ
unsettled Empty = 0
unsettled (Loaded c) = 1
unsettled (Running r) = 1
unsettled (Ended r) = 0

-- of a try under way, while the pair is p: its add fitted; the tick that it read is no newer than that of now; and with
-- the tick of now it has the total of now
pub record TryOk (m : ℕ) (p : Pair) (r : PairRead) : Type 0 where
  pub fits : r.pair.total + r.amount.units ≤ m
  pub older : r.pair.tick ≤ℤ p.tick
  pub stands : r.pair.tick ≡ p.tick → r.pair.total ≡ p.total

-- of a seat, while the pair is p: only a try under way has something to keep
abbrev pub SeatOk : ℕ → Pair → TallySeat → Type 0
SeatOk m p Empty = Unit {0}
SeatOk m p (Loaded c) = Unit {0}
SeatOk m p (Running r) = TryOk m p r
SeatOk m p (Ended r) = Unit {0}

-- of the whole state: its numbers are within their bounds, its tick too, and each worker's seat is as it has to be
pub record Sound (s : TallyState) : Type 0 where
  pub seats_long : length s.seats ≡ 16
  pub few_workers : s.count ≤ 16
  pub few_seatings : s.seatings ≤ most_seatings
  pub limit_small : s.limit ≤ 1000000000
  pub within : s.pair.total ≤ s.limit
  pub tick_ok : TickOk (sum_by unsettled (take s.count s.seats)) s.seatings s.pair.tick
  pub seats_ok : (j : ℕ) → j < s.count → SeatOk s.limit s.pair (seat_at s.seats j)
