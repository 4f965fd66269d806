-- A tally keeps in its type that it is sound.
use Rattle.std.proofs.Common.{ℕ}
use mathlib.Core.Logic.{∥∥₁_elim}
use Rattle.std.proofs.Props.{props}
use Rattle.pieces.specs.declared.seats.Seat.TheVariants.{Empty, Loaded, Running, Ended}
use Rattle.tally.specs.declared.Tally.{Tally}
use Rattle.tally.specs.declared.records.Pair.{Pair}
use Rattle.tally.specs.TallyStates.{TallySeat, TallyState}
use Rattle.tally.specs.TallySound.{SeatOk, Sound}
use Rattle.tally.specs.Tallies.{tally_state}

-- it is so in one way
seat_one : (m : ℕ) (p : Pair) (q : TallySeat) → IsProp (SeatOk m p q)
seat_one m p Empty = hlevel props
seat_one m p (Loaded c) = hlevel props
seat_one m p (Running r) = hlevel props
seat_one m p (Ended r) = hlevel props

sound_one : (s : TallyState) → IsProp (Sound s)
sound_one s = hlevel (props, seat_one)

-- so it can be read off the type
pub known : (x : Tally) → Sound (tally_state x)
known x = ∥∥₁_elim x.sound (sound_one (tally_state x)) (λ o. o)
