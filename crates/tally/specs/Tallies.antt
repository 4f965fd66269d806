-- The state of a tally.
use Rattle.tally.specs.declared.Tally.{Tally}
use Rattle.tally.specs.TallyStates.{TallyState}

-- what it holds, without the fact that it keeps
abbrev pub tally_state : Tally → TallyState
tally_state x = record { pair = x.pair; seats = x.seats; seatings = x.seatings; limit = x.limit; count = x.count }
