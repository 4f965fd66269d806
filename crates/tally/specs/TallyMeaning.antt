-- What a tally means.
use Rattle.std.specs.Prelude.{ℕ, not, map, take, None}
use Rattle.std.specs.Ordering.{int_eq}
use Rattle.elements.specs.Codes.{is_change}
use Rattle.elements.specs.Kinds.{amount_kind}
use Rattle.elements.specs.declared.kinds.Amount.{Amount}
use Rattle.pieces.specs.declared.seats.Seat.TheVariants.{Empty, Loaded, Running, Ended}
use Rattle.pieces.specs.Names.{Names}
use Rattle.pieces.specs.Views.{SeatView, empty, loaded, running, ended, PieceView}
use Rattle.pieces.specs.Meanings.{PieceCalls, PieceMeaning}
use Rattle.pieces.specs.OrdinaryTally.{ordinary_tally}
use Rattle.tally.specs.declared.Tally.{Tally}
use Rattle.tally.specs.declared.records.Pair.{Pair}
use Rattle.tally.specs.TallyKinds.{tally_kinds, command_of}
use Rattle.tally.specs.TallyStates.{TallySeat, TallyState, tried}
use Rattle.tally.specs.TallyCalls.{seat_outcome, step_outcome, take_outcome, clear_outcome}
use Rattle.tally.specs.Tallies.{tally_state}

-- its longest try is an add that goes in, or is stood off
abbrev pub tally_names : TallyState → Names Amount ℕ
tally_names s =
    record { blank = amount_kind.blank; kinds = tally_kinds; ordinary = ordinary_tally s.limit; change = is_change; longest = 2 }

-- a seat, while the pair is p: a try is one of an add, and is disturbed when the tick is no longer the one that it read
abbrev pub seat_view : Pair → TallySeat → SeatView Amount
seat_view p Empty = empty
seat_view p (Loaded c) = loaded (command_of c)
seat_view p (Running r) =
    running (command_of (tried r))
    (record { accesses = 1; disturbed = not (int_eq p.tick r.pair.tick); settled = None })
seat_view p (Ended r) = ended r

-- the content is the total, and only the workers' seats are shown
abbrev pub tally_view : TallyState → PieceView Amount ℕ
tally_view s =
    record { content = s.pair.total; seatings = s.seatings; seats = map (seat_view s.pair) (take s.count s.seats) }

-- the calls, exactly
abbrev pub tally_calls : PieceCalls Amount TallyState
tally_calls = record { seat = seat_outcome; step = step_outcome; take = take_outcome; clear = clear_outcome }

-- all of it
abbrev pub tally_meaning : PieceMeaning Tally Amount
tally_meaning =
    record { Content = ℕ; Model = TallyState; model = tally_state; names = tally_names; view = tally_view; calls = tally_calls }
