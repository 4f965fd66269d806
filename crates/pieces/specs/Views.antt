-- What the state of a piece means: a view holds what workers may rely on, and nothing of how the piece is built.
use Rattle.std.specs.Prelude.{ℕ, Bool, false, List, length, None, Option, slice_index_or}
use Rattle.elements.specs.declared.commands.Command.{Command}
use Rattle.elements.specs.declared.commands.Reply.{Reply}

-- a try under way: how many accesses it has made, whether it is disturbed, and the reply that it settled with
pub record TryView (E : Type 0) : Type 0 where
  pub accesses : ℕ
  pub disturbed : Bool
  pub settled : Option (Reply E)

-- a try that begins is undisturbed and has not settled
abbrev pub new_try : {E : Type 0} → TryView E
new_try = record { accesses = 0; disturbed = false; settled = None }

-- the seat of one worker: empty, loaded with a command without a try, running a try of it, or ended with a reply
pub data SeatView (E : Type 0) : Type 0 where
  empty : SeatView E
  loaded : Command E → SeatView E
  running : Command E → TryView E → SeatView E
  ended : Reply E → SeatView E

-- the content, how often a command was seated, and a seat for each worker
pub record PieceView (E C : Type 0) : Type 0 where
  pub content : C
  pub seatings : ℕ
  pub seats : List (SeatView E)

module _ {E C : Type 0} where
  -- n
  abbrev pub workers_of : PieceView E C → ℕ
  workers_of v = length v.seats

  -- worker i's seat; empty for a worker that there is not
  abbrev pub seat_of : PieceView E C → ℕ → SeatView E
  seat_of v i = slice_index_or v.seats i empty
