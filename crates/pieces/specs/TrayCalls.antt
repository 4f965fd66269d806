-- The calls of a tray: what each answers and what it leaves, refused or not, as a function of the whole state before.
use Rattle.std.specs.Prelude.{ℕ, ◌+◌, ◌-◌, min, Bool, cond, ◌&&◌, List, ◌++◌, length, drop, replicate, pos, negsuc, Result, nat_lt, slice_set}
use Rattle.elements.specs.Kinds.{ElementKind}
use Rattle.elements.specs.declared.commands.Command.{Command}
use Rattle.elements.specs.declared.commands.Reply.{Reply}
use Rattle.elements.specs.declared.answers.StepAnswer.{StepAnswer}
use Rattle.elements.specs.declared.refusals.Refusal.{Refusal}
use Rattle.pieces.specs.declared.tray.records.Cell.{Cell}
use Rattle.pieces.specs.declared.tray.records.Head.{Head}
use Rattle.pieces.specs.declared.seats.Seat.TheVariants.{Empty, Loaded}
use Rattle.pieces.specs.Outcomes.{if_worker}
use Rattle.pieces.specs.Seats.{seat_at, seat_asked, take_asked}
use Rattle.pieces.specs.TrayKinds.{TraySeat, tray_knows, tray_command}
use Rattle.pieces.specs.TrayStates.{TrayState, with_seat, with_seats}
use Rattle.pieces.specs.TrayAccess.{accessed}

-- the first n places of a strip, written anew
abbrev pub filled : {A : Type 0} → ℕ → A → List A → List A
filled n a xs = replicate n a ++ drop n xs

module _ {E : Type 0} where
  -- the state with a command seated
  abbrev pub loaded : TrayState E → ℕ → Command E → TrayState E
  loaded s i c = with_seat (record s { seatings = s.seatings + 1 }) i (Loaded (tray_command c))

  -- Seat
  abbrev pub seat_outcome : TrayState E → ℕ → Command E → Result (Unit {0}) Refusal × TrayState E
  seat_outcome s i c = seat_asked s.seats s.count s i s.seatings (tray_knows c.kind) (loaded s i c)

  -- Clear
  abbrev pub clear_outcome : TrayState E → TrayState E
  clear_outcome s = with_seats s (filled s.count Empty s.seats)

  -- do strips of these lengths hold a tray?
  abbrev pub enough : List (Cell E) → List (Head E) → List (TraySeat E) → Bool
  enough cs hs ss = nat_lt 1 (length cs) && nat_lt 0 (length hs) && nat_lt 0 (length ss)

module _ {E : Type 0} (e : ElementKind E) where
  -- Step
  abbrev pub step_outcome : TrayState E → ℕ → Result StepAnswer Refusal × TrayState E
  step_outcome s i = if_worker s.count s i (accessed e s i (seat_at s.seats i))

  -- Take
  abbrev pub take_outcome : TrayState E → ℕ → Result (Reply E) Refusal × TrayState E
  take_outcome s i = take_asked s.seats s.count s e.blank i (with_seat s i Empty)

  -- the cells of a new tray with k places: cell 0 is one tick behind
  abbrev pub new_cells : ℕ → List (Cell E) → List (Cell E)
  new_cells k cs = slice_set (filled (k + 1) (record { element = e.blank; tick = pos 0 }) cs) 0 (record { element = e.blank; tick = negsuc 0 })

  -- its head: at index 0, nothing lies on the tray
  abbrev pub new_heads : List (Head E) → List (Head E)
  new_heads hs = slice_set hs 0 (record { index = 0; element = e.blank; tick = pos 0 })

  -- a tray made in three strips; in strips that are too short, one without workers
  abbrev pub made_tray : List (Cell E) → List (Head E) → List (TraySeat E) → TrayState E
  made_tray cs hs ss =
      cond (enough cs hs ss)
      (record {
        cells = new_cells (min (length cs - 1) 1024) cs;
        heads = new_heads hs;
        seats = filled (min (length ss) 16) Empty ss;
        seatings = 0;
        room = min (length cs - 1) 1024;
        count = min (length ss) 16;
      })
      (record { cells = cs; heads = hs; seats = ss; seatings = 0; room = 1; count = 0 })
