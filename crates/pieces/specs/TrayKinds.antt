-- The command kinds of a tray.
use Rattle.std.specs.Prelude.{ℕ, Bool, cond, List, [], ◌∷◌, map, Ok, Err, Result, ◌==◌, refl}
use Rattle.elements.specs.Refusals.{one_of, refusal}
use Rattle.elements.specs.declared.commands.Command.{Command}
use Rattle.elements.specs.declared.refusals.Refusal.{Refusal}
use Rattle.elements.specs.declared.refusals.Cause.TheVariants.{UnknownKind}
use Rattle.elements.specs.declared.refusals.Layer.TheVariants.{Piece}
use Rattle.pieces.specs.declared.seats.KnownCommand.{KnownCommand}
use Rattle.pieces.specs.declared.seats.Seat.{Seat}
use Rattle.pieces.specs.declared.tray.records.TrayKind.{TrayKind}
use Rattle.pieces.specs.declared.tray.records.TrayKind.TheVariants.{Push, Pop}
use Rattle.pieces.specs.declared.tray.records.Phase.{Phase}

abbrev pub tray_kind_number : TrayKind → ℕ
tray_kind_number Push = 1
tray_kind_number Pop = 2

-- the numbers of the kinds that a tray knows
abbrev pub tray_kinds : List ℕ
tray_kinds = map tray_kind_number (Push ∷ Pop ∷ [])

-- is this number the kind of a command of a tray?
abbrev pub tray_knows : ℕ → Bool
tray_knows n = one_of tray_kinds n

-- the kind with this number, which is known: a pop, if it is no push
abbrev pub tray_kind : ℕ → TrayKind
tray_kind n = cond (n == tray_kind_number Push) Push Pop

-- the kind with this number, or the refusal of a tray that knows no such kind
abbrev pub tray_kind_of : ℕ → Result TrayKind Refusal
tray_kind_of n = cond (tray_knows n) (Ok (tray_kind n)) (Err (refusal Piece 4 UnknownKind refl refl))

-- a command whose kind a tray knows, and the seat of one worker
abbrev pub TrayCommand : Type 0 → Type 0
TrayCommand E = KnownCommand TrayKind E

abbrev pub TraySeat : Type 0 → Type 0
TraySeat E = Seat TrayKind E (Phase E)

module _ {E : Type 0} where
  -- a command as a seat holds it, and as it came. One of a kind that is not known, which is never seated, would be a pop
  abbrev pub tray_command : Command E → TrayCommand E
  tray_command c = record { kind = tray_kind c.kind; element = c.element }

  abbrev pub command_of : TrayCommand E → Command E
  command_of c = record { kind = tray_kind_number c.kind; element = c.element }

  -- is it a push? One that a tray knows is a pop otherwise
  abbrev pub is_push : Command E → Bool
  is_push c = c.kind == tray_kind_number Push

  abbrev pub pushes : TrayCommand E → Bool
  pushes c = is_push (command_of c)

  -- a push of x, and a pop
  abbrev pub push : E → Command E
  push x = record { kind = tray_kind_number Push; element = x }

  abbrev pub pop : E → Command E
  pop blank = record { kind = tray_kind_number Pop; element = blank }
