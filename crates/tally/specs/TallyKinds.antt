-- The command kinds of a tally.
use Rattle.std.specs.Prelude.{ℕ, List, [], ◌∷◌, cond, map, Ok, Err, Result, ◌==◌, refl}
use Rattle.elements.specs.Refusals.{one_of, refusal}
use Rattle.elements.specs.declared.commands.Command.{Command}
use Rattle.elements.specs.declared.kinds.Amount.{Amount}
use Rattle.elements.specs.declared.refusals.Refusal.{Refusal}
use Rattle.elements.specs.declared.refusals.Cause.TheVariants.{UnknownKind}
use Rattle.elements.specs.declared.refusals.Layer.TheVariants.{Piece}
use Rattle.pieces.specs.declared.seats.KnownCommand.{KnownCommand}
use Rattle.tally.specs.declared.records.TallyKind.{TallyKind}
use Rattle.tally.specs.declared.records.TallyKind.TheVariants.{Add, Read}

-- the number of each
abbrev pub tally_kind_number : TallyKind → ℕ
tally_kind_number Add = 1
tally_kind_number Read = 2

-- the numbers of the kinds that a tally knows
abbrev pub tally_kinds : List ℕ
tally_kinds = map tally_kind_number (Add ∷ Read ∷ [])

-- the kind with this number, which is known: a read, if it is no add
abbrev pub tally_kind : ℕ → TallyKind
tally_kind n = cond (n == tally_kind_number Add) Add Read

-- the kind with this number, if it is known
abbrev pub tally_kind_of : ℕ → Result TallyKind Refusal
tally_kind_of n = cond (one_of tally_kinds n) (Ok (tally_kind n)) (Err (refusal Piece 4 UnknownKind refl refl))

-- a command of a known kind, as its seat holds it
abbrev pub tally_command : Command Amount → KnownCommand TallyKind Amount
tally_command c = record { kind = tally_kind c.kind; element = c.element }

-- and as it came
abbrev pub command_of : KnownCommand TallyKind Amount → Command Amount
command_of c = record { kind = tally_kind_number c.kind; element = c.element }
