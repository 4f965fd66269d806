-- The number of each reply code, and which of them are changes.
use Rattle.std.specs.Prelude.{ℕ, Bool, ◌||◌, ◌==◌}
use Rattle.elements.specs.declared.commands.Reply.{Reply}
use Rattle.elements.specs.declared.commands.Code.{Code}
use Rattle.elements.specs.declared.commands.Code.TheVariants.{Done, Full, Popped, Empty, Added, Over, Total, StoodOff}

abbrev pub code_number : Code → ℕ
code_number Done = 1
code_number Full = 2
code_number Popped = 3
code_number Empty = 4
code_number Added = 5
code_number Over = 6
code_number Total = 7
code_number StoodOff = 9

-- a reply with a code of the collection's own
abbrev pub reply : {E : Type 0} → Code → E → Reply E
reply c x = record { code = code_number c; element = x }

-- is this the number of a change? Any other reply is a look: it leaves the content as it is
abbrev pub is_change : ℕ → Bool
is_change n = n == code_number Done || n == code_number Popped || n == code_number Added
