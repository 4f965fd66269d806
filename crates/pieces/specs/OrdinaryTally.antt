-- The ordinary tally: a total up to a limit m, that one worker uses at a time.
use Rattle.std.specs.Prelude.{ℕ, ◌+◌, cond, ◌==◌, nat_lt}
use Rattle.elements.specs.declared.commands.Command.{Command}
use Rattle.elements.specs.declared.commands.Reply.{Reply}
use Rattle.elements.specs.declared.commands.Code.TheVariants.{Added, Over, Total}
use Rattle.elements.specs.declared.kinds.Amount.{Amount}
use Rattle.elements.specs.Codes.{reply}
use Rattle.elements.specs.Kinds.{amount_kind}

-- an add replies with the new total, unless that would pass the limit
abbrev pub ordinary_add : ℕ → ℕ → Amount → ℕ × Reply Amount
ordinary_add m total x =
    cond (nat_lt m (total + x.units)) (total, reply Over amount_kind.blank)
    (total + x.units, reply Added (record { units = total + x.units }))

-- a read replies with the total
abbrev pub ordinary_read : ℕ → ℕ × Reply Amount
ordinary_read total = (total, reply Total (record { units = total }))

-- command 1 is an add, command 2 a read
abbrev pub ordinary_tally : ℕ → ℕ → Command Amount → ℕ × Reply Amount
ordinary_tally m total c = cond (c.kind == 1) (ordinary_add m total c.element) (ordinary_read total)
