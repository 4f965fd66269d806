-- The ordinary tray keeps the law of an ordinary object.
use Rattle.std.proofs.Common.{ℕ, ◌≤◌, Bool, List, length, arith}
use Rattle.std.proofs.lemmas.Grind.{common_steps}
use Rattle.elements.specs.Codes.{is_change}
use Rattle.elements.specs.declared.commands.Command.{Command}
use Rattle.elements.specs.declared.commands.Reply.{Reply}
use Rattle.pieces.specs.Names.{ObjectLaw}
use Rattle.pieces.specs.Ordinary.{OrdinaryLaw}
use Rattle.pieces.specs.OrdinaryTray.{ordinary_tray}

pub tray_law : {E : Type 0} (blank : E) (k : ℕ) → OrdinaryLaw (λ (xs : List E). length xs ≤ k) (ordinary_tray blank k)
tray_law blank k = grind (arith, common_steps)

-- so it keeps the law of an object that a piece names, of whatever commands are known
pub object_law : {E C : Type 0} {Fits : C → Type 0} {f : C → Command E → C × Reply E} → OrdinaryLaw Fits f → (known : Command E → Bool)
    → ObjectLaw known is_change f
object_law o known = record { look = λ x c _. o.look x c; not_zero = λ x c _. o.not_zero x c; not_stood_off = λ x c _. o.not_stood_off x c }
