-- What every ordinary object keeps.
use Rattle.std.specs.Prelude.{◌≡◌, false, ◌≢◌}
use Rattle.elements.specs.Codes.{code_number, is_change}
use Rattle.elements.specs.declared.commands.Command.{Command}
use Rattle.elements.specs.declared.commands.Reply.{Reply}
use Rattle.elements.specs.declared.commands.Code.TheVariants.{StoodOff}

-- an ordinary object makes of a content and a command another content and a reply; `Fits` says which contents it has
pub record OrdinaryLaw {E C : Type 0} (Fits : C → Type 0) (ordinary : C → Command E → C × Reply E) : Type 0 where
  -- a content stays within its limit
  pub stays : (x : C) (c : Command E) → Fits x → Fits (ordinary x c).0
  -- a reply that is no change leaves the content as it was
  pub look : (x : C) (c : Command E) → is_change (ordinary x c).1.code ≡ false → (ordinary x c).0 ≡ x
  -- no reply has the code 0, nor that of a call that was stood off
  pub not_zero : (x : C) (c : Command E) → (ordinary x c).1.code ≢ 0
  pub not_stood_off : (x : C) (c : Command E) → (ordinary x c).1.code ≢ code_number StoodOff
