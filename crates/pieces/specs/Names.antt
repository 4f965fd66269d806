-- What a piece names. No call changes it.
use Rattle.std.specs.Prelude.{◌≡◌, ℕ, ◌≤◌, Bool, true, false, List, ◌≢◌}
use Rattle.elements.specs.Codes.{code_number}
use Rattle.elements.specs.Refusals.{one_of}
use Rattle.elements.specs.declared.commands.Command.{Command}
use Rattle.elements.specs.declared.commands.Reply.{Reply}
use Rattle.elements.specs.declared.commands.Code.TheVariants.{StoodOff}

-- E are its elements, C its contents
pub record Names (E C : Type 0) : Type 0 where
  -- the element of a reply that carries none
  pub blank : E
  -- the numbers of the command kinds that it knows
  pub kinds : List ℕ
  -- its ordinary object: the content and the reply that a command makes of a content
  pub ordinary : C → Command E → C × Reply E
  -- which reply codes are changes; the others are looks
  pub change : ℕ → Bool
  -- w, the most accesses in one try
  pub longest : ℕ

-- what the ordinary object of a piece keeps, of the commands that are known, by the reply codes that are called changes
pub record ObjectLaw {E C : Type 0} (known : Command E → Bool) (change : ℕ → Bool) (ordinary : C → Command E → C × Reply E) : Type 0 where
  -- a reply that is no change, a look, leaves the content as it was
  pub look : (x : C) (c : Command E) → known c ≡ true → change (ordinary x c).1.code ≡ false → (ordinary x c).0 ≡ x
  -- no reply has the code 0, nor that of a call that was stood off
  pub not_zero : (x : C) (c : Command E) → known c ≡ true → (ordinary x c).1.code ≢ 0
  pub not_stood_off : (x : C) (c : Command E) → known c ≡ true → (ordinary x c).1.code ≢ code_number StoodOff

module _ {E C : Type 0} (N : Names E C) where
  -- does it know this command?
  abbrev pub knows : Command E → Bool
  knows c = one_of N.kinds c.kind

  -- what has to be true of what it names
  pub record Lawful : Type 0 where
    pub some_access : 1 ≤ N.longest
    pub lawful_object : ObjectLaw knows N.change N.ordinary
