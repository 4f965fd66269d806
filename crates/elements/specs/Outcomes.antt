-- What a call answers and what it leaves.
use Rattle.std.specs.Prelude.{◌≡◌, Some, None, Ok, Err, Option, Result}
use Rattle.elements.specs.declared.refusals.Refusal.{Refusal}

-- the answer r and the state s that a call leaves are the pair that a function gives
pub record Exactly {R S : Type 0} (r : R) (s : S) (y : R × S) : Type 0 where
  pub answer : r ≡ y.0
  pub left : s ≡ y.1

-- a call in the state s that is refused moves nothing; one that is not answers and leaves what y says
abbrev pub unless_refused : {R S : Type 0} → Option Refusal → S → R × S → Result R Refusal × S
unless_refused None s y = (Ok y.0, y.1)
unless_refused (Some e) s y = (Err e, s)
