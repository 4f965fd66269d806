-- What the exact outcomes of all pieces have in common.
use Rattle.std.specs.Prelude.{◌≡◌, ℕ, true, cond, Err, Result, nat_lt, refl}
use Rattle.elements.specs.Refusals.{cause_number, asks, refusal}
use Rattle.elements.specs.declared.refusals.Refusal.{Refusal}
use Rattle.elements.specs.declared.refusals.Cause.{Cause}
use Rattle.elements.specs.declared.refusals.Cause.TheVariants.{NoSuchWorker}
use Rattle.elements.specs.declared.refusals.Layer.TheVariants.{Piece}

-- a refusal moves nothing; the two proofs, each `refl`, tie the number to the cause and to the layer
abbrev pub refused : {R M : Type 0} → M → (n : ℕ) (c : Cause) → cause_number c ≡ n → asks Piece n ≡ true → Result R Refusal × M
refused m n c numbered asked = (Err (refusal Piece n c numbered asked), m)

-- the first question before any call of a worker, of whom there are n
abbrev pub if_worker : {R M : Type 0} → ℕ → M → ℕ → Result R Refusal × M → Result R Refusal × M
if_worker n m i y = cond (nat_lt i n) y (refused m 1 NoSuchWorker refl refl)
