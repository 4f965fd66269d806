-- What an element kind is, and the three of them.
use Rattle.std.specs.Prelude.{◌≡◌, Bool, true, ◌==◌, refl}
use Rattle.std.proofs.Common.{eq-eqb}
use Rattle.elements.specs.declared.kinds.Bin.{Bin}
use Rattle.elements.specs.declared.kinds.Amount.{Amount}
use Rattle.elements.specs.declared.kinds.Slip.{Slip}

-- a blank value, and when two elements are the same
pub record ElementKind (E : Type 0) : Type 0 where
  pub blank : E
  pub same : E → E → Bool

-- elements of which any two are the same, so that to compare them tells nothing
abbrev pub uncompared : {E : Type 0} → E → ElementKind E
uncompared blank = record { blank = blank; same = λ _ _. true }

-- bins are the same when their numbers are equal
abbrev pub bin_kind : ElementKind Bin
bin_kind = record { blank = record { number = 0 }; same = λ a b. (a.number == b.number) }

-- amounts are the same when they are equal
abbrev pub amount_kind : ElementKind Amount
amount_kind = record { blank = record { units = 0 }; same = λ a b. (a.units == b.units) }

-- slips are the same when their batch numbers agree, whatever their totals and stations
abbrev pub slip_kind : ElementKind Slip
slip_kind = record { blank = record { batch = 0; total = 0; station = 0 }; same = λ a b. (a.batch == b.batch) }

-- each element is the same as itself
pub same_bin : (x : Bin) → bin_kind.same x x ≡ true
same_bin x = eq-eqb x.number x.number refl

pub same_amount : (x : Amount) → amount_kind.same x x ≡ true
same_amount x = eq-eqb x.units x.units refl

pub same_slip : (x : Slip) → slip_kind.same x x ≡ true
same_slip x = eq-eqb x.batch x.batch refl
