-- Ticks stay within their bounds as seats settle and commands are seated.
use Rattle.std.proofs.Common.{◌≡◌, ℕ, ◌+◌, ◌≤◌, ℤ, pos, negsuc, ◌+ℤ◌, ◌≤ℤ◌, refl, arith}
use Rattle.std.proofs.lemmas.Int.{ints}
use Rattle.std.specs.Bool.{Decides}
use Rattle.std.specs.Ordering.{int_eq}
use Rattle.std.proofs.lemmas.Bool.Decides.{nat_tests, Decides-at, Decides-int_eq}
use Rattle.pieces.specs.Calls.{most_seatings}
use Rattle.pieces.specs.Ticks.{tick_eq, TickOk}

-- `==` of ticks is std's of signed numbers
tick_is : (a b : ℤ) → tick_eq a b ≡ int_eq a b
tick_is (pos a) (pos b) = grind (arith, nat_tests)
tick_is (pos a) (negsuc b) = refl
tick_is (negsuc a) (pos b) = refl
tick_is (negsuc a) (negsuc b) = grind (arith, nat_tests)

pub Decides-tick_eq : (a b : ℤ) → Decides (tick_eq a b) (a ≡ b)
Decides-tick_eq a b = Decides-at _ _ (tick_is a b) (Decides-int_eq a b)

-- p seats unsettled of g seatings have become p' of g'
pub tick_kept : (p g p' g' : ℕ) → p' + g ≤ p + g' → {a : ℤ} → TickOk p g a → TickOk p' g' a
tick_kept p g p' g' more o = record { low = o.low; high = omega (arith, ints, o.high) }

-- one seat more has settled, so a tick may be one more
pub tick_up : (p g p' : ℕ) → p' + 1 ≤ p → (a : ℤ) → TickOk p g a → TickOk p' g (a +ℤ pos 1)
tick_up p g p' less a o = record { low = omega (arith, ints, o.low); high = omega (arith, ints, o.high) }

-- a tick never passes the most seatings
pub tick_most : (p g : ℕ) (a : ℤ) → TickOk p g a → g ≤ most_seatings → a ≤ℤ pos most_seatings
tick_most p g a o few = omega (arith, ints, o.high)
