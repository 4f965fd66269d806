-- Ticks: signed numbers that grow with every change, and never pass the number of seatings.
use Rattle.std.specs.Prelude.{ℕ, Bool, false, ℤ, pos, negsuc, ◌+ℤ◌, ◌≤ℤ◌, ◌==◌}

-- are two ticks equal?
abbrev pub tick_eq : ℤ → ℤ → Bool
tick_eq (pos a) (pos b) = a == b
tick_eq (pos a) (negsuc b) = false
tick_eq (negsuc a) (pos b) = false
tick_eq (negsuc a) (negsuc b) = a == b

-- a tick is at least −1, and with the p seats that have not settled at most the g seatings
pub record TickOk (p g : ℕ) (tick : ℤ) : Type 0 where
  pub low : negsuc 0 ≤ℤ tick
  pub high : (tick +ℤ pos p) ≤ℤ pos g
