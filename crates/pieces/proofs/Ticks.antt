-- What seats remember stays within its bounds as seats settle and commands are seated; and where a try goes.
use Rattle.std.proofs.Common.{◌≡◌, ℕ, ◌+◌, ◌-◌, ◌≤◌, Bool, true, false, cond, eqb, arith}
use Rattle.std.proofs.lemmas.Bool.{eqb-false}
use Rattle.pieces.proofs.TickLaws.{tick_kept}
use Rattle.pieces.specs.declared.tray.records.Try.{Try}
use Rattle.pieces.specs.TrayKinds.{TraySeat}
use Rattle.pieces.specs.declared.seats.Seat.TheVariants.{Empty, Loaded, Ended, Running}
use Rattle.pieces.specs.declared.tray.records.Phase.TheVariants.{HeadRead, CellRead, CellWritten, NeighbourRead}
use Rattle.pieces.specs.TrayKinds.{pushes}
use Rattle.pieces.specs.TrayAccess.{settled_early, neighbour}
use Rattle.pieces.specs.TrayBounds.{TryOk, SeatOk}

-- p seats unsettled of g seatings have become p' of g'
module _ (p g p' g' : ℕ) (more : p' + g ≤ p + g') where
  pub try_kept : {E : Type 0} {k : ℕ} {t : Try E} → TryOk k p g t → TryOk k p' g' t
  try_kept o = record { index = o.index; tick = tick_kept p g p' g' more o.tick }

  pub seat_kept : {E : Type 0} (k : ℕ) (q : TraySeat E) → SeatOk k p g q → SeatOk k p' g' q
  seat_kept k Empty o = tt
  seat_kept k (Loaded c) o = tt
  seat_kept k (Running (HeadRead t)) o = try_kept o
  seat_kept k (Running (CellRead t u)) o = try_kept o
  seat_kept k (Running (CellWritten t)) o = (try_kept o.0, o.1)
  seat_kept k (Running (NeighbourRead t x)) o = (try_kept o.0, o.1, tick_kept p g p' g' more o.2)
  seat_kept k (Ended r) o = tt

-- a try that has not settled goes to another cell, within the tray
pub goes : {E : Type 0} (k : ℕ) (t : Try E) → t.head.index ≤ k → settled_early k t ≡ false
    → (neighbour t ≤ k) × (neighbour t ≡ t.head.index → ⊥)
goes k t l e = go (pushes t.command) e
  where
    go : (b : Bool) → cond b (eqb t.head.index k) (eqb t.head.index 0) ≡ false
        → (cond b (t.head.index + 1) (t.head.index - 1) ≤ k) × (cond b (t.head.index + 1) (t.head.index - 1) ≡ t.head.index → ⊥)
    go true e = let n : t.head.index ≡ k → ⊥ = eqb-false t.head.index k e in omega arith
    go false e = let n : t.head.index ≡ 0 → ⊥ = eqb-false t.head.index 0 e in omega arith
