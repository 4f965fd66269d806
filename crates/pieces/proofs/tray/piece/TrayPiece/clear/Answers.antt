use Rattle.std.proofs.Common.{arith}
use Rattle.pieces.proofs.Kept.{cleared_kept}
use Rattle.pieces.proofs.tray.piece.TrayPiece.clear.Goals as goal

pub invariant_of-self : goal.invariant_of-self
invariant_of-self g c = record { sound = cleared_kept c.args.self.now _ _ c.fill.ensures (omega arith) }
