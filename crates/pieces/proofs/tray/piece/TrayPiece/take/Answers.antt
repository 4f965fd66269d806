use Rattle.std.proofs.Common.{rules}
use Rattle.pieces.proofs.Kept.{within}
use Rattle.pieces.proofs.tray.piece.TrayPiece.take.Goals as goal

pub offset_bounds-self-worker : goal.offset_bounds-self-worker
offset_bounds-self-worker g c = let l = within c.args.self.now _ _ c.in_ok-occupant.ensures in search rules
