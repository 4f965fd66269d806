use Rattle.std.proofs.Common.{rules}
use Rattle.pieces.proofs.Kept.{within, loaded_kept, seated, unseated}
use Rattle.pieces.proofs.tray.piece.TrayPiece.seat.Goals as goal

pub returns-in_err-self : goal.returns-in_err-self
returns-in_err-self g c =
    unseated c.args.self.now _ _ c.in_ok-occupant.ensures _ c.in_ok-idle.ensures _ c.args.command c.in_ok-kind.ensures _ c.in_err-self.ensures _ c.from_residual-in_err-self.ensures.1

pub offset_bounds-self-worker : goal.offset_bounds-self-worker
offset_bounds-self-worker g c = let l = within c.args.self.now _ _ c.in_ok-occupant.ensures in search rules

pub bounds-self-worker : goal.bounds-self-worker
bounds-self-worker g c = within c.args.self.now _ _ c.in_ok-occupant.ensures

pub invariant_of-self-2 : goal.invariant_of-self-2
invariant_of-self-2 g c = record { sound = loaded_kept c.args.self.now _ _ c.in_ok-occupant.ensures _ _ c.in_ok-self.ensures }

pub returns : goal.returns
returns g c =
    seated c.args.self.now _ _ c.in_ok-occupant.ensures _ c.in_ok-idle.ensures _ c.args.command c.in_ok-kind.ensures _ c.in_ok-self.ensures
