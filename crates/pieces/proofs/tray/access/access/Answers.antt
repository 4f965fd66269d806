use Rattle.std.proofs.Common.{inl, inr, ap}
use Rattle.pieces.specs.TrayStates.{state_of}
use Rattle.pieces.specs.TrayAccess.{accessed}
use Rattle.pieces.proofs.Reaching.{there, at_worker}
use Rattle.pieces.proofs.tray.access.access.Goals as goal

pub returns-in-Empty : goal.returns-in-Empty
returns-in-Empty g c =
    λ p n.
    let qs = c.args.seats.now in
    let i = c.args.worker in
    let s = state_of c.args.cells.now c.args.heads.now qs p c.args.room n in
    elim c.in-Empty.is [
      | inl e ↦ at_worker (accessed g.E.Element.kind s i) _ _ (there qs i _ _ c.requires.seat e) (ap (λ r. (r, s)) c.refuse.ensures)
      | inr e ↦ at_worker (accessed g.E.Element.kind s i) _ _ (there qs i _ _ c.requires.seat e.1) (ap (λ r. (r, s)) c.refuse.ensures)
    ]
