use Rattle.std.proofs.Common.{sym}
use Rattle.pieces.proofs.Making.{made_bare}
use Rattle.pieces.proofs.tray.Tray.new.Goals as goal

pub returns-clause-empty : goal.returns-clause-empty
returns-clause-empty g c =
    made_bare g.E.Element.kind c.args.cells.now c.args.heads.now c.args.seats.now (sym c.if-not-hold_tray.ensures) _ c.make_head.ensures _ _
