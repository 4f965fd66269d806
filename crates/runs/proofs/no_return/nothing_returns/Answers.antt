use Rattle.pieces.specs.Trays.{tray_state}
use Rattle.pieces.proofs.Keeping.{known}
use Rattle.runs.proofs.Return.{no_return}
use Rattle.runs.proofs.no_return.nothing_returns.Goals as goal

pub returns : goal.returns
returns g c =
    no_return g.E.Element.kind g.met.E.Element.reflexive (tray_state c.args.tray.now)
    (known g.row.E.coded g.E.Element.kind.blank (tray_state c.args.tray.now) c.args.tray.now.sound)
