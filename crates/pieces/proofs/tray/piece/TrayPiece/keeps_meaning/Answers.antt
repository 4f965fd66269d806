use Rattle.pieces.specs.Trays.{tray_state}
use Rattle.pieces.proofs.Keeping.{known}
use Rattle.pieces.proofs.Meaning.{meaning_kept}
use Rattle.pieces.proofs.tray.piece.TrayPiece.keeps_meaning.Goals as goal

pub returns : goal.returns
returns g c =
    meaning_kept g.E.Element.kind g.met.E.Element.reflexive (tray_state c.args.self.now)
    (known g.row.E.coded g.E.Element.kind.blank (tray_state c.args.self.now) c.args.self.now.sound)
