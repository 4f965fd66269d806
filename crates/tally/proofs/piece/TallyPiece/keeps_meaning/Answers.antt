use Rattle.tally.proofs.Keeping.{known}
use Rattle.tally.proofs.Meaning.{meaning_kept}
use Rattle.tally.proofs.piece.TallyPiece.keeps_meaning.Goals as goal

pub returns : goal.returns
returns c = meaning_kept _ (known c.args.self.now) (c.ordinary_tally_holds.ensures _)
