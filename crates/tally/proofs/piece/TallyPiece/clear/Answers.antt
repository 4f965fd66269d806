use Rattle.tally.proofs.Keeping.{known}
use Rattle.tally.proofs.Soundness.{clear_sound}
use Rattle.tally.proofs.piece.TallyPiece.clear.Goals as goal

pub way_repeat_by-self : goal.way_repeat_by-self
way_repeat_by-self c = (∣ clear_sound _ (known c.args.self.now) ∣₁, tt)
