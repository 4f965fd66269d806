use Rattle.std.proofs.Common.{refl, ◌∙◌}
use Rattle.std.proofs.lemmas.Bool.{eq-eqb}
use Rattle.elements.specs.Kinds.{slip_kind}
use Rattle.runs.proofs.Feeding.{played_once}
use Rattle.runs.proofs.held_feeder.held_feeder.Goals as goal

pub returns : goal.returns
returns c =
    played_once slip_kind (λ x. eq-eqb x.batch x.batch refl) c.args.batches _ _ _ c.play.result
    c.new-tray.ensures.made (c.deref.ensures.value ∙ c.in_ok-calls.ensures) c.play.ensures
