use Rattle.std.proofs.Common.{◌++◌, drop, replicate, ap, ◌∙◌, rules}
use Rattle.std.proofs.lemmas.List.{length-take-le}
use Rattle.pieces.proofs.Filling.{all_made}
use Rattle.pieces.proofs.tray.making.fill.Goals as goal

pub returns : goal.returns
returns g c =
    let made = all_made _ c.args.value _ (λ x q r. search rules) c.fill_with.new.self c.fill_with.ensures.ran.0 c.fill_with.ensures.ran.1 in
    let size = c.fill_with.ensures.len ∙ length-take-le c.args.count c.args.strip.now c.requires in
    ap (λ xs. xs ++ drop c.args.count c.args.strip.now) (made ∙ ap (λ n. replicate n c.args.value) size)
