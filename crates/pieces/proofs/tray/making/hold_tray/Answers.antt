use Rattle.std.proofs.lemmas.Bool.Decides.{nat_tests}
use Rattle.std.proofs.Common.{arith}
use Rattle.pieces.proofs.tray.making.hold_tray.Goals as goal
use Rattle.pieces.proofs.tray.making.hold_tray.Goals.{then-cells-gt1, else-cells-gt1}

pub returns-else-heads-gt0 : goal.returns-else-heads-gt0
returns-else-heads-gt0 g c = elim c.if-cells-gt1.branch [ then-cells-gt1 w ↦ grind (arith, nat_tests) | else-cells-gt1 w ↦ grind (arith, nat_tests) ]
