-- The number of each step answer.
use Rattle.std.specs.Prelude.{ℕ}
use Rattle.elements.specs.declared.answers.StepAnswer.{StepAnswer}
use Rattle.elements.specs.declared.answers.StepAnswer.TheVariants.{Moved, Settled, SettledEnded, Ended, StoodOff}

abbrev pub answer_number : StepAnswer → ℕ
answer_number Moved = 1
answer_number Settled = 2
answer_number SettledEnded = 3
answer_number Ended = 4
answer_number StoodOff = 5
