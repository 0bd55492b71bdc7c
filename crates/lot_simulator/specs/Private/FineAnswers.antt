-- The answer of a step that fits or not.
use Rattle.std.specs.Prelude.{Result, Ok, Err}
use Rattle.lot_base.specs.declared.token.Misfit.{Misfit}
use Rattle.lot_machine.specs.declared.step.Answer.TheVariants as answer
use Rattle.lot_simulator.specs.declared.interleaved.FineAnswer.{FineAnswer}
use Rattle.lot_simulator.specs.declared.interleaved.FineAnswer.TheVariants as fine

-- one that fits is answered so, and any other by `Misfit`
abbrev pub answer_for : Result FineAnswer Misfit → FineAnswer
answer_for (Ok given) = given
answer_for (Err _) = fine.Answer answer.Misfit
