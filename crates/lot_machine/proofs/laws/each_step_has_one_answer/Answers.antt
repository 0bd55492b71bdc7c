use Rattle.lot_machine.proofs.AnswerLemmas.{HasAnswer-step, IsStep-same_answer, memory-open}
use Rattle.lot_machine.proofs.laws.each_step_has_one_answer.Goals as goal

pub returns : goal.returns
returns c = record { some = HasAnswer-step; one = IsStep-same_answer; memory = memory-open }
