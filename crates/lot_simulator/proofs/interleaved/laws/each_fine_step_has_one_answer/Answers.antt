use Rattle.lot_simulator.proofs.StepAnswerLemmas.{HasFineAnswer-step, IsFineStep-same_answer, fine_memory-open}
use Rattle.lot_simulator.proofs.interleaved.laws.each_fine_step_has_one_answer.Goals as goal

pub returns : goal.returns
returns c = record { some = HasFineAnswer-step; one = IsFineStep-same_answer; memory = fine_memory-open }
