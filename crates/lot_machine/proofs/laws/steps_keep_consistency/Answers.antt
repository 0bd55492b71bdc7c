use Rattle.lot_machine.proofs.AnswerLemmas.{length-le-lists}
use Rattle.lot_machine.proofs.ThreadCountLemmas.{threads_of-step}
use Rattle.lot_machine.proofs.StepLemmas.{IsConsistent-new, IsConsistent-step}
use Rattle.lot_machine.proofs.laws.steps_keep_consistency.Goals as goal

pub returns : goal.returns
returns c =
    record {
      new = IsConsistent-new;
      consistent = IsConsistent-step;
      lists = length-le-lists;
      threads = threads_of-step;
    }
