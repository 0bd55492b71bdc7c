use Rattle.lot_litmus.proofs.MoveLemmas.{steps-are}
use Rattle.lot_litmus.proofs.laws.steps_are_of_the_machine.Goals as goal

pub returns : goal.returns
returns c = steps-are
