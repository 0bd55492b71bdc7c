use Rattle.lot_machine.specs.declared.step.Answer.TheVariants as answer
use Rattle.lot_machine.specs.declared.step.Op.TheVariants as op
use Rattle.lot_machine.specs.declared.step.Step.TheVariants as step
use Rattle.lot_threads.specs.Cells.{threads_in}
use Rattle.lot_threads.specs.Members.{Is}
use Rattle.lot_threads.proofs.titled_steps.add_all_titled.Given as goal

-- the unpark of all of the key with this token and count
abbrev pub ghosts-add_titled : goal.ghosts-add_titled
ghosts-add_titled a = record {
  said = Is (step.Unpark (op.All a._values.now.1 a._values.now.2)) (answer.Count a._values.now.3);
}

-- the threads that were taken
abbrev pub ghost-add_titled : goal.ghost-add_titled
ghost-add_titled a = threads_in a._values.now.0.now
