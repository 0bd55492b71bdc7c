use Rattle.std.proofs.Common.{[], ◌∷◌}
use Rattle.lot_machine.specs.declared.step.Answer.TheVariants as answer
use Rattle.lot_machine.specs.declared.step.Step.TheVariants as step
use Rattle.lot_threads.specs.Cells.{numbers_in}
use Rattle.lot_threads.specs.Members.{Is}
use Rattle.lot_threads.proofs.told.add_retired.Given as goal

-- the number is registered no longer
abbrev pub ghosts-add_with : goal.ghosts-add_with
ghosts-add_with a = record { said = Is (step.Retire a._values.now.0) answer.Retired }

abbrev pub ghost-add_with : goal.ghost-add_with
ghost-add_with a = numbers_in a._values.now.1.now ∷ []
