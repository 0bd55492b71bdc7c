use Rattle.std.proofs.Common.{◌≡◌}
use Rattle.lot_machine.specs.declared.step.Op.TheVariants as op
use Rattle.lot_machine.specs.declared.step.Step.TheVariants as step
use Rattle.lot_threads.proofs.section.Section.take_all.Given as goal

-- the unpark is of this key, with this token
abbrev pub ghosts-take_all_of : goal.ghosts-take_all_of
ghosts-take_all_of g a = record { said = λ s t. s ≡ step.Unpark (op.All a.key a.token) }
