use Rattle.std.proofs.Common.{arith}
use Rattle.std.proofs.lemmas.Grind.{common_steps}
use Rattle.lot_machine.proofs.NumberLemmas.{AreRegisteredBelow-freed}
use Rattle.lot_machine.proofs.numbers.Numbers.release.Goals as goal

pub overflow_sub-self : goal.overflow_sub-self
overflow_sub-self c = grind (arith, common_steps)

pub invariant_of-self-in-Registered : goal.invariant_of-self-in-Registered
invariant_of-self-in-Registered c = (
  grind (arith, common_steps),
  grind (arith, common_steps),
  rw (c.replace.ensures.after, c.min-self-inside.ensures)
      (AreRegisteredBelow-freed c.self.inside.uses.items c.args.number c.self.inside.search_from c.self.invariant.2),
)

pub invariant_of-self-in_default-replace : goal.invariant_of-self-in_default-replace
invariant_of-self-in_default-replace c = grind (arith, common_steps)

pub returns-in_default-clause-freed : goal.returns-in_default-clause-freed
returns-in_default-clause-freed c = grind (arith, common_steps)

pub returns-in-Registered-clause-count : goal.returns-in-Registered-clause-count
returns-in-Registered-clause-count c = grind (arith, common_steps)

pub returns-in_default-replace-clause-not_registered : goal.returns-in_default-replace-clause-not_registered
returns-in_default-replace-clause-not_registered c = grind (arith, common_steps)

pub returns-in_default-replace-clause-count : goal.returns-in_default-replace-clause-count
returns-in_default-replace-clause-count c = grind (arith, common_steps)
