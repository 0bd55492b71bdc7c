use Rattle.std.proofs.Common.{length, sym, ap, subst}
use Rattle.lot_machine.specs.Machine.{IsConsistent}
use Rattle.lot_litmus.proofs.MoveLemmas.{first_machine-consistent}
use Rattle.lot_litmus.proofs.reached.Reached.first.Goals as goal

pub invariant_of-result : goal.invariant_of-result
invariant_of-result c = (
  subst IsConsistent (sym (ap (λ configuration. configuration.machine) c.first.ensures)) first_machine-consistent,
  ap (λ configuration. length configuration.threads) c.first.ensures,
)
