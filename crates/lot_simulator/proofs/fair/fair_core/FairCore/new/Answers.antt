use Rattle.std.proofs.Common.{rules, ◌≡◌, ℕ, ap, refl}
use Rattle.lot_simulator.specs.Lot.{machine}
use Rattle.lot_simulator.specs.LotState.{LotState}
use Rattle.lot_machine.specs.Machine.{new_machine}
use Rattle.lot_simulator.specs.declared.fair.fair_core.Holder.TheVariants.{Nobody}
use Rattle.lot_simulator.specs.FairCore.{state_of}
use Rattle.lot_simulator.specs.FairMachine.{new_fair_state}
use Rattle.lot_simulator.proofs.FairMachineLemmas.{IsFairConsistent-new}
use Rattle.lot_simulator.proofs.FairStepLemmas.{Leaves, Leaves-from}
use Rattle.lot_simulator.proofs.fair.fair_core.FairCore.new.Goals as goal

-- of a new lot
made : (lot : LotState) (max_threads : ℕ) → machine lot ≡ new_machine max_threads
    → Leaves (new_fair_state max_threads) (record { lot = lot; holder = Nobody })
made lot max_threads is =
    Leaves-from (new_fair_state max_threads) (record { lot = lot; holder = Nobody }) (ap (λ m. state_of m Nobody) is)
    (IsFairConsistent-new max_threads) (λ j. refl)

pub invariant_of-result : goal.invariant_of-result
invariant_of-result c = (made c.in_ok-lot.lot c.args.max_threads (search rules)).kept

pub returns-clause-ok : goal.returns-clause-ok
returns-clause-ok c = (made c.in_ok-lot.lot c.args.max_threads (search rules)).state
