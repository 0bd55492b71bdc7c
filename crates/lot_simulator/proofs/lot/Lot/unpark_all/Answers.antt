use Rattle.std.proofs.Common.{◌∙◌, sym}
use Rattle.lot_base.specs.Waiting.{split_all}
use Rattle.lot_simulator.specs.Lot.{machine}
use Rattle.lot_machine.specs.Machine.{after_unpark}
use Rattle.lot_simulator.specs.Represents.{waiters_in}
use Rattle.lot_simulator.proofs.LotThreadLemmas.{lot_of}
use Rattle.lot_simulator.proofs.LotLemmas.{IsLotStepOfUse, IsLotStepOfUse-taken, CanCommit-taken, saturated-all}
use Rattle.lot_simulator.proofs.LotLemmas.{few-waiting}
use Rattle.lot_simulator.proofs.TakingLemmas.{IsUnparkSplit-all}
use Rattle.lot_simulator.proofs.lot.Lot.unpark_all.Goals as goal
use Rattle.lot_simulator.proofs.lot.Lot.unpark_all.Goals.{After-commit}

pub take_all-count-requires : goal.take_all-count-requires
take_all-count-requires c = c.self.invariant.0.represents

pub commit-requires : goal.commit-requires
commit-requires c =
    CanCommit-taken (lot_of c.self.inside) c.args.key c.take_all-count.new.self.cells _ c.args.unpark_token _
    c.self.invariant.0 c.take_all-count.ensures.taken (IsUnparkSplit-all _)

step : (c : After-commit) → IsLotStepOfUse (lot_of c.self.inside)
    (record { buckets = c.take_all-count.new.self.cells; threads = c.commit.new.threads.items })
    (after_unpark (machine (lot_of c.self.inside)) c.args.key
    (split_all (waiters_in c.self.inside.table.cells c.args.key)) c.args.unpark_token)
step c =
    rw c.commit.ensures
    (IsLotStepOfUse-taken (lot_of c.self.inside) c.args.key c.take_all-count.new.self.cells _ c.args.unpark_token _
    c.self.invariant.0 c.take_all-count.ensures.taken (IsUnparkSplit-all _))

pub invariant_of-self : goal.invariant_of-self
invariant_of-self c =
    ((step c).step.is_lot, c.take_all-count.ensures.numbers ∙ c.self.invariant.1 ∙ sym (step c).uses)

pub returns-clause-taken : goal.returns-clause-taken
returns-clause-taken c = rw (← c.self.view_is) (step c).step.means

pub returns-clause-answer : goal.returns-clause-answer
returns-clause-answer c =
    rw (← c.self.view_is) (c.take_all-count.ensures.answer
    ∙ saturated-all c.self.inside.table.cells c.args.key
    (few-waiting (lot_of c.self.inside) c.self.invariant.0 c.args.key))
