use Rattle.std.proofs.Common.{◌∙◌, ap, sym}
use Rattle.lot_base.specs.Waiting.{split_first}
use Rattle.lot_simulator.specs.Lot.{machine}
use Rattle.lot_machine.specs.Machine.{after_unpark}
use Rattle.lot_simulator.specs.Represents.{nodes_in}
use Rattle.lot_simulator.proofs.LotThreadLemmas.{lot_of}
use Rattle.lot_simulator.proofs.LotLemmas.{IsLotStepOfUse, IsLotStepOfUse-taken, CanCommit-taken, answer-first}
use Rattle.lot_simulator.proofs.NodeSplitLemmas.{waiter_split, split_first-map}
use Rattle.lot_simulator.proofs.TakingLemmas.{IsUnparkSplit-first}
use Rattle.lot_simulator.proofs.lot.Lot.unpark_one.Given as given
use Rattle.lot_simulator.proofs.lot.Lot.unpark_one.Goals as goal
use Rattle.lot_simulator.proofs.lot.Lot.unpark_one.Goals.{After-commit}

pub take_one-taken-requires-clause-represents : goal.take_one-taken-requires-clause-represents
take_one-taken-requires-clause-represents g c = c.self.invariant.0.represents

pub take_one-taken-requires-clause-callback : goal.take_one-taken-requires-clause-callback
take_one-taken-requires-clause-callback g c =
    rw (answer-first c.self.inside.table.cells c.args.key) (rw (← c.self.view_is) at c.requires)

pub commit-requires : goal.commit-requires
commit-requires g c =
    let one = c.take_one-taken.ensures in
    CanCommit-taken (lot_of c.self.inside) c.args.key c.take_one-taken.new.self.cells _ one.taken.0 _
    c.self.invariant.0 one.taken.2 (IsUnparkSplit-first _)

step : (g : given.Over) (c : After-commit g)
    → IsLotStepOfUse (lot_of c.self.inside)
    (record { buckets = c.take_one-taken.new.self.cells; threads = c.commit.new.threads.items })
    (after_unpark (machine (lot_of c.self.inside)) c.args.key
    (waiter_split (split_first (nodes_in c.self.inside.table.cells c.args.key))) c.take_one-taken.ensures.taken.0)
step g c =
    let one = c.take_one-taken.ensures in
    rw c.commit.ensures
    (IsLotStepOfUse-taken (lot_of c.self.inside) c.args.key c.take_one-taken.new.self.cells _ one.taken.0 _
    c.self.invariant.0 one.taken.2 (IsUnparkSplit-first _))

pub invariant_of-self : goal.invariant_of-self
invariant_of-self g c =
    ((step g c).step.is_lot, c.take_one-taken.ensures.numbers ∙ c.self.invariant.1 ∙ sym (step g c).uses)

pub returns-clause-taken : goal.returns-clause-taken
returns-clause-taken g c =
    let one = c.take_one-taken.ensures in (
      one.taken.0,
      one.taken.1,
      rw (← c.self.view_is)
          ((step g c).step.means
          ∙ ap (λ s. after_unpark (machine (lot_of c.self.inside)) c.args.key s one.taken.0)
          (split_first-map (nodes_in c.self.inside.table.cells c.args.key))),
    )

pub returns-clause-answer : goal.returns-clause-answer
returns-clause-answer g c =
    rw (← c.self.view_is) (c.take_one-taken.ensures.answer
    ∙ answer-first c.self.inside.table.cells c.args.key)
