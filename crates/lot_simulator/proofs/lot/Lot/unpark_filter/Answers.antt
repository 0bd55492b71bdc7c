use Rattle.std.proofs.Common.{◌∙◌, ap, sym}
use Rattle.lot_base.specs.Waiting.{split_filter}
use Rattle.lot_simulator.specs.Lot.{machine}
use Rattle.lot_machine.specs.Machine.{after_unpark}
use Rattle.lot_simulator.specs.Represents.{nodes_in}
use Rattle.lot_simulator.proofs.LotThreadLemmas.{lot_of}
use Rattle.lot_simulator.proofs.LotLemmas.{IsLotStepOfUse, IsLotStepOfUse-taken, CanCommit-taken}
use Rattle.lot_simulator.proofs.LotLemmas.{answer-filter, few-waiting}
use Rattle.lot_simulator.proofs.NodeSplitLemmas.{waiter_split, split_filter-map, park_tokens-map}
use Rattle.lot_simulator.proofs.TakingLemmas.{IsUnparkSplit-filter}
use Rattle.lot_simulator.proofs.lot.Lot.unpark_filter.Given as given
use Rattle.lot_simulator.proofs.lot.Lot.unpark_filter.Goals as goal
use Rattle.lot_simulator.proofs.lot.Lot.unpark_filter.Goals.{After-commit}

pub take_filter-taken-requires-clause-represents : goal.take_filter-taken-requires-clause-represents
take_filter-taken-requires-clause-represents g c = c.self.invariant.0.represents

pub take_filter-taken-requires-clause-filter : goal.take_filter-taken-requires-clause-filter
take_filter-taken-requires-clause-filter g c =
    rw park_tokens-map (rw (← c.self.view_is) at c.requires.filter)

pub take_filter-taken-requires-clause-callback : goal.take_filter-taken-requires-clause-callback
take_filter-taken-requires-clause-callback g c decisions decided =
    let callable = rw (← c.self.view_is) at c.requires.callback in
    let few = few-waiting (lot_of c.self.inside) c.self.invariant.0 c.args.key in
    rw (answer-filter c.self.inside.table.cells c.args.key few decisions)
    (callable decisions (rw park_tokens-map at decided))

pub commit-requires : goal.commit-requires
commit-requires g c =
    let filtered = c.take_filter-taken.ensures.filtered in
    CanCommit-taken (lot_of c.self.inside) c.args.key c.take_filter-taken.new.self.cells _ filtered.taken.0 _
    c.self.invariant.0 filtered.taken.2 (IsUnparkSplit-filter filtered.decisions _)

step : (g : given.Over) (c : After-commit g)
    → IsLotStepOfUse (lot_of c.self.inside)
    (record { buckets = c.take_filter-taken.new.self.cells; threads = c.commit.new.threads.items })
    (after_unpark (machine (lot_of c.self.inside)) c.args.key
    (waiter_split (split_filter c.take_filter-taken.ensures.filtered.decisions
    (nodes_in c.self.inside.table.cells c.args.key))) c.take_filter-taken.ensures.filtered.taken.0)
step g c =
    let filtered = c.take_filter-taken.ensures.filtered in
    rw c.commit.ensures
    (IsLotStepOfUse-taken (lot_of c.self.inside) c.args.key c.take_filter-taken.new.self.cells _ filtered.taken.0 _
    c.self.invariant.0 filtered.taken.2 (IsUnparkSplit-filter filtered.decisions _))

pub invariant_of-self : goal.invariant_of-self
invariant_of-self g c =
    ((step g c).step.is_lot, c.take_filter-taken.ensures.numbers ∙ c.self.invariant.1 ∙ sym (step g c).uses)

pub returns-clause-filtered : goal.returns-clause-filtered
returns-clause-filtered g c =
    let filtered = c.take_filter-taken.ensures.filtered in
    rw (← c.self.view_is)
    (record {
      decisions = filtered.decisions;
      decided = rw park_tokens-map at filtered.decided;
      answer = filtered.answer
          ∙ answer-filter c.self.inside.table.cells c.args.key
          (few-waiting (lot_of c.self.inside) c.self.invariant.0 c.args.key) filtered.decisions;
      taken = (
        filtered.taken.0,
        filtered.taken.1,
        (step g c).step.means
            ∙ ap (λ s. after_unpark (machine (lot_of c.self.inside)) c.args.key s filtered.taken.0)
            (split_filter-map filtered.decisions (nodes_in c.self.inside.table.cells c.args.key)),
      );
    })
