use Rattle.lot_base.specs.contracts.bucket.Bucket.{the_view}
use Rattle.lot_base.specs.NodeLists.{lists_of}
use Rattle.lot_base.proofs.WaitingLemmas.{IsInPlace-left}
use Rattle.lot_base.proofs.FilterLemmas.{left_by, All-left_by}
use Rattle.lot_base.proofs.bucket.Bucket.take_filter.Goals as goal

pub invariant_of-self : goal.invariant_of-self
invariant_of-self g c =
    let bucket = the_view c.self.inside in
    let decisions = c.take_chosen-chosen.ensures.decisions in
    let waiters = lists_of c.self.inside.queue c.args.key in
    IsInPlace-left bucket c.args.key c.take_chosen-chosen.new.queue (left_by decisions waiters)
    (λ P. All-left_by P decisions waiters) c.take_chosen-chosen.ensures.lists c.self.invariant
