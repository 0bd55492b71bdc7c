use Rattle.std.proofs.Common.{List, subst}
use Rattle.lot_base.specs.contracts.bucket.Bucket.{the_view}
use Rattle.lot_base.specs.Waiting.{without_first}
use Rattle.lot_base.specs.NodeFields.{NodeFields}
use Rattle.lot_base.specs.NodeLists.{ChangesOnly, lists_of, has_number}
use Rattle.lot_base.proofs.WaitingLemmas.{IsInPlace-left}
use Rattle.lot_base.proofs.RemoveLemmas.{All-without_first}
use Rattle.lot_base.proofs.bucket.Bucket.remove_timed.Goals as goal

pub invariant_of-self-2 : goal.invariant_of-self-2
invariant_of-self-2 c =
    let bucket = the_view c.self.inside in
    let key = c.args.key in
    let test = has_number c.args.number in
    let waiters = lists_of bucket.nodes key in
    let left = c.take_numbered.new.queue in
    IsInPlace-left bucket key left (without_first test waiters) (λ P. All-without_first P test waiters)
    (subst (λ (queue : List NodeFields). ChangesOnly queue left key (without_first test (lists_of queue key)))
    c.waits_timed.ensures.nodes c.take_numbered.ensures.lists) c.self.invariant
