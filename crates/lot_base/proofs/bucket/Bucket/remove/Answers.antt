use Rattle.lot_base.specs.contracts.bucket.Bucket.{the_view}
use Rattle.lot_base.specs.Waiting.{without_first}
use Rattle.lot_base.specs.NodeLists.{lists_of, has_number}
use Rattle.lot_base.proofs.WaitingLemmas.{IsInPlace-left}
use Rattle.lot_base.proofs.RemoveLemmas.{All-without_first}
use Rattle.lot_base.proofs.bucket.Bucket.remove.Goals as goal

pub invariant_of-self-2 : goal.invariant_of-self-2
invariant_of-self-2 g c =
    let bucket = the_view c.self.inside in
    let waiters = lists_of c.self.inside.queue c.args.key in
    let test = has_number c.args.number in
    IsInPlace-left bucket c.args.key c.take_numbered.new.queue (without_first test waiters)
    (λ P. All-without_first P test waiters) c.take_numbered.ensures.lists c.self.invariant
