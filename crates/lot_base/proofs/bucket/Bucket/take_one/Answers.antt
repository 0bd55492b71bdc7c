use Rattle.std.proofs.Common.{drop}
use Rattle.std.proofs.lemmas.List.Elements.{All-drop}
use Rattle.lot_base.specs.contracts.bucket.Bucket.{the_view}
use Rattle.lot_base.specs.NodeLists.{lists_of}
use Rattle.lot_base.proofs.WaitingLemmas.{IsInPlace-left}
use Rattle.lot_base.proofs.bucket.Bucket.take_one.Goals as goal

pub invariant_of-self : goal.invariant_of-self
invariant_of-self g c =
    let bucket = the_view c.self.inside in
    let waiters = lists_of c.self.inside.queue c.args.key in
    IsInPlace-left bucket c.args.key c.take_first-first.new.queue (drop 1 waiters)
    (λ P. All-drop P 1 waiters) c.take_first-first.ensures.lists c.self.invariant
