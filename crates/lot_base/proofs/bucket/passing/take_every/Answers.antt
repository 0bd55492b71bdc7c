use Rattle.std.proofs.Common.{◌≡◌, rules}
use Rattle.lot_base.proofs.RequeueLemmas.{lists_of-others, others_of}
use Rattle.lot_base.proofs.bucket.passing.take_every.Goals as goal

pub returns-clause-lists : goal.returns-clause-lists
returns-clause-lists c = λ k. let e : c.loop-node.others ≡ others_of c.args.key c.args.queue.now = search rules in
    rw e (lists_of-others c.args.key c.args.queue.now k)
