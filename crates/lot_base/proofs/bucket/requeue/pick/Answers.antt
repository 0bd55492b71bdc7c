use Rattle.std.proofs.Common.{rules}
use Rattle.lot_base.proofs.RequeueLemmas.{lists_of-take_one}
use Rattle.lot_base.proofs.bucket.requeue.pick.Goals as goal

pub returns-in-RequeueOne-clause-moved : goal.returns-in-RequeueOne-clause-moved
returns-in-RequeueOne-clause-moved g c =
    search (rules, lists_of-take_one c.args.from c.args.queue.now)

pub returns-in-RequeueOne-clause-count : goal.returns-in-RequeueOne-clause-count
returns-in-RequeueOne-clause-count g c =
    search (rules, lists_of-take_one c.args.from c.args.queue.now)

pub returns-in-RequeueOne-clause-told : goal.returns-in-RequeueOne-clause-told
returns-in-RequeueOne-clause-told g c =
    search (rules, lists_of-take_one c.args.from c.args.queue.now)

pub rekey_every-moved-requires : goal.rekey_every-moved-requires
rekey_every-moved-requires g c =
    search (rules, lists_of-take_one c.args.from c.args.queue.now)
