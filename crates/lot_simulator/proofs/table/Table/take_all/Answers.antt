use Rattle.lot_base.specs.NodeLists.{lists_of}
use Rattle.lot_base.specs.Waiting.{split_all}
use Rattle.lot_simulator.proofs.TakingLemmas.{IsTaking-from, IsTakenFrom-put, IsUnparkSplit-all}
use Rattle.lot_simulator.proofs.table.Table.take_all.Goals as goal

pub returns-clause-taken : goal.returns-clause-taken
returns-clause-taken c =
    let take = c.take-bucket.ensures in
    let all = c.take_all-done.ensures in
    rw (c.put.ensures, take.left)
    (IsTakenFrom-put split_all c.args.self.now.cells c.args.key c.take-bucket.result _ c.take_all-done.new.self
    c.args.token c.take_all-done.result.1 c.requires
    (IsTaking-from _ _ _ _ _ take.table take.size take.taken take.place all.place all.lists)
    (IsUnparkSplit-all (lists_of c.take-bucket.result.nodes c.args.key)) all.taken)
