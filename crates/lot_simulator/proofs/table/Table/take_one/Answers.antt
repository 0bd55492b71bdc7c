use Rattle.lot_base.specs.NodeLists.{lists_of}
use Rattle.lot_base.specs.Waiting.{split_first}
use Rattle.lot_simulator.proofs.TakingLemmas.{IsTaking-from, IsTakenFrom-put, IsUnparkSplit-first}
use Rattle.lot_simulator.proofs.table.Table.take_one.Goals as goal

pub returns-clause-taken : goal.returns-clause-taken
returns-clause-taken g c =
    let take = c.take-bucket.ensures in
    let one = c.take_one-done.ensures in (
      one.taken.0,
      one.taken.1,
      rw (c.put.ensures, take.left)
          (IsTakenFrom-put split_first c.args.self.now.cells c.args.key c.take-bucket.result _
          c.take_one-done.new.self one.taken.0 c.take_one-done.result.1 c.requires.represents
          (IsTaking-from _ _ _ _ _ take.table take.size take.taken take.place one.place one.lists)
          (IsUnparkSplit-first (lists_of c.take-bucket.result.nodes c.args.key)) one.taken.2),
    )
