use Rattle.lot_base.specs.NodeLists.{lists_of}
use Rattle.lot_base.specs.Waiting.{split_filter}
use Rattle.lot_simulator.proofs.TakingLemmas.{IsTaking-from, IsTakenFrom-put, IsUnparkSplit-filter}
use Rattle.lot_simulator.proofs.table.Table.take_filter.Goals as goal

pub take_filter-done-requires-clause-filter : goal.take_filter-done-requires-clause-filter
take_filter-done-requires-clause-filter g c = rw c.take-bucket.ensures.taken c.requires.filter

pub take_filter-done-requires-clause-callback : goal.take_filter-done-requires-clause-callback
take_filter-done-requires-clause-callback g c decisions decided =
    rw c.take-bucket.ensures.taken
    (c.requires.callback decisions (rw c.take-bucket.ensures.taken at decided))

pub returns-clause-filtered : goal.returns-clause-filtered
returns-clause-filtered g c =
    let take = c.take-bucket.ensures in
    let done = c.take_filter-done.ensures in
    let filtered = done.filtered in
    record {
      decisions = filtered.decisions;
      decided = rw take.taken at filtered.decided;
      answer = rw take.taken at filtered.answer;
      taken = (
        filtered.taken.0,
        filtered.taken.1,
        rw (c.put.ensures, take.left)
            (IsTakenFrom-put (split_filter filtered.decisions) c.args.self.now.cells c.args.key c.take-bucket.result _
            c.take_filter-done.new.self filtered.taken.0 c.take_filter-done.result.1 c.requires.represents
            (IsTaking-from _ _ _ _ _ take.table take.size take.taken take.place done.place filtered.lists)
            (IsUnparkSplit-filter filtered.decisions (lists_of c.take-bucket.result.nodes c.args.key))
            filtered.taken.2),
      );
    }
