use Rattle.lot_threads.proofs.LockLemmas.{own_at}
use Rattle.lot_threads.proofs.shared_lot.lock_at.Goals as goal

pub returns : goal.returns
returns c = own_at c.args.row.now c.args.place c.index-row-place.result c.requires c.index-row-place.is
