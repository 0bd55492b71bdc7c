use denote.Param.Send.{IsSync}
use Rattle.lot_base.specs.contracts.queue.Queue.{the_row}
use Rattle.lot_base.proofs.QueueCrosses.{Queue-sync}

pub sync : IsSync the_row
sync = Queue-sync
