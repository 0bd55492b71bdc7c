use denote.Param.Send.{IsSend}
use Rattle.lot_base.specs.contracts.queue.Queue.{the_row}
use Rattle.lot_base.proofs.QueueCrosses.{Queue-send}

pub send : IsSend the_row
send = Queue-send
