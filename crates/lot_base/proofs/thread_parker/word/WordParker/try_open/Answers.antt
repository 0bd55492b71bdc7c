use Rattle.std.proofs.Common.{rules, arith}
use Rattle.lot_base.proofs.WordParkerLemmas.{busies}
use Rattle.lot_base.proofs.thread_parker.word.WordParker.try_open.Goals as goal

pub swap_new_seat-found-requires : goal.swap_new_seat-found-requires
swap_new_seat-found-requires g c = (search rules, busies g.L.Payload.fits c.args.self.now.table.shared.key _ _ (omega arith))
