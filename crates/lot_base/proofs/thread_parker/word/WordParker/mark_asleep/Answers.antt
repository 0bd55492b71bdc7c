use Rattle.std.proofs.Common.{rules, arith}
use Rattle.lot_base.proofs.WordParkerLemmas.{arrives, marks}
use Rattle.lot_base.proofs.thread_parker.word.WordParker.mark_asleep.Goals as goal

pub load_new_seat-word-requires : goal.load_new_seat-word-requires
load_new_seat-word-requires g c = (search rules, arrives g.L.Payload.fits c.args.self.now.table.shared.key _ 7)

pub compare_exchange-requires : goal.compare_exchange-requires
compare_exchange-requires g c = (
  search rules,
  search rules,
  marks g.L.Payload.fits c.args.self.now.table.shared.key _ _ _ _ _ (omega arith) (omega arith) (omega arith),
)
