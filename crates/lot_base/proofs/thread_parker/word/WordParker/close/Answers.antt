use Rattle.std.proofs.Common.{rules}
use Rattle.lot_base.proofs.WordParkerLemmas.{closes}
use Rattle.lot_base.proofs.thread_parker.word.WordParker.close.Goals as goal

pub store-requires : goal.store-requires
store-requires g c = (
  search rules,
  search rules,
  closes g.L.Payload.fits c.args.self.now.table.shared.key _ _ c.args.word _ c.args.self.now.sized.1 c.requires.slot,
)
