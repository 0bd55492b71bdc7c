use Rattle.lock_words.specs.Stock.{supply_of}
use Rattle.parking_lot.proofs.GateLemmas.{is_own}
use Rattle.parking_lot.proofs.gate.Gate.take_title.Goals as goal

pub returns-clause-title : goal.returns-clause-title
returns-clause-title g c =
    is_own c.args.self.now.lot.now c.args.self.now.key (supply_of c.args.self.now.stock).queue c.args.self.now.of_lot
    c.in_ok-title.field-0.title c.in_ok-title.ensures.fits
