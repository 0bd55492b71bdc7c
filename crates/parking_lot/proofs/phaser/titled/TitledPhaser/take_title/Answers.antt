use Rattle.lock_words.specs.Phases.{queue_of}
use Rattle.parking_lot.proofs.GateLemmas.{is_own}
use Rattle.parking_lot.proofs.phaser.titled.TitledPhaser.take_title.Goals as goal

pub returns-clause-title : goal.returns-clause-title
returns-clause-title c =
    is_own c.args.self.now.lot.now c.args.self.now.key (queue_of c.args.self.now.phases) c.args.self.now.of_lot
    c.in_ok-title.field-0.title c.in_ok-title.ensures.fits
