use Rattle.parking_lot.proofs.TitledMutexLemmas.{has_value}
use Rattle.parking_lot.proofs.titled_mutex.TitledMutex.guard.Goals as goal

pub take_value-value-requires-clause-value : goal.take_value-value-requires-clause-value
take_value-value-requires-clause-value g c =
    has_value c.args.self.now.gate.stock c.args.self.now.guarding c.args.holder c.requires.permit
