use Rattle.lot_history.proofs.LawLemmas.{from_unparks}
use Rattle.lot_history.proofs.laws.tokens_come_from_unparks.Goals as goal

pub returns : goal.returns
returns c = from_unparks
