use Rattle.lot_machine.proofs.TotalLemmas.{IsRun-balances}
use Rattle.lot_machine.proofs.laws.unparked_threads_come_back.Goals as goal

pub returns : goal.returns
returns c = IsRun-balances
