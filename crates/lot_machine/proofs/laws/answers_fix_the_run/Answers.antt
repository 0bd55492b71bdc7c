use Rattle.lot_machine.proofs.LawLemmas.{IsStep-fixes, IsRun-fixes}
use Rattle.lot_machine.proofs.laws.answers_fix_the_run.Goals as goal

pub returns : goal.returns
returns c = record { step = IsStep-fixes; run = IsRun-fixes }
