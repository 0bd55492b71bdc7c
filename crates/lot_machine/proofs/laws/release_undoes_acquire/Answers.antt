use Rattle.lot_machine.proofs.LawLemmas.{IsStep-undone}
use Rattle.lot_machine.proofs.laws.release_undoes_acquire.Goals as goal

pub returns : goal.returns
returns c = IsStep-undone
