use Rattle.lot_simulator.proofs.JournalTotalLemmas.{unparked_are_woken_or_taken}
use Rattle.lot_simulator.proofs.recording_lot.unparked_are_woken_or_taken.Goals as goal

pub returns : goal.returns
returns c = unparked_are_woken_or_taken
