use Rattle.lot_simulator.proofs.JournalTotalLemmas.{totals_have_room}
use Rattle.lot_simulator.proofs.recording_lot.totals_have_room.Goals as goal

pub returns : goal.returns
returns c = totals_have_room
