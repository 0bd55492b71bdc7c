use Rattle.lot_simulator.proofs.RoomLemmas.{parks_have_entries, ends_have_room}
use Rattle.lot_simulator.proofs.record.ends_have_room.Goals as goal

pub returns-clause-entries : goal.returns-clause-entries
returns-clause-entries c = parks_have_entries

pub returns-clause-room : goal.returns-clause-room
returns-clause-room c = ends_have_room
