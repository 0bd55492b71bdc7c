use Rattle.std.proofs.Common.{arith}
use Rattle.lot_simulator.proofs.JournalTotalLemmas.{IsRecorded-adds, totals_have_room}
use Rattle.lot_simulator.proofs.recording_lot.counted.Counted.step.Goals as goal

pub add-requires-2 : goal.add-requires-2
add-requires-2 g c =
    let adds = IsRecorded-adds c.args.self.now.recorded c.args.step c.step-result.new.self c.step-result.result
    c.step-result.ensures in
    let room = totals_have_room c.step-result.new.self c.consistency-2.ensures in
    omega (arith, adds.woken, room.1, c.consistency-2.ensures.capacity, c.woken_by.ensures, c.args.self.now.woken)

pub add-requires-3 : goal.add-requires-3
add-requires-3 g c =
    let adds = IsRecorded-adds c.args.self.now.recorded c.args.step c.step-result.new.self c.step-result.result
    c.step-result.ensures in
    let room = totals_have_room c.step-result.new.self c.consistency-2.ensures in
    omega (
      arith,
      adds.unparked,
      room.2,
      c.consistency-2.ensures.capacity,
      c.unparked_by.ensures,
      c.args.self.now.unparked,
    )
