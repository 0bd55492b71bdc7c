use Rattle.std.proofs.Common.{◌∙◌, arith, ap, sym}
use Rattle.lot_machine.specs.Numbers.{count_registered}
use Rattle.lot_threads.proofs.SizeLemmas.{next_size, too_large}
use Rattle.lot_threads.proofs.shared_lot.SharedLot.give_up_room.Goals as goal

pub shrink-requires-clause-above : goal.shrink-requires-clause-above
shrink-requires-clause-above g c κs within =
    (too_large c.trimmed_size-size.result c.loop-registry.registry.row c.trimmed_size-size.ensures.table (omega arith)).0

pub shrink-requires-clause-room : goal.shrink-requires-clause-room
shrink-requires-clause-room g c κs within =
    let large = too_large c.trimmed_size-size.result c.loop-registry.registry.row c.trimmed_size-size.ensures.table (omega arith)
    in
    let same = ap count_registered c.loop-registry.invariant.numbers in
    omega (arith, large, same, c.threads.ensures.count, c.trimmed_size-size.ensures.room)

pub loop-registry-preserved : goal.loop-registry-preserved
loop-registry-preserved g c =
    let large = too_large c.trimmed_size-size.result c.loop-registry.registry.row c.trimmed_size-size.ensures.table (omega arith)
    in
    let twice = next_size c.shrink.new.registry.row c.loop-registry.registry.row (sym c.shrink.ensures.index) in
    record {
      registry = c.shrink.ensures.registry;
      numbers = c.shrink.ensures.numbers ∙ c.loop-registry.invariant.numbers;
      above = omega (arith, large, twice);
    }
