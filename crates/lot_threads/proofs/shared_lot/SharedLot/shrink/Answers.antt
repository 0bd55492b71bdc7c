use Rattle.std.proofs.Common.{◌-◌, arith}
use Rattle.lot_threads.proofs.SizeLemmas.{next_size}
use Rattle.lot_threads.proofs.shared_lot.SharedLot.shrink.Goals as goal

pub returns-clause-registry : goal.returns-clause-registry
returns-clause-registry g c =
    let row = c.args.registry.now.row in
    let twice = next_size (row - 1) row (omega (arith, c.requires.above)) in
    record {
      few = c.requires.registry.few;
      count = c.requires.registry.count;
      part = c.requires.registry.part;
      witness = c.move_to_smaller.ensures;
      row = omega (arith, c.requires.registry.row);
      room = omega (arith, twice, c.requires.room);
    }
