use Rattle.std.proofs.Common.{◌+◌, arith, refl}
use Rattle.lot_threads.proofs.SizeLemmas.{next_size}
use Rattle.lot_threads.proofs.shared_lot.SharedLot.grow.Goals as goal

pub returns-clause-registry : goal.returns-clause-registry
returns-clause-registry g c =
    let row = c.args.registry.now.row in
    let twice = next_size row (row + 1) refl in
    record {
      few = c.requires.registry.few;
      count = c.requires.registry.count;
      part = c.requires.registry.part;
      witness = c.move_to_larger.ensures;
      row = c.requires.below;
      room = omega (arith, twice, c.requires.registry.room);
    }
