use Rattle.std.proofs.Common.{◌≡◌, ◌+◌, arith, refl}
use Rattle.std.proofs.lemmas.Result.{on_ok_weaker}
use Rattle.lot_machine.specs.Numbers.{count_registered}
use Rattle.lot_threads.specs.Cells.{size_in}
use Rattle.lot_threads.proofs.SizeLemmas.{room_doubled, size_doubled, too_small}
use Rattle.lot_threads.proofs.shared_lot.SharedLot.make_room.Goals as goal

pub overflow_mul-threads : goal.overflow_mul-threads
overflow_mul-threads g c = omega (arith, c.requires.few, c.requires.count, c.threads.ensures.few)

pub grow-requires-clause-below : goal.grow-requires-clause-below
grow-requires-clause-below g c κs within =
    too_small c.args.registry.now.row c.threads.result
    (omega (arith, c.requires.few, c.requires.count, c.threads.ensures.few)) (omega arith)

pub returns-clause-size : goal.returns-clause-size
returns-clause-size g c =
    let old = c.args.registry.now in
    let new = c.grow.new.registry in
    on_ok_weaker c.grow.result
    (λ (more : new.row ≡ old.row + 1). size_doubled (count_registered old.numbers) (size_in old) (size_in new) old.row
    new.row refl more refl c.requires.room (omega arith))
    c.grow.ensures.row

pub returns-clause-room : goal.returns-clause-room
returns-clause-room g c =
    let old = c.args.registry.now in
    let new = c.grow.new.registry in
    on_ok_weaker c.grow.result
    (λ (more : new.row ≡ old.row + 1). room_doubled (count_registered old.numbers) (size_in old) (size_in new) old.row
    new.row refl more refl c.requires.room)
    c.grow.ensures.row
