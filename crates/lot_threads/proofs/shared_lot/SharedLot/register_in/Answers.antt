use Rattle.std.proofs.Common.{arith}
use Rattle.lot_machine.proofs.NumberLemmas.{count_registered-free}
use Rattle.lot_threads.proofs.shared_lot.SharedLot.register_in.Goals as goal

-- a number is free, so not all are registered
pub returns-in_err-make_room-clause-full : goal.returns-in_err-make_room-clause-full
returns-in_err-make_room-clause-full g c = λ all.
    let fewer = count_registered-free c.args.registry.now.numbers c.in-Some.number c.in-Some.ensures.some.free in
    absurd (omega (arith, fewer, all))

pub returns-clause-full : goal.returns-clause-full
returns-clause-full g c = λ all.
    let fewer = count_registered-free c.args.registry.now.numbers c.in-Some.number c.in-Some.ensures.some.free in
    absurd (omega (arith, fewer, all))
