use Rattle.std.proofs.Common.{arith}
use Rattle.std.proofs.Math.ListN.{length-set}
use Rattle.lot_machine.specs.declared.numbers.Use.TheVariants.{Registered}
use Rattle.lot_machine.proofs.NumberLemmas.{AreRegisteredBelow-registered, count_registered-set}
use Rattle.lot_machine.proofs.numbers.Numbers.register.Goals as goal

pub invariant_of-self : goal.invariant_of-self
invariant_of-self c =
    let least = rw (← c.self.view_is) at c.requires in
    let more = count_registered-set c.self.inside.uses.items c.args.number least.free in
    let kept = length-set c.self.inside.uses.items c.args.number Registered in (
      omega (arith, more, c.self.invariant.0),
      omega (arith, kept, c.self.invariant.1),
      AreRegisteredBelow-registered c.self.inside.uses.items c.args.number least,
    )

pub returns-clause-count : goal.returns-clause-count
returns-clause-count c =
    let least = rw (← c.self.view_is) at c.requires in
    rw (← c.self.view_is) (count_registered-set c.self.inside.uses.items c.args.number least.free)
