use Rattle.std.proofs.Common.{arith}
use Rattle.std.proofs.lemmas.Option.{IfSome_then}
use Rattle.lot_machine.proofs.NumberLemmas.{count_registered-free}
use Rattle.lot_machine.proofs.numbers.Numbers.least_free.Goals as goal

pub returns-clause-few : goal.returns-clause-few
returns-clause-few c =
    IfSome_then c.least_free_of.result c.least_free_of.ensures.some
    (λ number least. let free = count_registered-free c.self.inside.uses.items number least.free in
    rw (← c.self.view_is) (omega (arith, free, c.self.invariant.1)))
