use Rattle.std.proofs.Common.{arith}
use Rattle.lot_machine.proofs.NumberLemmas.{count_registered-free}
use Rattle.lot_simulator.proofs.table.Table.register.Goals as goal

pub returns-in_err-resize-clause-full : goal.returns-in_err-resize-clause-full
returns-in_err-resize-clause-full c = (
  λ refused. let other = rw refused at c.from_residual.ensures.1 in absurd cc,
  λ full. let free = count_registered-free c.self.inside.numbers c.in-Some.number c.in-Some.ensures.some.free in
      absurd (let full_inside = rw (← c.self.view_is) at full in omega (arith, free)),
)

pub returns-clause-full : goal.returns-clause-full
returns-clause-full c = (
  λ refused. absurd cc,
  λ full. let free = count_registered-free c.self.inside.numbers c.in-Some.number c.in-Some.ensures.some.free in
      absurd (let full_inside = rw (← c.self.view_is) at full in omega (arith, free)),
)
