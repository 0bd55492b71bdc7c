use Rattle.std.proofs.Common.{◌≡◌, ◌∙◌, ap, subst, length, OnOk, OnErr}
use Rattle.lot_simulator.specs.Lot.{machine}
use Rattle.lot_machine.specs.Machine.{threads_of}
use Rattle.lot_machine.specs.Size.{IsTrimmedSize, IsTooLarge}
use Rattle.lot_machine.specs.Numbers.{count_registered}
use Rattle.lot_simulator.proofs.LotThreadLemmas.{lot_of}
use Rattle.lot_simulator.proofs.UseLemmas.{threads_of-uses}
use Rattle.lot_simulator.proofs.lot.Lot.trim.Goals as goal
use Rattle.lot_simulator.proofs.lot.Lot.trim.Goals.{After-trim}

-- the table's registered numbers are the lot's threads
counted : (c : After-trim) → count_registered c.self.inside.table.numbers ≡ threads_of (machine (lot_of c.self.inside))
counted c = ap count_registered c.self.invariant.1 ∙ threads_of-uses (lot_of c.self.inside)

pub returns-clause-size : goal.returns-clause-size
returns-clause-size c =
    rw (← c.self.view_is)
    (subst (λ threads. OnOk c.trim.result
    (IsTrimmedSize threads (length c.self.inside.table.cells) (length c.trim.new.self.cells))) (counted c)
    c.trim.ensures.size)

pub returns-clause-refused : goal.returns-clause-refused
returns-clause-refused c =
    rw (← c.self.view_is)
    (subst (λ threads. OnErr c.trim.result (IsTooLarge threads (length c.self.inside.table.cells))) (counted c)
    c.trim.ensures.refused)
