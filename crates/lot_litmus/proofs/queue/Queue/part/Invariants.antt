use Rattle.std.proofs.Common.{◌≡◌, ◌++◌, ◌≤◌, drop, length}
use Rattle.lot_base.specs.Waiting.{Split}
use Rattle.lot_litmus.specs.declared.queue.Entry.{Entry}
use Rattle.lot_litmus.specs.Queues.{entries_of, parted}
use Rattle.lot_litmus.proofs.queue.Queue.part.Given as goal

-- what is still to be parted goes behind what was parted
abbrev pub invariant-loop-index : goal.invariant-loop-index
invariant-loop-index l =
    let rest : Split Entry = parted l.rest.taken l.rest.moved (drop l.index (entries_of l.self)) in
    let all : Split Entry = parted l.fn.chosen.taken l.fn.chosen.moved (entries_of l.self) in
    (all.taken ≡ entries_of l.parts.taken ++ rest.taken) × (all.moved ≡ entries_of l.parts.moved ++ rest.moved)
    × (all.left ≡ entries_of l.parts.left ++ rest.left) × (length (entries_of l.parts.taken) ≤ l.index)
    × (length (entries_of l.parts.moved) ≤ l.index) × (length (entries_of l.parts.left) ≤ l.index)
