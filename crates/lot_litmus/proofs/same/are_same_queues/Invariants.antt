use Rattle.std.proofs.Common.{◌≡◌, take, map}
use Rattle.lot_litmus.specs.Queues.{entries_of}
use Rattle.lot_litmus.specs.View.{waiter_of}
use Rattle.lot_litmus.proofs.same.are_same_queues.Given as goal

abbrev pub invariant-loop-index : goal.invariant-loop-index
invariant-loop-index l = map (λ q. map waiter_of (entries_of q)) (take l.index l.queues)
    ≡ map (λ q. map waiter_of (entries_of q)) (take l.index l.others)
