use Rattle.std.proofs.Common.{◌≡◌, ◌-◌}
use Rattle.lot_litmus.specs.Steps.{local_bound, settled}
use Rattle.lot_litmus.specs.View.{configuration_of}
use Rattle.lot_litmus.proofs.state.State.settle.Given as goal

abbrev pub invariant-loop : goal.invariant-loop
invariant-loop l =
    settled (local_bound - l.counter) l.code.instructions.items (configuration_of l.self) l.thread.number l.progress
    ≡ settled local_bound l.code.instructions.items (configuration_of l.fn.self) l.thread.number l.fn.progress
