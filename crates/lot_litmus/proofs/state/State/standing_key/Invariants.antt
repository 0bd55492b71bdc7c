use Rattle.std.proofs.Common.{◌≡◌, ◌-◌}
use Rattle.lot_litmus.specs.Steps.{first_key, standing_key}
use Rattle.lot_litmus.specs.View.{machine_of}
use Rattle.lot_litmus.proofs.state.State.standing_key.Given as goal

abbrev pub invariant-loop-number : goal.invariant-loop-number
invariant-loop-number l =
    first_key (machine_of l.self.queues l.self.standings) l.thread.number l.number (4 - l.number)
    ≡ standing_key (machine_of l.self.queues l.self.standings) l.thread.number
