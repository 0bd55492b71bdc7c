-- What a search's answers stand for, of one instruction.
use Rattle.lot_litmus.specs.declared.step.After.{After}
use Rattle.lot_litmus.specs.declared.step.After.TheVariants as after
use Rattle.lot_litmus.specs.declared.local.Locally.{Locally}
use Rattle.lot_litmus.specs.declared.local.Locally.TheVariants as locally
use Rattle.lot_litmus.specs.declared.perform.Performed.{Performed}
use Rattle.lot_litmus.specs.declared.perform.Performed.TheVariants as performed
use Rattle.lot_litmus.specs.declared.state.Progress.{Progress}
use Rattle.lot_litmus.specs.declared.state.State.{State}
use Rattle.lot_litmus.specs.Steps as steps
use Rattle.lot_litmus.specs.View.{configuration_of}

-- where the thread has come so far afterwards
abbrev pub locally_of : Locally → Progress → steps.Locally
locally_of locally.Rests p = steps.Rests
locally_of locally.Advances p = steps.Advances p
locally_of (locally.Errs fault) p = steps.Errs fault

-- where the state is this afterwards
abbrev pub performed_of : Performed → State → steps.Performed
performed_of performed.Cannot state = steps.Cannot
performed_of (performed.Does p) state = steps.Does (configuration_of state) p
performed_of (performed.Mistakes fault) state = steps.Mistakes fault

abbrev pub after_of : After → State → steps.Outcome
after_of after.Blocked state = steps.Blocked
after_of after.Goes state = steps.Goes (configuration_of state)
after_of (after.Fails fault) state = steps.Fails fault
