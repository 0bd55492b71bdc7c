-- What the status of a thread says of it.
use Rattle.std.specs.Prelude.{Bool, true, false}
use Rattle.lot_machine.specs.declared.status.Status.{Status}
use Rattle.lot_machine.specs.declared.status.Status.TheVariants.{Free, Running, Waiting, Late, Taken}

-- it is registered
abbrev pub is_registered : Status → Bool
is_registered Free = false
is_registered _ = true

-- it runs
abbrev pub is_running : Status → Bool
is_running Running = true
is_running _ = false

-- it waits, or its deadline has passed: in the machine it stands in a list
abbrev pub is_queued : Status → Bool
is_queued (Waiting _) = true
is_queued Late = true
is_queued _ = false

-- it stands in a list with a timeout, whether or not its deadline has passed
abbrev pub is_timed : Status → Bool
is_timed (Waiting timed) = timed
is_timed Late = true
is_timed _ = false

-- its deadline is still to pass
abbrev pub awaits_deadline : Status → Bool
awaits_deadline (Waiting timed) = timed
awaits_deadline _ = false

-- it was taken out of its list and handed a token
abbrev pub is_taken : Status → Bool
is_taken (Taken _) = true
is_taken _ = false

-- its park may end: its deadline has passed, or it was taken
abbrev pub can_resolve : Status → Bool
can_resolve Late = true
can_resolve status = is_taken status

-- its park has no outcome yet
abbrev pub is_parked : Status → Bool
is_parked (Waiting _) = true
is_parked Late = true
is_parked (Taken _) = true
is_parked _ = false
