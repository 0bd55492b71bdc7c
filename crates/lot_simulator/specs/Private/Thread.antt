-- Where the node of a thread is.
use Rattle.std.specs.Prelude.{◌≡◌, ℕ, ⊤}
use Rattle.lot_base.specs.Node.{fields}
use Rattle.lot_machine.specs.declared.status.Status.{Status}
use Rattle.lot_machine.specs.declared.status.Status.TheVariants as status
use Rattle.lot_simulator.specs.declared.lot.thread.State.{State}
use Rattle.lot_simulator.specs.declared.lot.thread.State.TheVariants.{Free, Running, Waiting, Late, Taken}

-- the status of a thread by its state
abbrev pub status_of : State → Status
status_of Free = status.Free
status_of (Running _) = status.Running
status_of (Waiting timed) = status.Waiting timed
status_of Late = status.Late
status_of (Taken node) = status.Taken (fields node.value).unpark_token

-- a node that is with a thread is its own
abbrev pub HasOwnNode : ℕ → State → Type 0
HasOwnNode number (Running node) = (fields node.value).number ≡ number
HasOwnNode number (Taken node) = (fields node.value).number ≡ number
HasOwnNode number _ = ⊤
