-- What a step does to the threads of a lot.
use Rattle.std.specs.Prelude.{◌≡◌, ℕ, ◌<◌, List, ◌∷◌, length, slice_set, IsTrue, ⊤, []}
use Rattle.lot_base.specs.NodeFields.{NodeFields}
use Rattle.lot_machine.specs.declared.status.Status.{Status}
use Rattle.lot_machine.specs.declared.status.Status.TheVariants.{Taken}
use Rattle.lot_simulator.specs.LotState.{ThreadState}
use Rattle.lot_simulator.specs.Lot.{thread_at}
use Rattle.lot_machine.specs.Status.{is_queued}

-- the threads, one of them with another status
abbrev pub threads_with_status : List ThreadState → ℕ → Status → List ThreadState
threads_with_status threads number status =
    slice_set threads number (record (thread_at threads number) { status = status })

-- the threads, one of them with another key
abbrev pub threads_with_key : List ThreadState → ℕ → ℕ → List ThreadState
threads_with_key threads number key = slice_set threads number (record (thread_at threads number) { key = key })

-- the threads, each of these numbers with the key
abbrev pub threads_with_keys : ℕ → List ℕ → List ThreadState → List ThreadState
threads_with_keys key [] threads = threads
threads_with_keys key (number ∷ numbers) threads = threads_with_keys key numbers (threads_with_key threads number key)

-- the threads, the one of the node taken
abbrev pub taken_with : NodeFields → List ThreadState → List ThreadState
taken_with node threads = threads_with_status threads node.number (Taken node.unpark_token)

-- the threads once each of the nodes was handed to its own
abbrev pub threads_after_commit : List NodeFields → List ThreadState → List ThreadState
threads_after_commit [] threads = threads
threads_after_commit (node ∷ nodes) threads = threads_after_commit nodes (taken_with node threads)

-- each of the nodes is of a thread that waits for it
abbrev pub CanCommit : List NodeFields → List ThreadState → Type 0
CanCommit [] threads = ⊤
CanCommit (node ∷ nodes) threads =
    (node.number < length threads) × ((thread_at threads node.number).number ≡ node.number)
    × IsTrue (is_queued (thread_at threads node.number).status) × CanCommit nodes (taken_with node threads)
