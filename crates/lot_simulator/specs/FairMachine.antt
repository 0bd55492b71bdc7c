-- The machine of a fair mutex and a condition variable: its state, what each step makes of it, and what every
-- consistent state keeps, as those of cores are. `FairSteps` says when a step does so, and with which answer.
use Rattle.std.specs.Prelude.{◌≡◌, ◌≢◌, ℕ, ◌+◌, ◌<◌, Bool, true, false, ◌==◌, if◌then◌else◌, IsTrue, IsFalse, List}
use Rattle.std.specs.Prelude.{[], ◌∷◌, ◌++◌, count_by}
use Rattle.lot_base.specs.declared.token.RequeueOp.{RequeueOp}
use Rattle.lot_base.specs.Waiting.{with_value, Split, split_first, split_by}
use Rattle.lot_simulator.specs.declared.fair.fair_core.FairStatus.{FairStatus}
use Rattle.lot_simulator.specs.declared.fair.fair_core.FairStatus.TheVariants.{Free, Idle, Holding, Queued, Leaving, Handed}

-- the threads that wait for the mutex, and those on the condition variable, each first in first; what each thread
-- number is doing; and for how many threads it is: their numbers are those below
pub record FairState : Type 0 where
  pub waiters : List ℕ
  pub sleepers : List ℕ
  pub status : ℕ → FairStatus
  pub max_threads : ℕ

-- nobody is registered, nobody holds the mutex and nobody waits
abbrev pub new_fair_state : ℕ → FairState
new_fair_state max_threads =
    record { waiters = []; sleepers = []; status = λ _. Free; max_threads = max_threads }

-- it holds the mutex, also before it has left, and before it has returned
abbrev pub holds : FairStatus → Bool
holds Holding = true
holds Leaving = true
holds Handed = true
holds _ = false

-- it stands in one of the lists
abbrev pub stands : FairStatus → Bool
stands Queued = true
stands Leaving = true
stands _ = false

-- somebody holds the mutex
abbrev pub IsLocked : FairState → Type 0
IsLocked m = (number : ℕ) × IsTrue (holds (m.status number))

-- nobody does
abbrev pub IsUnlocked : FairState → Type 0
IsUnlocked m = (number : ℕ) → IsFalse (holds (m.status number))

-- what each step makes of a state

-- a number with another status, and both lists as they were
abbrev pub with_status : FairState → ℕ → FairStatus → FairState
with_status m number status = record m { status = with_value m.status number status }

-- the statuses, where these threads were handed the mutex
abbrev pub with_handed : List ℕ → (ℕ → FairStatus) → ℕ → FairStatus
with_handed [] status = status
with_handed (thread ∷ threads) status = with_value (with_handed threads status) thread Handed

-- Register: the least number of all that are free
pub record IsLeastFree (m : FairState) (number : ℕ) : Type 0 where
  pub below : number < m.max_threads
  pub free : m.status number ≡ Free
  pub least : (k : ℕ) → k < number → m.status k ≢ Free

-- Register is refused: no number is free
abbrev pub IsFull : FairState → Type 0
IsFull m = (k : ℕ) → k < m.max_threads → m.status k ≢ Free

-- Lock, where somebody holds the mutex: the thread stands last among those who wait for it
abbrev pub after_queue : FairState → ℕ → FairState
after_queue m thread = record (with_status m thread Queued) { waiters = m.waiters ++ thread ∷ [] }

-- Wait: the thread stands last on the condition variable, and holds the mutex until it leaves
abbrev pub after_wait : FairState → ℕ → FairState
after_wait m thread = record (with_status m thread Leaving) { sleepers = m.sleepers ++ thread ∷ [] }

-- what a thread does once it let the mutex go: one that was leaving is only queued, and any other idle
abbrev pub let_go : FairStatus → FairStatus
let_go Leaving = Queued
let_go _ = Idle

-- Unlock and Leave: the thread lets the mutex go, and the first that waits is handed it, which may be the same thread
abbrev pub after_release : FairState → ℕ → FairState
after_release m thread =
    let free : FairState = with_status m thread (let_go (m.status thread)) in
    let split : Split ℕ = split_first free.waiters in
    record free { waiters = split.left; status = with_handed split.taken free.status }

-- NotifyOne and NotifyAll: of the threads on the condition variable some are handed the mutex, and some stand behind
-- those who wait for it, as by a requeue
abbrev pub after_notify : FairState → RequeueOp → FairState
after_notify m op =
    let split : Split ℕ = split_by op m.sleepers in
    record m {
      waiters = m.waiters ++ split.moved;
      sleepers = split.left;
      status = with_handed split.taken m.status;
    }

-- what every consistent state keeps

-- how often a thread stands in a list
abbrev pub times_in : ℕ → List ℕ → ℕ
times_in number threads = count_by (λ thread. thread == number) threads

-- a thread that is queued or leaving stands in one of the lists, once, and any other in none
abbrev pub StandsByStatus : FairState → ℕ → Type 0
StandsByStatus m number =
    times_in number m.waiters + times_in number m.sleepers ≡ (if stands (m.status number) then 1 else 0)

-- at most one thread holds the mutex, nobody waits for it while nobody holds it, and the lists match the statuses. Of
-- numbers that are not below `max_threads` nothing is said here; those of a core are free
pub record IsFairConsistent (m : FairState) : Type 0 where
  pub one_holder : (number other : ℕ) → IsTrue (holds (m.status number)) → IsTrue (holds (m.status other))
      → number ≡ other
  pub nobody_waits : IsUnlocked m → m.waiters ≡ []
  pub standing : (number : ℕ) → StandsByStatus m number
