-- The machine with one list of waiters for each key, which is the key's queue: its state, what each step makes of it,
-- and what every consistent state keeps, as those of lots are. `Steps` says when a step does so, and with which answer.
-- It knows no table.
use Rattle.std.specs.Prelude.{◌≡◌, ◌≢◌, ℕ, ◌<◌, ◌≤◌, Bool, ◌==◌, not, if◌then◌else◌, List, ◌∷◌, ◌++◌, []}
use Rattle.std.specs.Prelude.{length, filter, All, MatchBool}
use Rattle.std.specs.List.{count_by, range_with_len}
use Rattle.lot_base.specs.declared.token.ParkToken.{ParkToken}
use Rattle.lot_base.specs.declared.token.UnparkToken.{UnparkToken}
use Rattle.lot_base.specs.Waiting.{with_value, lists_after_requeue, without_first, has_any, Split}
use Rattle.lot_machine.specs.declared.status.Status.{Status}
use Rattle.lot_machine.specs.declared.status.Status.TheVariants.{Free, Running, Waiting, Taken}
use Rattle.lot_machine.specs.Records.{one_more, one_less}
use Rattle.lot_machine.specs.Status.{is_registered, is_queued, is_timed}

-- a thread that stands in a list, since it waits or is late
pub record Waiter : Type 0 where
  pub number : ℕ
  pub park_token : ParkToken
  pub timed : Bool

-- the waiters of each key, first in first; the status of each thread number; how often each number's thread has
-- recorded each key; and for how many threads it is: their numbers are those below
pub record Machine : Type 0 where
  pub lists : ℕ → List Waiter
  pub status : ℕ → Status
  pub records : ℕ → ℕ → ℕ
  pub max_threads : ℕ

-- nobody is registered, nobody waits and nothing is recorded
abbrev pub new_machine : ℕ → Machine
new_machine max_threads =
    record { lists = λ _. []; status = λ _. Free; records = λ _ _. 0; max_threads = max_threads }

-- how many threads are registered
abbrev pub threads_of : Machine → ℕ
threads_of m = count_by (λ number. is_registered (m.status number)) (range_with_len 0 m.max_threads)

-- the entries of a thread in a list, and how many there are
abbrev pub entries_of : ℕ → List Waiter → List Waiter
entries_of number waiters = filter (λ waiter. waiter.number == number) waiters

abbrev pub times_in : ℕ → List Waiter → ℕ
times_in number waiters = length (entries_of number waiters)

-- the thread stands in the list of this key, once, and in no other
pub record StandsAt (m : Machine) (number key : ℕ) : Type 0 where
  pub once : times_in number (m.lists key) ≡ 1
  pub nowhere_else : (k : ℕ) → k ≢ key → times_in number (m.lists k) ≡ 0

-- what each step makes of a machine

-- a number with another status, and every list and all records as they were
abbrev pub with_status : Machine → ℕ → Status → Machine
with_status m number status = record m { status = with_value m.status number status }

-- Register: the least number of all that are free
pub record IsLeastFree (m : Machine) (number : ℕ) : Type 0 where
  pub below : number < m.max_threads
  pub free : m.status number ≡ Free
  pub least : (k : ℕ) → k < number → m.status k ≢ Free

-- Register is refused: no number is free
abbrev pub IsFull : Machine → Type 0
IsFull m = (k : ℕ) → k < m.max_threads → m.status k ≢ Free

-- a number with other records, and all else as it was
abbrev pub with_records : Machine → ℕ → (ℕ → ℕ) → Machine
with_records m number records = record m { records = with_value m.records number records }

-- Retire: the number is free, and its records go
abbrev pub after_retire : Machine → ℕ → Machine
after_retire m number = with_records (with_status m number Free) number (λ _. 0)

-- Acquire and Release: the key is recorded once more, or once less if it was recorded
abbrev pub after_acquire : Machine → ℕ → ℕ → Machine
after_acquire m number key = with_records m number (one_more (m.records number) key)

abbrev pub after_release : Machine → ℕ → ℕ → Machine
after_release m number key = with_records m number (one_less (m.records number) key)

-- Enter, where the validation answered true: the thread stands last in the list of the key, and waits
abbrev pub after_enter : Machine → ℕ → ℕ → ParkToken → Bool → Machine
after_enter m number key park_token timed =
    let waiter : Waiter = record { number = number; park_token = park_token; timed = timed } in
    record (with_status m number (Waiting timed)) { lists = with_value m.lists key (m.lists key ++ waiter ∷ []) }

-- the statuses, where these waiters were taken and handed a token
abbrev pub statuses_with_taken : UnparkToken → List Waiter → (ℕ → Status) → ℕ → Status
statuses_with_taken token taken status number = if has_any (entries_of number taken) then Taken token else status number

-- One, All and Filter: of the waiters of a key some are taken, and the others are left
abbrev pub after_unpark : Machine → ℕ → Split Waiter → UnparkToken → Machine
after_unpark m key split token =
    record m { lists = with_value m.lists key split.left; status = statuses_with_taken token split.taken m.status }

-- Requeue: some are taken, some moved behind the waiters of a second key, which may be the same, and others are left
abbrev pub after_requeue : Machine → ℕ → ℕ → Split Waiter → UnparkToken → Machine
after_requeue m from to split token =
    record m {
      lists = lists_after_requeue m.lists from to split;
      status = statuses_with_taken token split.taken m.status;
    }

-- the list of a key once a thread left it
abbrev pub list_without : Machine → ℕ → ℕ → List Waiter
list_without m number key = without_first (λ waiter. waiter.number == number) (m.lists key)

-- whether no other thread stands in the list of the key
abbrev pub is_last : Machine → ℕ → ℕ → Bool
is_last m number key = not (has_any (list_without m number key))

-- Resolve of a late thread: it leaves the list of the key, and runs
abbrev pub after_timeout : Machine → ℕ → ℕ → Machine
after_timeout m number key =
    record (with_status m number Running) { lists = with_value m.lists key (list_without m number key) }

-- what every consistent state keeps

-- a thread that waits or is late stands at this key, and any other stands nowhere
abbrev pub StandsByStatus : Machine → ℕ → ℕ → Type 0
StandsByStatus m number key = MatchBool (is_queued (m.status number)) (StandsAt m number key)
    ((k : ℕ) → times_in number (m.lists k) ≡ 0)

-- lists and records match the statuses, where `keys` tells the key at which each thread stands
pub record MatchesStatus (keys : ℕ → ℕ) (m : Machine) : Type 0 where
  pub standing : (number : ℕ) → StandsByStatus m number (keys number)
  pub timing : (key : ℕ) → All (λ waiter. waiter.timed ≡ is_timed (m.status waiter.number)) (m.lists key)
  pub others_free : (number : ℕ) → m.max_threads ≤ number → m.status number ≡ Free
  pub free_of_records : (number key : ℕ) → m.status number ≡ Free → m.records number key ≡ 0

-- there are such keys
abbrev pub IsConsistent : Machine → Type 0
IsConsistent m = (keys : ℕ → ℕ) × MatchesStatus keys m
