-- What a lot means, and what every lot keeps.
use Rattle.std.specs.Prelude.{◌≡◌, ℕ, ◌≤◌, List, [], length, map, slice_index_or}
use Rattle.lot_base.specs.declared.token.ParkToken.{ParkToken}
use Rattle.lot_machine.specs.declared.status.Status.{Status}
use Rattle.lot_machine.specs.declared.status.Status.TheVariants as status
use Rattle.lot_machine.specs.declared.numbers.Use.{Use}
use Rattle.lot_machine.specs.declared.numbers.Use.TheVariants.{Free, Registered}
use Rattle.lot_simulator.specs.LotState.{LotState, ThreadState}
use Rattle.lot_machine.specs.Machine.{Machine, Waiter, MatchesStatus}
use Rattle.lot_machine.specs.Records.{times_recorded}
use Rattle.lot_machine.specs.declared.numbers.TheConstants.{MAX_THREADS}
use Rattle.lot_simulator.specs.Represents.{waiters_in, Represents}

-- a number that nobody has had yet
abbrev pub free_thread : ℕ → ThreadState
free_thread number = record { number = number; key = 0; status = status.Free; records = [] }

-- the thread of a number; one that the lot does not have is free
abbrev pub thread_at : List ThreadState → ℕ → ThreadState
thread_at threads number = slice_index_or threads number (free_thread number)

-- the status of each number
abbrev pub statuses : List ThreadState → ℕ → Status
statuses threads number = (thread_at threads number).status

-- the key of each number
abbrev pub thread_keys : List ThreadState → ℕ → ℕ
thread_keys threads number = (thread_at threads number).key

-- how often each number's thread has recorded each key
abbrev pub thread_records : List ThreadState → ℕ → ℕ → ℕ
thread_records threads number = times_recorded (thread_at threads number).records

-- the machine that a lot means
abbrev pub machine : LotState → Machine
machine lot =
    record {
      lists = waiters_in lot.buckets;
      status = statuses lot.threads;
      records = thread_records lot.threads;
      max_threads = length lot.threads;
    }

-- what a filter is shown of waiters: their park tokens, in order
abbrev pub waiter_park_tokens : List Waiter → List ParkToken
waiter_park_tokens waiters = map (λ waiter. waiter.park_token) waiters

-- what a table knows of a status
abbrev pub use_of : Status → Use
use_of status.Free = Free
use_of _ = Registered

-- the use of each number
abbrev pub uses : List ThreadState → List Use
uses threads = map (λ thread. use_of thread.status) threads

-- what every lot keeps. Its lists are read off the row, so `represents` says that each node is in the bucket of its key
pub record IsLot (lot : LotState) : Type 0 where
  pub represents : Represents lot.buckets (machine lot).lists
  pub numbers : (number : ℕ) → (thread_at lot.threads number).number ≡ number
  pub consistent : MatchesStatus (thread_keys lot.threads) (machine lot)
  pub count : length lot.threads ≤ MAX_THREADS
