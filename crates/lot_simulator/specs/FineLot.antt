-- What an interleaved lot means, and what every one keeps.
use Rattle.std.specs.Prelude.{◌≡◌, ℕ, ◌≤◌, List, length, map, slice_index_or, None}
use Rattle.lot_machine.specs.declared.numbers.TheConstants.{MAX_THREADS}
use Rattle.lot_simulator.specs.FineLotState.{FineLotState, FineThreadState}
use Rattle.lot_simulator.specs.InterleavedState.{FineState}
use Rattle.lot_simulator.specs.InterleavedView.{IsFineConsistent}
use Rattle.lot_simulator.specs.Lot.{free_thread, machine, thread_at, thread_keys}
use Rattle.lot_simulator.specs.LotState.{LotState, ThreadState}
use Rattle.lot_simulator.specs.Represents.{Represents}

-- a number that nobody has had yet
abbrev pub free_fine_thread : ℕ → FineThreadState
free_fine_thread number = record { thread = free_thread number; key_read = None; slot = None }

-- the thread of a number; one that the lot does not have is free
abbrev pub fine_thread_at : List FineThreadState → ℕ → FineThreadState
fine_thread_at threads number = slice_index_or threads number (free_fine_thread number)

-- the threads, as any lot keeps them
abbrev pub plain_threads : List FineThreadState → List ThreadState
plain_threads threads = map (λ t. t.thread) threads

-- the lot whose machine is the threads' view
abbrev pub plain_lot : FineLotState → LotState
plain_lot lot = record { buckets = lot.buckets; threads = plain_threads lot.threads }

-- the interleaved state that a lot means
abbrev pub fine_state : FineLotState → FineState
fine_state lot =
    record {
      threads_view = machine (plain_lot lot);
      key_words = thread_keys (plain_threads lot.threads);
      keys_read = λ number. (fine_thread_at lot.threads number).key_read;
      slots = λ number. (fine_thread_at lot.threads number).slot;
      callers = lot.callers;
      size = length lot.buckets;
    }

-- what every interleaved lot keeps
pub record IsFineLot (lot : FineLotState) : Type 0 where
  pub represents : Represents lot.buckets (fine_state lot).threads_view.lists
  pub numbers : (number : ℕ) → (thread_at (plain_threads lot.threads) number).number ≡ number
  pub consistent : IsFineConsistent (fine_state lot)
  pub count : length lot.threads ≤ MAX_THREADS
