-- What contracts say of the queue of a titled lock, and of the threads that wait in it.
use Rattle.std.specs.Prelude.{◌≡◌, ◌⊎◌, ℕ, Option, None, Some}
use Rattle.lot_history.specs.Witness.{IsWitnessOf}
use Rattle.lot_history.specs.declared.history.History.{History}
use Rattle.lot_threads.specs.Members.{IsDataOf, ThreadDataState}
use Rattle.lot_threads.specs.Titled.{IsTitle}
use Rattle.lot_threads.specs.declared.title.Title as titles
use Rattle.parking_lot.specs.declared.queue_title.QueueKey.{QueueKey}

-- it is the title of this queue, in the history of its lot
abbrev pub FitsQueue : QueueKey → titles.Title → Type 0
FitsQueue queue title = (history : History) → IsWitnessOf history queue.home → IsTitle history queue.key title

-- the queue is that of the key in the lot of this history
pub record IsQueueOf (history : History) (key : ℕ) (queue : QueueKey) : Type 0 where
  pub on_key : queue.key ≡ key
  pub of_lot : IsWitnessOf history queue.home

-- the thread waits as nothing, or as this number
abbrev pub MayBe : ℕ → Option ℕ → Type 0
MayBe number waits = (waits ≡ None) ⊎ (waits ≡ Some number)

-- it is the data of the running thread of this number
pub record IsThreadOf (history : History) (number : ℕ) (thread : ThreadDataState) : Type 0 where
  pub own : IsDataOf history thread
  pub is_number : thread.number ≡ number
