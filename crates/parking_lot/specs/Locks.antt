-- What clauses say of lots, of reentrant mutexes and their owners, of permits, of the parties of a barrier, and of what
-- a wait answers.
use Rattle.std.specs.Prelude.{ℕ, Bool, true, false}
use Rattle.lock_words.specs.Stock.{supply_of}
use Rattle.lot_history.specs.Witness.{max_threads_of}
use Rattle.parking_lot.specs.declared.barrier.BarrierIn.{BarrierIn}
use Rattle.parking_lot.specs.declared.barrier.BarrierWaitResult.{BarrierWaitResult}
use Rattle.parking_lot.specs.declared.barrier.PartiesIn.{PartiesIn}
use Rattle.parking_lot.specs.declared.barrier.PartyIn.{PartyIn}
use Rattle.parking_lot.specs.declared.barrier.Role.{Role}
use Rattle.parking_lot.specs.declared.barrier.Role.TheVariants.{Leader, Follower}
use Rattle.parking_lot.specs.declared.condvar.WaitTimeoutResult.{WaitTimeoutResult}
use Rattle.parking_lot.specs.declared.lot.Lot.{Lot}
use Rattle.parking_lot.specs.declared.reentrant_mutex.Owner.{Owner}
use Rattle.parking_lot.specs.declared.reentrant_mutex.ReentrantMutex.{ReentrantMutex}
use Rattle.parking_lot.specs.declared.semaphore.Semaphore.{Semaphore}
use Rattle.parking_lot.specs.declared.semaphore.SemaphorePermit.{SemaphorePermit}
use Rattle.parking_lot.specs.declared.titled_lot.TitledLot.{TitledLot}
use Rattle.parking_lot.specs.declared.titled_semaphore.TitledSemaphore.{TitledSemaphore}
use Rattle.parking_lot.specs.declared.titled_semaphore.TitledSemaphorePermit.{TitledSemaphorePermit}

-- how many threads can wait in a lot at the same time
abbrev pub threads_of : Lot → ℕ
threads_of lot = max_threads_of lot.lot

abbrev pub titled_threads_of : TitledLot → ℕ
titled_threads_of lot = max_threads_of lot.queues

-- the lot of whose reentrant mutexes it is an owner
abbrev pub lot_of_owner : Owner → Lot
lot_of_owner owner = owner.lot.now

module _ {T : Type 0} where
  -- the lot in which threads wait for the reentrant mutex
  abbrev pub lot_of : ReentrantMutex T → Lot
  lot_of mutex = mutex.queue.lot.now

  -- the value that it protects
  abbrev pub value_in : ReentrantMutex T → T
  value_in mutex = mutex.value

module _ {R : Type 0} where
  -- how many permits a thread has by it
  abbrev pub permits_of : SemaphorePermit R → ℕ
  permits_of permit = permit.permits

  -- the semaphore to which they go back
  abbrev pub semaphore_of : SemaphorePermit R → Semaphore
  semaphore_of permit = permit.semaphore.now

  -- and of a titled one
  abbrev pub titled_semaphore_of : TitledSemaphorePermit R → TitledSemaphore
  titled_semaphore_of permit = permit.semaphore.now

-- how many permits a titled semaphore was made with, free or not
abbrev pub permits_in : TitledSemaphore → ℕ
permits_in semaphore = (supply_of semaphore.gate.stock).permits

module _ {P : Type 0} where
  -- how many threads meet at the barrier
  abbrev pub parties_of : BarrierIn P → ℕ
  parties_of barrier = barrier.parties

  -- how many parties were not handed out yet, and of which barrier they are
  abbrev pub left_of : PartiesIn P → ℕ
  left_of parties = parties.left

  abbrev pub barrier_of : PartiesIn P → BarrierIn P
  barrier_of parties = parties.barrier.now

  -- the barrier at which the thread of a party waits
  abbrev pub meets_at : PartyIn P → BarrierIn P
  meets_at party = party.barrier.now

-- whether a thread led its round
abbrev pub led_as : Role → Bool
led_as Leader = true
led_as Follower = false

abbrev pub led : BarrierWaitResult → Bool
led answer = led_as answer.role

-- whether the time of a wait was over
abbrev pub has_timed_out : WaitTimeoutResult → Bool
has_timed_out answer = answer.timed_out
