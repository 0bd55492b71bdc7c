-- What clauses say of guards.
use Rattle.std.specs.Prelude.{Box, box_value}
use Rattle.std.specs.Sync.Mutex.{mutex_guard_value}
use Rattle.std.specs.declared.alloc.Global.{Global}
use Rattle.std.specs.declared.sync.MutexGuard.{MutexGuard}
use Rattle.parking_lot.specs.declared.guard.Guard.{Guard}
use Rattle.parking_lot.specs.declared.lens.MappedGuard.{MappedGuard}
use Rattle.parking_lot.specs.declared.mutex.Locked.{Locked}
use Rattle.parking_lot.specs.declared.mutex.MutexIn.{MutexIn}
use Rattle.parking_lot.specs.declared.reentrant_mutex.Entered.{Entered}
use Rattle.parking_lot.specs.declared.reentrant_mutex.ReentrantMutex.{ReentrantMutex}
use Rattle.parking_lot.specs.declared.titled_mutex.TitledLocked.{TitledLocked}
use Rattle.parking_lot.specs.declared.titled_mutex.TitledMutex.{TitledMutex}

module _ {G L : Type 0} where
  -- what its thread holds while it has the lock
  abbrev pub held_by : Guard G L → G
  held_by guard = guard.held

module _ {G L N : Type 0} where
  -- the guard of the whole value of which it gives a part, and the lens that names the part
  abbrev pub whole_of : MappedGuard G L N → Guard G L
  whole_of mapped = mapped.guard

  abbrev pub lens_of : MappedGuard G L N → N
  lens_of mapped = mapped.lens

module _ {T L : Type 0} where
  -- the value that it gives
  abbrev pub value_of : Guard (MutexGuard T) L → T
  value_of guard = mutex_guard_value guard.held

module _ {G T R F : Type 0} where
  -- the mutex that it unlocks
  abbrev pub mutex_of : Guard G (Locked T R F) → MutexIn T F
  mutex_of guard = guard.lock.mutex.now

module _ {T L : Type 0} where
  -- the value that the guard of a titled mutex gives
  abbrev pub titled_value_of : Guard (Box T Global) L → T
  titled_value_of guard = box_value guard.held

module _ {G T R : Type 0} where
  -- the titled mutex that it unlocks
  abbrev pub titled_mutex_of : Guard G (TitledLocked T R) → TitledMutex T
  titled_mutex_of guard = guard.lock.mutex.now

module _ {G T R : Type 0} where
  -- the reentrant mutex that a guard unlocks, if it is the owner's last
  abbrev pub reentrant_mutex_of : Guard G (Entered T R) → ReentrantMutex T
  reentrant_mutex_of guard = guard.lock.mutex.now
