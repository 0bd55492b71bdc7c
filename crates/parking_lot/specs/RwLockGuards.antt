-- What clauses say of the guards of read-write locks.
use Rattle.parking_lot.specs.declared.guard.Guard.{Guard}
use Rattle.parking_lot.specs.declared.rw_lock.RwLock.{RwLock}
use Rattle.parking_lot.specs.declared.rw_lock.guards.ReadLocked.{ReadLocked}
use Rattle.parking_lot.specs.declared.rw_lock.guards.UpgradableLocked.{UpgradableLocked}
use Rattle.parking_lot.specs.declared.rw_lock.guards.WriteLocked.{WriteLocked}
use Rattle.parking_lot.specs.declared.titled_rw_lock.TitledReadLocked.{TitledReadLocked}
use Rattle.parking_lot.specs.declared.titled_rw_lock.TitledRwLock.{TitledRwLock}
use Rattle.parking_lot.specs.declared.titled_rw_lock.TitledWriteLocked.{TitledWriteLocked}

module _ {G T R : Type 0} where
  -- the read-write lock that a guard releases, by how it has the lock
  abbrev pub read_lock_of : Guard G (ReadLocked T R) → RwLock T
  read_lock_of guard = guard.lock.lock.now

  abbrev pub upgradable_lock_of : Guard G (UpgradableLocked T R) → RwLock T
  upgradable_lock_of guard = guard.lock.lock.now

  abbrev pub write_lock_of : Guard G (WriteLocked T R) → RwLock T
  write_lock_of guard = guard.lock.lock.now

  -- and the titled one
  abbrev pub titled_read_lock_of : Guard G (TitledReadLocked T R) → TitledRwLock T
  titled_read_lock_of guard = guard.lock.lock.now

  abbrev pub titled_write_lock_of : Guard G (TitledWriteLocked T R) → TitledRwLock T
  titled_write_lock_of guard = guard.lock.lock.now
