-- Sections: what a call does while it has the bucket of a key locked.
use Rattle.std.specs.Prelude.{◌≡◌, ℕ, ◌<◌, ◌∷◌, [], Option, None, Some, IsSomeAnd}
use Rattle.lot_history.specs.declared.history.History.{History}
use Rattle.lot_word_lock.specs.Lent.{value_in}
use Rattle.lot_word_lock.specs.WordLock.{IsCallerOf, key_of, seat_of}
use Rattle.lot_word_lock.specs.declared.word_lock.Claim.{Claim}
use Rattle.lot_word_lock.specs.declared.word_lock.WordLock.{WordLock}
use Rattle.lot_word_lock.specs.declared.word_lock.view.View.TheVariants.{Holding}
use Rattle.lot_threads.specs.Cells.{FitsCell, IsLockFor}
use Rattle.lot_threads.specs.declared.cell.Cell.{Cell}
use Rattle.lot_threads.specs.declared.cell.CellKey.{CellKey}
use Rattle.lot_threads.specs.declared.cell.Slot.{Slot}
use Rattle.lot_threads.specs.declared.shared_lot.requeue.KeyedLock.{KeyedLock}

-- the bucket of a place, if it is there
abbrev pub cell_of : Option Slot → Option Cell
cell_of None = None
cell_of (Some slot) = slot.cell

-- the lock is claimed, and its bucket is there
pub record HasBucket (lock : WordLock Slot CellKey) (claim : Claim Slot CellKey) : Type 0 where
  pub of_lock : IsCallerOf lock claim.caller
  pub holds : (seat_of claim.caller).0 ≡ Holding [] []
  pub home : (seat_of claim.caller).1 ≡ (0, value_in claim) ∷ []
  pub bucket : IsSomeAnd (cell_of (value_in claim)) (FitsCell (key_of lock))

-- the lock is that of its key's bucket in the lot, at this place of its row
pub record IsKeyedLock (history : History) (keyed : KeyedLock) : Type 0 where
  pub lock : IsLockFor history keyed.key keyed.lock.now
  pub place : keyed.place ≡ (key_of keyed.lock.now).place

-- of two buckets that a requeue has locked, the one at the higher place was locked behind the other
pub record AreLockedInOrder (source target : WordLock Slot CellKey) (source_behind target_behind : Option ℕ) : Type 0 where
  pub target_later : (key_of source).place < (key_of target).place → target_behind ≡ Some (key_of source).place
  pub source_later : (key_of target).place < (key_of source).place → source_behind ≡ Some (key_of target).place
