-- In the order of reading, after `View` of src/word_lock/view.rt and `State`, `Me` and `Step` of the crate atomic_table:
-- the places of a word lock's list, what its callers know, the key that they carry, what holds between any two steps,
-- and what `lock` gives.
pub mod WordPlaces
pub mod WordView
pub mod WordKey
pub mod WordLockInvariant
pub mod WordLock
pub mod Lent
-- Then a rule from which that follows, as the lock's table keeps it, and what each step tells its caller.
pub mod WordRule
pub mod WordSteps
