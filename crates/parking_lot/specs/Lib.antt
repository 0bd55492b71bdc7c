-- What the contracts of the locks say. Laws of their words are in lock_words.
pub mod Queues
pub mod Gates
pub mod Guards
pub mod Locks
pub mod Onces
pub mod Phasers
pub mod RwLockGuards
pub mod TitledMutexes
pub mod TitledRwLocks
