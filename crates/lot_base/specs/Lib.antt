-- In the order of reading, after the types of src/token.rt. First the lists of waiters of all keys, and what a step on
-- one does: what the machine's rules and the buckets' contracts both say.
pub mod Waiting
-- Then nodes, one for each registered thread, and their lists.
pub mod NodeFields
pub mod NodeLists
pub mod Spread
pub mod Laws
-- Then a bucket, which is a place in a table with the nodes that wait there, and a slot, in which a thread finds its
-- node when it was unparked.
pub mod Place
pub mod BucketState
pub mod SlotState
-- Then what a node shows of itself, what closures are asked and how they were called, and what the type of a queue
-- keeps of its nodes.
pub mod Node
pub mod Filter
pub mod Requeue
pub mod Fold
pub mod Chain
-- Last the slot of a parker, and the rule of a parker of one word, after `State`, `Me` and `Step` of the crate atomic_table.
pub mod Loaded
pub mod WordParkerRule
-- The definitions of the word lock, of the crate below.
pub use Rattle.lot_word_lock.specs.WordKey
pub use Rattle.lot_word_lock.specs.WordLock
pub use Rattle.lot_word_lock.specs.WordLockInvariant
