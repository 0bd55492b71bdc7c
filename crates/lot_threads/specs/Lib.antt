-- In the order of reading, after the types of src/. First lists of which each item has a number, and the pieces of a
-- new machine.
pub mod Rows
-- Then the invariants of what lies behind the locks of a lot, and beside the node of a thread that was unparked.
pub mod Cells
-- Then witnesses between two calls.
pub mod Idle
-- Then sections, and the buckets that they have locked.
pub mod Sections
-- Then the two places of a place in a table of twice the size.
pub mod Halves
-- Then pieces where a deadline has passed.
pub mod Late
-- Then members, and what their calls add to the history.
pub mod Members
-- Then visitors, which need no thread.
pub mod Visitors
-- Then unparks by a filter.
pub mod Filters
-- Then critical sections, as closures are lent them.
pub mod Within
-- Then requeues.
pub mod Requeues
-- Then titles of keys, and those that are still to be dealt.
pub mod Titled
pub mod Dealers
-- Then the handles of threads that are to be woken.
pub mod Handles
-- Last what follows by the laws of every history.
pub mod Laws
