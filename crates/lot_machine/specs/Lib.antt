-- In the order of reading, after the types of lot_base's src/token.rt, `Status` of src/status.rt, and `Op`, `Step` and
-- `Answer` of src/step.rt. The promise first: what becomes of the waiters of a key (`Waiting` of lot_base) and of a
-- thread's records, the machine, its steps and runs, and how the table's size follows them.
pub use Rattle.lot_base.specs.Waiting
pub mod Status
pub mod Records
pub mod Machine
pub mod Steps
pub mod Run
pub mod Size
-- Then what follows for every machine and every run.
pub mod Laws
pub mod Totals
-- Then thread numbers, and, for the steps of any lot, what an operation makes of the waiters of its key, and what a
-- filter answers that is a list of decisions.
pub mod Numbers
pub mod Operation
pub mod Decisions
