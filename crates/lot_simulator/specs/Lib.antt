-- In the order of reading, after the types of src/. First which machine an exclusive lot means, and how its buckets
-- represent that.
pub mod LotState
pub mod Represents
pub mod Lot
-- Then what a table keeps.
pub mod TableState
pub mod Table
-- Then the interleaved machine, after `FineStep` and `FineAnswer` of src/interleaved.rt, and what
-- of the machine with one list for each key its runs amount to.
pub mod InterleavedState
pub mod InterleavedSteps
pub mod InterleavedView
pub mod InterleavedOutcomes
pub mod InterleavedLaws
-- Then copies of steps, and what a run of an interleaved lot amounts to.
pub mod Copies
pub mod InterleavedRun
-- Then which interleaved state an interleaved lot means.
pub mod FineLotState
pub mod FineLot
-- Then, after `FairStatus` of src/fair/fair_core.rt, and `FairStep` and `FairAnswer` of src/fair/schedule.rt, the
-- machine of a fair mutex and its condition variable, and its steps; runs of them are those of `Run` of lot_machine.
pub mod FairMachine
pub mod FairSteps
-- Then which state a core has, after `Holder` of src/fair/fair_core.rt.
pub mod FairCoreState
pub mod FairCore
-- Then what follows for every run.
pub mod FairLaws
-- Then, after `RecordError` of src/record.rt: journals and records.
pub mod Journal
pub mod RecordState
pub mod Record
pub mod TicketState
pub mod JournalLaws
-- Last what only private contracts cite.
pub mod Private
