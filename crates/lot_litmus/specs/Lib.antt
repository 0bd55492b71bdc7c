-- In the order of reading, after the types of src/code.rt, src/state.rt and src/test.rt.
pub mod Configuration
pub mod Steps
pub mod Schedule
pub mod MachineSteps
-- Then what a search keeps.
pub mod Queues
pub mod View
pub mod Performing
pub mod Outcomes
pub mod Search
pub mod Found
