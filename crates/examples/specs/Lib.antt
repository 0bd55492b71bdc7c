pub mod SemaphoreState
pub mod KeyedState
pub mod SameMember
pub mod BoundedState
pub mod DoneJobs
pub mod SortedEntries
pub mod HandsOver
pub mod Heard
