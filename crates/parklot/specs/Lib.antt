-- A fair mutex and its condition variable as contracts see them.
pub mod FairLockState
