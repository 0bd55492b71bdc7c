pub mod GateLemmas
pub mod TitledMutexLemmas
