mod ViewLemmas
mod QueueLemmas
mod PartLemmas
mod StepLemmas
mod BoundLemmas
pub mod MoveLemmas
mod SearchLemmas
