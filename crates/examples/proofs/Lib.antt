pub mod ValueLemmas
pub mod DeadlineLemmas
pub mod VainLemmas
pub mod TaskLemmas
pub mod ReplayLemmas
pub mod EndLemmas
pub mod GatheredLemmas
pub mod TableLemmas
mod TokenLemmas
mod HeardLemmas
