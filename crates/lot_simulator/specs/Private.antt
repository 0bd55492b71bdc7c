pub mod Commit
pub mod Thread
pub mod FineCaller
pub mod FineSection
pub mod FineThread
pub mod FineCopies
pub mod FineAnswers
