pub mod KnownLemmas
pub mod LineLemmas
pub mod NumberLemmas
pub mod WordLemmas
pub mod ParseLemmas
pub mod ReplyLemmas
pub mod ScriptLemmas
pub mod BufferedLemmas
