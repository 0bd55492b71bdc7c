-- What only private contracts cite.
pub mod Parsing
pub mod Turns
