pub mod TableSize
