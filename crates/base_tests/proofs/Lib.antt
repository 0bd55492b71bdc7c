pub mod TableSizes
