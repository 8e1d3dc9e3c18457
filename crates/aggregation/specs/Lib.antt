pub mod Totals
pub mod Tallying
pub mod Aggregating
pub mod Rows
