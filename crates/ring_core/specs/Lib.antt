pub mod Positions
pub mod Plans
pub mod Answers
pub mod Counts
pub mod Rows
pub mod Stored
pub mod StoredInside
