pub mod Ordering
pub mod Merging
pub mod Mergers
pub mod Winners
pub mod Rows
