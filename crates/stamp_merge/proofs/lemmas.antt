pub mod Comparing
pub mod MergeKeys
pub mod Mergers
pub mod Ordering
pub mod Sorted
