pub mod Joining
pub mod Passing
pub mod Prefixes
pub mod Texts
pub mod Unique
pub mod UniqueParts
