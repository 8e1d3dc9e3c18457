pub mod Defaults
pub mod Bounds
pub mod Versions
