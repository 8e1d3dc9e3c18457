pub mod Strings
pub mod Chunks
