pub mod Traces
pub mod Texts
pub mod Tasks
