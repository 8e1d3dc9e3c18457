pub mod Causes
pub mod Records
pub mod Reading
pub mod Bodies
pub mod Writing
pub mod Rows
