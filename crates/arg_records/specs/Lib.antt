pub mod Frames
pub mod Kinds
pub mod Reading
pub mod Places
pub mod Calls
pub mod Rows
