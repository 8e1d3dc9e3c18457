pub mod Commands
pub mod Replays
mod Right
mod Unfinished
