pub mod lemmas
mod Wrapping
mod Padded
mod Plain
mod Spelling
mod Rest
mod Arguments
mod Formats
mod Joining
mod Times
mod Writing
