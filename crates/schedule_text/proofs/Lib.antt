pub mod lemmas
mod Positions
mod Judging
mod Runs
mod Texts
mod LineReading
