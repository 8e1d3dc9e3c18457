pub mod lemmas
mod Entries
mod NextBlocks
mod Outcomes
mod Spellings
mod Worked
