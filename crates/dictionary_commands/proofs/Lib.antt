pub mod lemmas
mod Counts
mod Injections
mod Headings
