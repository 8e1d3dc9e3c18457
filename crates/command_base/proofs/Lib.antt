pub mod lemmas
mod Sayings
