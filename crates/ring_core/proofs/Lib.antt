pub mod lemmas
mod Storing
