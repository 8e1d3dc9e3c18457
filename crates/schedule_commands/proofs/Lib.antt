pub mod lemmas
mod Steps
