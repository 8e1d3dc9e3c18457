pub mod lemmas
mod BlockScans
