pub mod lemmas
mod SourceLemmas
mod Preprocessings
