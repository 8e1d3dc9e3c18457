pub mod lemmas
mod CallLines
mod Traces
