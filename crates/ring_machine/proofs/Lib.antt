pub mod lemmas
mod Places
mod LawfulSteps
mod Reaching
