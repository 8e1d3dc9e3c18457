pub mod lemmas
mod Sums
mod Records
mod Tallying
mod Arguments
mod Outcomes
mod Worked
