pub mod lemmas
mod Counting
mod Existence
mod Firsts
mod Holding
mod RefusalLines
