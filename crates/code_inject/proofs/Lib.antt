pub mod lemmas
mod Gathered
mod Rewriting
mod Sources
mod Worked
mod Differing
mod LineFeeds
mod Existence
