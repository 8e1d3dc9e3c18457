pub mod lemmas
mod Behind
mod Fields
mod Longer
mod Numbers
mod Reading
mod Runs
mod Sizes
mod Steps
mod Taking
