pub mod lemmas
mod Arguments
mod Bytes
mod Unique
mod Reading
mod CallLaws
