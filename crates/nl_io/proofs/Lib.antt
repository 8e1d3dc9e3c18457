pub mod lemmas
mod Ids
mod Tables
mod Shelves
mod Names
