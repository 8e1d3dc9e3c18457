pub mod lemmas
mod ListChanges
mod Winners
mod Later
