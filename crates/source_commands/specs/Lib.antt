pub mod Sources
pub mod Preprocessing
