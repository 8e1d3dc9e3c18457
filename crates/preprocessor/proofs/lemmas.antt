pub mod Behind
pub mod Finding
pub mod Once
pub mod Told
