pub mod Writers
pub mod Starts
pub mod Settling
