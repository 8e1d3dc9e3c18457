pub mod Owned
pub mod Through
