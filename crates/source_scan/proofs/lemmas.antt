pub mod Order
pub mod Unique
