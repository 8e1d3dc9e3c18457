pub mod Parsing
pub mod Packing
pub mod Bytes
