pub mod Decompression
pub mod Settling
pub mod Decompressing
pub mod Printing
pub mod Waiting
pub mod Decompressors
pub mod Rows
