pub mod Parts
pub mod Scans
