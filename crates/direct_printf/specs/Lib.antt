pub mod Fields
pub mod Lines
pub mod Joined
pub mod LineParts
pub mod LineWriters
pub mod Rows
