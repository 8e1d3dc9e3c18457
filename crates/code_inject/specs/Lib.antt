pub mod Headers
pub mod Injected
pub mod Outcomes
pub mod Pieces
pub mod Rewrites
pub mod Rows
