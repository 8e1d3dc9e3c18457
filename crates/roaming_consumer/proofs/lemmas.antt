pub mod Marking
pub mod OnePlace
pub mod Sending
pub mod FrontChanges
