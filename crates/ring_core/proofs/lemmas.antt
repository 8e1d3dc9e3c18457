pub mod DictionaryCalls
pub mod Frames
pub mod Needs
pub mod OneReading
