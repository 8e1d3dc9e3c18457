pub mod GeneratedFormats
pub mod GeneratedCalls
pub mod GeneratedTexts
