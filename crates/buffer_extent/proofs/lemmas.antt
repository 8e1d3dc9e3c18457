pub mod BodyLaws
pub mod Codes
