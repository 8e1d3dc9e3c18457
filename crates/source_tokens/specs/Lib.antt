pub mod Bytes
pub mod Directives
pub mod Forms
pub mod Joins
pub mod RawStrings
pub mod Reading
pub mod Splices
pub mod Tokens
