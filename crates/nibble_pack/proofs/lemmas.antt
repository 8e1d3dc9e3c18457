pub mod Counts
pub mod Fronts
pub mod SignedForms
pub mod Parsing
pub mod Steady
pub mod Formats
pub mod PackingLaws
