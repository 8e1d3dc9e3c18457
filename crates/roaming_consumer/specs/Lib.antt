pub mod Growth
pub mod Sinks
pub mod Drafts
pub mod Gathering
pub mod Roamers
pub mod Visits
pub mod Parting
