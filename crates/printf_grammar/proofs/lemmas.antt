pub mod Fitting
pub mod NarrowLaws
pub mod Shortening
pub mod Total
pub mod Unique
pub mod Worked
