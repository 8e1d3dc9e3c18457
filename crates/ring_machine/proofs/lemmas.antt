pub mod Bars
pub mod Schedules
pub mod StepLaws
pub mod Walks
