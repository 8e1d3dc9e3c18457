pub mod Causes
pub mod StepLines
pub mod Lines
pub mod Printed
pub mod Judged
pub mod Schedules
pub mod Playing
pub mod Rows
