pub mod Headlines
pub mod Soundness
pub mod WholeRuns
