pub mod Taking
pub mod Working
mod Ready
pub mod Sessions
pub mod Rounds
pub mod Workplaces
pub mod Leaving
pub mod NewWorkers
pub mod Cuts
