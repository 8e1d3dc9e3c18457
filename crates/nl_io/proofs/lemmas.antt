pub mod Contents
pub mod Outcomes
pub mod TextWriters
pub mod DeskLaws
