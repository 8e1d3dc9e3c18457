pub mod JudgedLaws
pub mod Deciding
