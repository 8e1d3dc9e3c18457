pub mod Causes
pub mod Findings
pub mod Numbering
pub mod Rows
