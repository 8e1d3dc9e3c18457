pub mod Logs
pub mod Decompressing
pub mod Aggregating
pub mod Migrating
