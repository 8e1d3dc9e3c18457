pub mod Migrating
pub mod Migrations
pub mod Rows
