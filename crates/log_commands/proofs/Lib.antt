pub mod lemmas
mod Told
mod Totals
mod Texts
mod Migrated
