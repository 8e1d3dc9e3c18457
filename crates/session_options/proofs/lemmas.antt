pub mod RunClocks
pub mod VersionLimits
