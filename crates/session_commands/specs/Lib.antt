pub mod Headline
pub mod Replays
pub mod Selftests
