pub use Rattle.cli_words.specs.Commands
pub mod Outcomes
