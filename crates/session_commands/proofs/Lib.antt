pub mod lemmas
mod ReplayEnds
mod LogLengths
mod Pieces
mod OutcomeTexts
mod SelftestEnds
