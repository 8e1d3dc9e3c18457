pub mod lemmas
mod Decimals
mod NumberLemmas
mod TextLemmas
mod TextRuns
mod BinaryNumbers
mod LineParts
mod Places
