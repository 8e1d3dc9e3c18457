pub mod lemmas
mod ReadingForms
mod StepLaws
mod WorkedBreaks
mod WorkedClocks
mod StartLaws
mod WriterLaws
mod TimeLaws
mod NextLaws
mod ReaderLaws
mod EntryLengths
mod HeaderLaws
