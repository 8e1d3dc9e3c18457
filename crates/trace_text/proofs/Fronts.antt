-- Fronts of bytes that are put in several calls.
pub use Rattle.nl_io.proofs.lemmas.Contents.{with_end-both, front-first, front-second, front-whole}
