use Rattle.preprocessor.proofs.Existence.{AreListed}
use Rattle.preprocessor.proofs.laws.sources_have_some_numbering.Given as goal

-- each of the sources so far has a list of statements
abbrev pub invariant-loop-source : goal.invariant-loop-source
invariant-loop-source l = AreListed (λ source. source.now) l.sources l.source-index
