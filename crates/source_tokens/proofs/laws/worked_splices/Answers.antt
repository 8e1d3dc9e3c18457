use Rattle.std.proofs.Common.{refl}
use Rattle.source_tokens.specs.Splices.{past_splices}
use Rattle.source_tokens.specs.Reading.{ReadsUnspliced}
use Rattle.source_tokens.proofs.laws.worked_splices.Goals as goal

pub returns-clause-both : goal.returns-clause-both
unfolding past_splices ReadsUnspliced
returns-clause-both c = refl

pub returns-clause-second : goal.returns-clause-second
unfolding past_splices ReadsUnspliced
returns-clause-second c = refl

pub returns-clause-carriage_return : goal.returns-clause-carriage_return
unfolding past_splices ReadsUnspliced
returns-clause-carriage_return c = refl

pub returns-clause-inside : goal.returns-clause-inside
unfolding past_splices ReadsUnspliced
returns-clause-inside c = (refl, (refl, (refl, refl)))
