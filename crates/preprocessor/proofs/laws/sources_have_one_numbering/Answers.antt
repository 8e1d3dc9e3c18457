use Rattle.preprocessor.proofs.lemmas.Once.{refusals_once}
use Rattle.preprocessor.proofs.lemmas.Told.{numbered_once}
use Rattle.preprocessor.proofs.laws.sources_have_one_numbering.Goals as goal

pub returns : goal.returns
returns c = record { messages = numbered_once; refusals = refusals_once }
