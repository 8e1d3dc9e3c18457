use Rattle.preprocessor.proofs.lemmas.Told.{numbering_refuses, numbering_numbers}
use Rattle.preprocessor.proofs.laws.numberings_tell_of_sources.Goals as goal

pub returns : goal.returns
returns c = record { refusals = numbering_refuses; messages = numbering_numbers }
