use Rattle.decompressor.proofs.lemmas.TextLaws.{log_is_text}
use Rattle.decompressor.proofs.laws.logs_give_the_calls_taken.Goals as goal

pub returns : goal.returns
returns c = log_is_text
