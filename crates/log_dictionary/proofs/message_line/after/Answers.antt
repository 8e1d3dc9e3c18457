use Rattle.std.proofs.lemmas.Slice.Eq.{strip_prefix_is}
use Rattle.std.proofs.lemmas.Bool.Decides.{Decides-eqb}
use Rattle.log_dictionary.proofs.lemmas.Splits.{after_is}
use Rattle.log_dictionary.proofs.message_line.after.Goals as goal

pub returns : goal.returns
returns c = after_is c.args.bytes.now c.args.front.now _ (strip_prefix_is Decides-eqb c.args.bytes.now c.args.front.now _ c.strip_prefix.ensures.cases)
