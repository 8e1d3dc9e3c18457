use Rattle.std.proofs.Common.{◌∷◌, sym, ◌∙◌}
use Rattle.std.proofs.lemmas.Bool.{both_ways}
use Rattle.source_tokens.proofs.lemmas.Prefixes.{prefix-letter}
use Rattle.source_tokens.proofs.raw_string.past_any_mark.Goals as goal

pub returns-then-not-begins_prefix : goal.returns-then-not-begins_prefix
returns-then-not-begins_prefix c = λ prefix raw is reads. both_ways _ (sym c.begins_prefix.ensures ∙ c.if-not-begins_prefix.true) (prefix-letter c.args.bytes.now prefix (34 ∷ raw) is reads)
