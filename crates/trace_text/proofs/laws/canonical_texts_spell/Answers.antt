use Rattle.trace_text.proofs.CanonicalLaws.{canonical_spells}
use Rattle.trace_text.proofs.laws.canonical_texts_spell.Goals as goal

pub returns : goal.returns
returns c = canonical_spells
