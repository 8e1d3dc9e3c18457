use Rattle.trace_text.proofs.Worked.{escaped}
use Rattle.trace_text.proofs.laws.texts_have_escapes.Goals as goal

pub returns : goal.returns
returns c = escaped
