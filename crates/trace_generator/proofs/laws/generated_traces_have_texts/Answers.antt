use Rattle.trace_generator.proofs.GeneratedTexts.{has_text}
use Rattle.trace_generator.proofs.laws.generated_traces_have_texts.Goals as goal

pub returns : goal.returns
returns c = λ seed calls writers within some few. has_text seed writers some few calls within
