use Rattle.trace_text.proofs.lemmas.ToldApart.{only_answer}
use Rattle.trace_text.proofs.reading.read_text.Goals as goal

pub returns-clause-only : goal.returns-clause-only
returns-clause-only c = only_answer c.args.text.now c.run_of.result c.run_of.ensures.answer
