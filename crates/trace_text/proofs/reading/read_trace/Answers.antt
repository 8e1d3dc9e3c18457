use Rattle.trace_text.proofs.lemmas.ToldApart.{only_told}
use Rattle.trace_text.proofs.reading.read_trace.Goals as goal

pub returns-in-Ok-clause-only : goal.returns-in-Ok-clause-only
returns-in-Ok-clause-only g c = only_told (g.S.Source.left c.args.source.now) c.in-Ok.text.items c.deref.result.now c.run_of.result c.in-Ok.ensures.all c.deref.ensures.value c.run_of.ensures.answer
