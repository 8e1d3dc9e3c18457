use Rattle.source_commands.proofs.SourceLemmas.{source_added, large_added}
use Rattle.source_commands.proofs.sources.with_source.Goals as goal

pub returns-in-Some : goal.returns-in-Some
returns-in-Some c = source_added _ _ _ _ c.add_source.result c.in-Some.is (rw (c.as_bytes.ensures.value, c.deref.ensures.value) at c.add_source.ensures)

pub returns-in-None : goal.returns-in-None
returns-in-None c = large_added _ _ _ c.add_too_large.result c.in-None.is (rw c.as_bytes-in-None.ensures.value at c.add_too_large.ensures)
