use Rattle.nl_io.proofs.lemmas.DeskLaws.{Opens-reading}
use Rattle.format_tests.proofs.streams.source.Goals as goal

pub make-requires : goal.make-requires
make-requires g c = Opens-reading _ _ _ _ (rw c.in-Ok-Some.field-0-is at c.in-Ok-Some.ensures.opened)
