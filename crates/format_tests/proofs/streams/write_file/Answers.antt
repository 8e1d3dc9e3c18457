use Rattle.nl_io.proofs.lemmas.DeskLaws.{Creates-made, SameButHeld-made}
use Rattle.format_tests.proofs.streams.write_file.Goals as goal

pub put_all-wrote-requires : goal.put_all-wrote-requires
put_all-wrote-requires g c = Creates-made _ _ _ _ c.in_ok-id.ensures.created

pub finish-finished-requires : goal.finish-finished-requires
finish-finished-requires g c = SameButHeld-made _ _ _ (Creates-made _ _ _ _ c.in_ok-id.ensures.created) c.put_all-wrote.ensures
