use Rattle.std.proofs.Common.{List, ℕ, subst}
use Rattle.checkpoint_io.specs.Blocks.{header_bytes}
use Rattle.checkpoint_io.proofs.lemmas.BlockLaws.{length-header_bytes}
use Rattle.roaming_consumer.specs.Sinks.{Sends}
use Rattle.roaming_consumer.proofs.lemmas.Sending.{put_front, sends_all}
use Rattle.roaming_consumer.proofs.blocks.write_header.Goals as goal

pub returns-clause-sent : goal.returns-clause-sent
returns-clause-sent g c =
    let w = c.write_all.ensures in
    let bytes = header_bytes c.args.header.now in
    subst (λ (l : List ℕ). Sends c.write_all.result l (g.K.Sink.put c.args.sink.now) (g.K.Sink.put c.write_all.new.sink) (g.K.Sink.faults c.args.sink.now) (g.K.Sink.faults c.write_all.new.sink)) (put_front bytes _ _ _ _ c.put_header-len.ensures.put c.put_header-len.ensures.len (length-header_bytes c.args.header.now))
    (sends_all c.write_all.result _ _ _ _ _ w.ok w.counted w.err w.cause w.count)
