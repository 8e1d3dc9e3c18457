use Rattle.std.proofs.Common.{List, ℕ, subst, length, ◌≡◌, arith}
use Rattle.checkpoint_io.specs.Versions.{writer_len, close_len}
use Rattle.checkpoint_io.specs.Blocks.{close_bytes}
use Rattle.checkpoint_io.proofs.lemmas.BlockLaws.{le_length}
use Rattle.roaming_consumer.specs.Sinks.{Sends}
use Rattle.roaming_consumer.proofs.lemmas.Sending.{put_front, sends_all}
use Rattle.roaming_consumer.proofs.blocks.write_close.Goals as goal

pub returns-clause-sent : goal.returns-clause-sent
returns-clause-sent g c =
    let w = c.write_all.ensures in
    let bytes = close_bytes c.args.version c.args.writer in
    let long : length bytes ≡ close_len c.args.version = omega (arith, le_length (writer_len c.args.version) c.args.writer) in
    subst (λ (l : List ℕ). Sends c.write_all.result l (g.K.Sink.put c.args.sink.now) (g.K.Sink.put c.write_all.new.sink) (g.K.Sink.faults c.args.sink.now) (g.K.Sink.faults c.write_all.new.sink)) (put_front bytes _ _ _ _ c.put_close-len.ensures.put c.put_close-len.ensures.len long)
    (sends_all c.write_all.result _ _ _ _ _ w.ok w.counted w.err w.cause w.count)
