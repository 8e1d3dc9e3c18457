use Rattle.std.proofs.Common.{◌≡◌, List, ℕ, length, take, ap, subst, ◌∙◌}
use Rattle.nl_io.specs.Content.{with_end, PutsFront}
use Rattle.checkpoint_io.specs.Blocks.{extent_head_bytes}
use Rattle.checkpoint_io.proofs.lemmas.BlockLaws.{length-extent_head_bytes}
use Rattle.roaming_consumer.proofs.lemmas.Sending.{put_front, sends_then, sends_stop, sends_all}
use Rattle.roaming_consumer.proofs.blocks.write_extent.Goals as goal

pub returns-in_err-write_all-clause-sent : goal.returns-in_err-write_all-clause-sent
returns-in_err-write_all-clause-sent g c =
    let w = c.in_err-write_all.ensures in
    let bytes = extent_head_bytes c.args.version c.args.writer (length c.args.body.now) in
    let head : take c.put_extent_head-len.result c.put_extent_head-len.new.into ≡ bytes =
    put_front bytes _ _ _ _ c.put_extent_head-len.ensures.put c.put_extent_head-len.ensures.len (length-extent_head_bytes c.args.version c.args.writer (length c.args.body.now)) in
    sends_stop c.from_residual.result bytes c.args.body.now _ _ _ _ c.from_residual.ensures.0
    (subst (λ (l : List ℕ). PutsFront l (g.K.Sink.put c.args.sink.now) (g.K.Sink.put c.write_all.new.sink)) head w.err) w.cause w.count

pub returns-clause-sent : goal.returns-clause-sent
returns-clause-sent g c =
    let w = c.in_ok-write_all.ensures in
    let b = c.write_all-2.ensures in
    let bytes = extent_head_bytes c.args.version c.args.writer (length c.args.body.now) in
    let head : take c.put_extent_head-len.result c.put_extent_head-len.new.into ≡ bytes =
    put_front bytes _ _ _ _ c.put_extent_head-len.ensures.put c.put_extent_head-len.ensures.len (length-extent_head_bytes c.args.version c.args.writer (length c.args.body.now)) in
    sends_then c.write_all-2.result bytes c.args.body.now _ (g.K.Sink.put c.write_all.new.sink) _ _ (g.K.Sink.faults c.write_all.new.sink) _
    (w.ok ∙ ap (λ (l : List ℕ). with_end l (g.K.Sink.put c.args.sink.now)) head) w.counted
    (sends_all c.write_all-2.result c.args.body.now _ _ _ _ b.ok b.counted b.err b.cause b.count)
