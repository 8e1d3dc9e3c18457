use Rattle.std.proofs.Common.{◌∙◌, arith, ◌≤◌, length, length-drop, ◌+◌}
use Rattle.std.proofs.lemmas.List.{take_rest}
use Rattle.nl_io.proofs.lemmas.Contents.{with_end-more}
use Rattle.nl_io.proofs.sink.write_all.Goals as goal

pub loop-done-preserved : goal.loop-done-preserved
loop-done-preserved g c =
    let fits : c.loop-done.done + c.in_ok-done.field-0 ≤ length c.args.bytes.now = omega (arith, c.in_ok-done.ensures.within, length-drop c.loop-done.done c.args.bytes.now) in
    record {
      within = fits;
      taken = with_end-more c.args.bytes.now c.loop-done.done c.in_ok-done.field-0 _ _ _ fits c.loop-done.invariant.taken (rw take_rest at c.in_ok-done.ensures.taken);
      counted = c.in_ok-done.ensures.counted ∙ c.loop-done.invariant.counted;
      others = g.met.K.Sink.rest_then _ _ _ c.loop-done.invariant.others c.write.ensures.others;
    }
