use Rattle.std.proofs.Common.{List, refl, sym, subst, ◌∙◌, arith}
use Rattle.std.specs.List.{AllZip}
use Rattle.std.proofs.lemmas.Option.{slice_get-get_or}
use Rattle.log_ends.specs.declared.writer.WriterEnd.{WriterEnd}
use Rattle.log_ends.specs.Writers.{IsFinishedFrom}
use Rattle.log_ends.proofs.Finishing.{finishing_none, finishing_one, all_finished}
use Rattle.log_ends.proofs.session.SessionEnd.end.Goals as goal

pub loop-writer-init : goal.loop-writer-init
loop-writer-init c = finishing_none _

pub loop-writer-preserved : goal.loop-writer-preserved
loop-writer-preserved c =
    finishing_one c.loop-writer.writer-index _ c.loop-writer.writer-items _ c.finish.new.self c.loop-writer.invariant
    (slice_get-get_or c.loop-writer.writer-items c.loop-writer.writer-index c.writer-item.result (omega (arith, c.loop-writer.auto.writer-items))) c.finish.ensures.finished

pub returns : goal.returns
returns c =
    let made = c.make_contiguous-writer-items.ensures in
    let finished = all_finished c.loop-writer.writer-index _ c.loop-writer.writer-items c.loop-writer-test.false c.loop-writer.invariant in
    let written = made.writes_back c.loop-writer.writer-items (c.loop-writer.auto.writer-items ∙ made.len) in record {
      ended = refl;
      finished = subst (λ (pair : List WriterEnd × List WriterEnd). AllZip IsFinishedFrom pair.0 pair.1) (λ i. (made.value i, sym written i)) finished;
      same_messages = refl;
    }
