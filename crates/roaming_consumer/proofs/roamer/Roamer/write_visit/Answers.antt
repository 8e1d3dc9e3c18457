use Rattle.std.proofs.Common.{Bool, true, false, List, length, get_or, refl, sym, ap, ◌∙◌, arith}
use Rattle.std.specs.Prelude.{slice_set}
use Rattle.std.proofs.lemmas.Bool.{both_ways}
use Rattle.roaming_consumer.specs.Roamers.{ends_of}
use Rattle.roaming_consumer.proofs.lemmas.Sending.{ok_of, err_of, sent_whole}
use Rattle.roaming_consumer.proofs.Standing.{draft_some, draft_ids}
use Rattle.roaming_consumer.proofs.Additions.{mark_read, tells_ended, stopped_in_mark, writes_extent, stopped_in_extent, extent_appended, extent_cut, nothing_appended, mark_appended, mark_cut}
use Rattle.roaming_consumer.specs.Growth.{LogProgress}
use Rattle.roaming_consumer.proofs.lemmas.Marking.{marks_stay, mark_written}
use Rattle.roaming_consumer.proofs.Stopping.{none_of_ended}
use Rattle.roaming_consumer.proofs.roamer.Roamer.write_visit.Goals as goal
use Rattle.roaming_consumer.proofs.roamer.Roamer.write_visit.Goals.{else-not-index-via-then-not-index+else-is_err-2, else-not-index-via-else-not-index}

pub write_draft-requires-clause-some : goal.write_draft-requires-clause-some
write_draft-requires-clause-some g c = draft_some _ _ _ _ _ _ c.collect-ended.ensures.gathers.step.0 (omega arith)

pub write_draft-requires-clause-ids : goal.write_draft-requires-clause-ids
write_draft-requires-clause-ids g c =
    let ids = draft_ids _ _ _ _ _ _ c.collect-ended.ensures.gathers.step.0 in
    omega (arith, ids, ap length c.collect-ended.ensures.others.same_run.messages)

pub returns-then-draft-gt0-clause-wrote : goal.returns-then-draft-gt0-clause-wrote
returns-then-draft-gt0-clause-wrote g c =
    let w = c.write_draft.ensures in
    let mid = c.collect-ended.new.self in
    extent_appended g.S.StageOut.got g.S.StageOut.ended g.S.StageOut.loads g.S.StageOut.pair g.S.StageOut.plan c.args.self.now mid c.write_draft.new.self c.args.writer c.collect-ended.result.draft c.collect-ended.result.ended c.collect-ended.ensures.gathers c.collect-ended.ensures.others w.same_ends (omega arith) c.write_draft.result _ _ _ _ w.sent c.requires.begun c.requires.unfaulted w.same_run w.same_flags.0 w.distinct w.few c.collect-ended.ensures.few c.if-is_err.ensures.value (ok_of c.write_draft.result c.if-is_err.ensures.value w.ok)

pub returns-then-is_err-clause-wrote : goal.returns-then-is_err-clause-wrote
returns-then-is_err-clause-wrote g c =
    let w = c.write_draft.ensures in
    let mid = c.collect-ended.new.self in
    let now = err_of c.write_draft.result c.if-is_err.ensures.value w.err in
    extent_cut g.S.StageOut.got g.S.StageOut.ended g.S.StageOut.loads g.S.StageOut.pair g.S.StageOut.plan c.args.self.now mid _ c.args.writer c.collect-ended.result.draft c.collect-ended.result.ended c.collect-ended.ensures.gathers c.collect-ended.ensures.others w.same_ends (omega arith) c.write_draft.result _ _ _ _ w.sent c.requires.begun c.requires.unfaulted (record { messages = w.same_run.messages; version = w.same_run.version; clocks = w.same_run.clocks; clock = w.same_run.clock; batch = w.same_run.batch }) w.same_flags.0 w.distinct w.few c.collect-ended.ensures.few c.if-is_err.ensures.value refl (ap (λ (p : LogProgress). p.latest) now)

pub returns-then-is_err-2-clause-wrote : goal.returns-then-is_err-2-clause-wrote
returns-then-is_err-2-clause-wrote g c =
    let m = c.write_mark.ensures in
    let mid = c.collect-ended.new.self in
    let now = err_of c.write_mark.result c.if-is_err-2.ensures.value m.err in
    mark_cut g.S.StageOut.got g.S.StageOut.ended g.S.StageOut.loads g.S.StageOut.pair g.S.StageOut.plan c.args.self.now mid _ c.args.writer c.collect-ended.result.draft c.collect-ended.result.ended c.collect-ended.ensures.gathers c.collect-ended.ensures.others m.same_ends c.requires.begun c.requires.unfaulted (record { messages = m.same_run.messages; version = m.same_run.version; clocks = m.same_run.clocks; clock = m.same_run.clock; batch = m.same_run.batch }) m.same_flags.0 (omega arith) (mark_read c.args.self.now mid c.args.writer c.index.result.now false c.requires.known c.collect-ended.ensures.others c.index.ensures c.if-not-index.true) c.if-not-ended.false _ _ refl now (err_of c.write_mark.result c.if-is_err-2.ensures.value m.sent.err)

pub returns-then-not-ended-clause-wrote : goal.returns-then-not-ended-clause-wrote
returns-then-not-ended-clause-wrote g c =
    let mid = c.collect-ended.new.self in
    nothing_appended g.S.StageOut.got g.S.StageOut.ended g.S.StageOut.loads g.S.StageOut.pair g.S.StageOut.plan c.args.self.now mid mid c.args.writer c.collect-ended.result.draft c.collect-ended.result.ended c.collect-ended.ensures.gathers c.collect-ended.ensures.others refl c.requires.begun c.requires.unfaulted (record { messages = refl; version = refl; clocks = refl; clock = refl; batch = refl }) refl (omega arith) _ refl

pub returns-clause-wrote : goal.returns-clause-wrote
returns-clause-wrote g c =
    let mid = c.collect-ended.new.self in
    let over = c.if-not-ended.false in
    elim c.else-not-index.branch [
      | else-not-index-via-then-not-index+else-is_err-2 w ↦
          let m = w.write_mark.ensures in
          rw (w.self-is, w.sink-is) (mark_appended g.S.StageOut.got g.S.StageOut.ended g.S.StageOut.loads g.S.StageOut.pair g.S.StageOut.plan c.args.self.now mid w.write_mark.new.self c.args.writer c.collect-ended.result.draft c.collect-ended.result.ended c.collect-ended.ensures.gathers c.collect-ended.ensures.others m.same_ends c.requires.begun c.requires.unfaulted m.same_run m.same_flags.0 (omega arith) (mark_read c.args.self.now mid c.args.writer c.index.result.now false c.requires.known c.collect-ended.ensures.others c.index.ensures w.if-not-index.true) over _ _ (ok_of w.write_mark.result w.if-is_err-2.ensures.value m.ok) (sent_whole w.write_mark.result _ _ _ _ _ w.if-is_err-2.ensures.value m.sent))
      | else-not-index-via-else-not-index w ↦
          rw (w.self-is, w.sink-is) (nothing_appended g.S.StageOut.got g.S.StageOut.ended g.S.StageOut.loads g.S.StageOut.pair g.S.StageOut.plan c.args.self.now mid mid c.args.writer c.collect-ended.result.draft c.collect-ended.result.ended c.collect-ended.ensures.gathers c.collect-ended.ensures.others refl c.requires.begun c.requires.unfaulted (record { messages = refl; version = refl; clocks = refl; clock = refl; batch = refl }) refl (omega arith) _ refl)
    ]

pub returns-then-draft-gt0-clause-marks : goal.returns-then-draft-gt0-clause-marks
returns-then-draft-gt0-clause-marks g c =
    let now = ok_of c.write_draft.result c.if-is_err.ensures.value c.write_draft.ensures.ok in
    marks_stay _ c.args.writer c.args.self.now c.write_draft.new.self (ap (λ (p : LogProgress). p.closed) now ∙ ap (λ (p : LogProgress). p.closed) c.collect-ended.ensures.others.progress) (λ unfaulted is. absurd cc)

pub returns-then-not-ended-clause-marks : goal.returns-then-not-ended-clause-marks
returns-then-not-ended-clause-marks g c =
    marks_stay _ c.args.writer c.args.self.now c.collect-ended.new.self (ap (λ (p : LogProgress). p.closed) c.collect-ended.ensures.others.progress) (λ unfaulted is. absurd cc)

pub returns-clause-marks : goal.returns-clause-marks
returns-clause-marks g c =
    let mid = c.collect-ended.new.self in
    let kept = ap (λ (p : LogProgress). p.closed) c.collect-ended.ensures.others.progress in
    elim c.else-not-index.branch [
      | else-not-index-via-then-not-index+else-is_err-2 w ↦
          let now = ok_of w.write_mark.result w.if-is_err-2.ensures.value w.write_mark.ensures.ok in
          rw w.self-is (mark_written c.args.writer c.args.self.now w.write_mark.new.self (ap (λ (p : LogProgress). p.closed) now ∙ ap (λ (l : List Bool). slice_set l c.args.writer true) kept) (omega (arith, c.args.self.now.each_closed)) c.requires.unfaulted)
      | else-not-index-via-else-not-index w ↦
          rw w.self-is (marks_stay _ c.args.writer c.args.self.now mid kept (λ unfaulted is. ap (λ (l : List Bool). get_or l c.args.writer false) (sym kept) ∙ (mark_read c.args.self.now mid c.args.writer c.index.result.now true c.requires.known c.collect-ended.ensures.others c.index.ensures w.if-not-index.false)))
    ]

pub returns-then-is_err-clause-stops : goal.returns-then-is_err-clause-stops
returns-then-is_err-clause-stops g c =
    let mid = c.collect-ended.new.self in
    let w = c.write_draft.ensures in
    stopped_in_extent g.S.StageOut.got g.S.StageOut.ended g.S.StageOut.loads g.S.StageOut.pair g.S.StageOut.plan c.args.self.now mid c.write_draft.new.self c.args.writer c.collect-ended.result.draft c.collect-ended.result.ended c.collect-ended.ensures.gathers c.collect-ended.ensures.others w.same_ends (omega arith) c.write_draft.result _ _ _ _ w.sent c.collect-ended.ensures.few c.if-is_err.ensures.value

pub returns-then-draft-gt0-clause-writes : goal.returns-then-draft-gt0-clause-writes
returns-then-draft-gt0-clause-writes g c =
    let w = c.write_draft.ensures in
    let mid = c.collect-ended.new.self in
    rw c.from.ensures (writes_extent g.S.StageOut.got g.S.StageOut.ended g.S.StageOut.loads g.S.StageOut.pair g.S.StageOut.plan c.args.self.now mid c.write_draft.new.self c.args.writer c.collect-ended.result.draft c.collect-ended.result.ended c.collect-ended.ensures.gathers c.collect-ended.ensures.others w.same_ends (omega arith) c.write_draft.result _ _ _ _ w.sent c.if-is_err.ensures.value)

pub returns-then-draft-gt0-clause-again : goal.returns-then-draft-gt0-clause-again
returns-then-draft-gt0-clause-again g c = λ end there over.
    let one = c.collect-ended.ensures.gathers in
    let none = none_of_ended g.S.StageOut.ended g.S.StageOut.loads g.S.StageOut.pair g.S.StageOut.plan (ends_of c.args.self.now) c.args.writer c.collect-ended.result.draft.records c.collect-ended.result.ended one.before one.after one.was one.step.1 end there over in
    absurd (omega (arith, none.0))

pub returns-then-not-ended-clause-again : goal.returns-then-not-ended-clause-again
returns-then-not-ended-clause-again g c = λ end there over.
    let one = c.collect-ended.ensures.gathers in
    let none = none_of_ended g.S.StageOut.ended g.S.StageOut.loads g.S.StageOut.pair g.S.StageOut.plan (ends_of c.args.self.now) c.args.writer c.collect-ended.result.draft.records c.collect-ended.result.ended one.before one.after one.was one.step.1 end there over in
    absurd (both_ways c.collect-ended.result.ended c.if-not-ended.true none.1)

pub returns-then-is_err-clause-again : goal.returns-then-is_err-clause-again
returns-then-is_err-clause-again g c = λ end there over.
    let one = c.collect-ended.ensures.gathers in
    let none = none_of_ended g.S.StageOut.ended g.S.StageOut.loads g.S.StageOut.pair g.S.StageOut.plan (ends_of c.args.self.now) c.args.writer c.collect-ended.result.draft.records c.collect-ended.result.ended one.before one.after one.was one.step.1 end there over in
    absurd (omega (arith, none.0))

pub returns-then-is_err-2-clause-stops : goal.returns-then-is_err-2-clause-stops
returns-then-is_err-2-clause-stops g c =
    let mid = c.collect-ended.new.self in
    let m = c.write_mark.ensures in
    stopped_in_mark g.S.StageOut.got g.S.StageOut.ended g.S.StageOut.loads g.S.StageOut.pair g.S.StageOut.plan c.args.self.now mid c.write_mark.new.self c.args.writer c.collect-ended.result.draft c.collect-ended.result.ended c.collect-ended.ensures.gathers c.collect-ended.ensures.others m.same_ends (omega arith) c.if-not-ended.false _ _ (mark_read c.args.self.now mid c.args.writer c.index.result.now false c.requires.known c.collect-ended.ensures.others c.index.ensures c.if-not-index.true) (err_of c.write_mark.result c.if-is_err-2.ensures.value m.sent.err)

pub returns-clause-visits : goal.returns-clause-visits
returns-clause-visits g c =
    let mid = c.collect-ended.new.self in
    elim c.else-not-index.branch [
      | else-not-index-via-then-not-index+else-is_err-2 w ↦
          rw w.self-is (tells_ended g.S.StageOut.got g.S.StageOut.ended g.S.StageOut.loads g.S.StageOut.pair g.S.StageOut.plan c.args.self.now mid w.write_mark.new.self c.args.writer c.collect-ended.result.draft c.collect-ended.result.ended c.collect-ended.ensures.gathers c.collect-ended.ensures.others w.write_mark.ensures.same_ends (omega arith) c.if-not-ended.false)
      | else-not-index-via-else-not-index w ↦
          rw w.self-is (tells_ended g.S.StageOut.got g.S.StageOut.ended g.S.StageOut.loads g.S.StageOut.pair g.S.StageOut.plan c.args.self.now mid mid c.args.writer c.collect-ended.result.draft c.collect-ended.result.ended c.collect-ended.ensures.gathers c.collect-ended.ensures.others refl (omega arith) c.if-not-ended.false)
    ]
