use Rattle.std.proofs.Common.{◌≡◌, false, true, List, ◌++◌, map, length, refl, sym, ap, ◌∙◌, ⊎_elim, arith}
use Rattle.std.proofs.lemmas.List.{length-map}
use Rattle.trace_text.specs.Recordings.{Recording}
use Rattle.trace_session.specs.Drops.{call_count}
use Rattle.trace_session.specs.Finishing.{FinishedView, works_of}
use Rattle.trace_session.specs.Workers.{Work}
use Rattle.log_session.specs.Writers.{WriterView}
use Rattle.trace_session.proofs.Sessions.{pairs_are, rebuilt, ends_count, zip_from_maps, works_kept, all_done, few_accepted, taken_few, session_is}
use Rattle.trace_session.proofs.Cuts.{cut_session}
use Rattle.trace_session.proofs.session.run_begun.Goals as goal

pub consume-requires-clause-known : goal.consume-requires-clause-known
consume-requires-clause-known g c κs within =
    let started = c.start_all.ensures in
    ap length c.deref_mut.ensures.value
    ∙ sym (length-map {B = Work} c.start_all.new.workplaces.items _)
    ∙ ap length started
    ∙ ends_count g.S.Out.StageOut.pair g.S.Out.StageOut.plan c.args.trace.now c.args.options.now _ c.args.roamer c.requires.ready

pub add_all-requires-clause-works : goal.add_all-requires-clause-works
add_all-requires-clause-works g c κs within =
    let ready = c.requires.ready in
    let lent = c.deref_mut.ensures in
    let kept = works_kept g.S.In.StageIn.pair g.S.In.StageIn.words _ _ c.consume.new.workplaces _ _ c.start_all.ensures lent.value lent.len c.consume.ensures.same in
    let run = ap (λ (v : FinishedView g.row.S-In.Denot). v.run) c.requires.free.finished in
    let options = ap (λ (v : FinishedView g.row.S-In.Denot). v.options) c.requires.free.finished in
    kept
    ∙ rebuilt c.args.trace.now c.args.options.now _ _ ready.works_are
    ∙ (λ i. works_of (sym run i) (sym options i) (map (λ (w : Work). w.pair) (sym kept i)))

pub add_all-requires-clause-count : goal.add_all-requires-clause-count
add_all-requires-clause-count g c κs within =
    let lent = c.deref_mut.ensures in
    let kept = works_kept g.S.In.StageIn.pair g.S.In.StageIn.words _ _ c.consume.new.workplaces _ _ c.start_all.ensures lent.value lent.len c.consume.ensures.same in
    let run = ap (λ (v : FinishedView g.row.S-In.Denot). v.run) c.requires.free.finished in
    sym (length-map {B = Work} _ _) ∙ ap length kept ∙ c.requires.ready.count ∙ sym (ap (λ (r : Recording). length r.writers) run)

pub returns-then-faulted-clause-cause : goal.returns-then-faulted-clause-cause
returns-then-faulted-clause-cause g c =
    let faulted = sym c.faulted-faulted.ensures ∙ c.if-faulted.true in
    ⊎_elim (λ before. let never : true ≡ false = sym before ∙ c.requires.ready.unfaulted in absurd cc) (λ rose. rose) (c.consume.ensures.roams.faulted faulted)

pub returns-then-faulted-clause-cut : goal.returns-then-faulted-clause-cut
returns-then-faulted-clause-cut g c =
    let parts = c.into_parts-drops.ensures in
    let (done, all) = all_done _ _ _ _ c.args.trace.now c.args.options.now _ _ c.requires.free.finished c.add_all.ensures.same parts.drops parts.writers parts.done c.add_all.ensures.all in
    let (left, into, joined, counted) = c.settle-accepted.ensures in
    let roams = c.consume.ensures.roams in
    let faulted = sym c.faulted-faulted.ensures ∙ c.if-faulted.true in (
      roams.adds.bytes,
      roams.adds.put_is,
      λ wrote stands. cut_session _ _ _ _ _ _ _ _ c.args.trace.now c.args.options.now c.consume.new.roamer _ _ left c.consume.ensures.over done all joined
          g.S.Out.StageOut.pair g.S.Out.StageOut.plan _ c.args.roamer (wrote ++ roams.adds.bytes) c.requires.ready roams.same_run roams.begun faulted (roams.adds.stands wrote stands),
    )

pub settle-accepted-requires-clause-rings : goal.settle-accepted-requires-clause-rings
settle-accepted-requires-clause-rings g c κs within =
    let lent = c.deref_mut.ensures in
    let kept = works_kept g.S.In.StageIn.pair g.S.In.StageIn.words _ _ c.consume.new.workplaces _ _ c.start_all.ensures lent.value lent.len c.consume.ensures.same in
    zip_from_maps (λ (writer : WriterView g.row.S-In.Denot). g.S.In.StageIn.pair writer.end) g.S.Out.StageOut.pair _ _ (
    ap (map (λ (writer : WriterView g.row.S-In.Denot). g.S.In.StageIn.pair writer.end)) c.into_parts-drops.ensures.writers
    ∙ c.add_all.ensures.rings
    ∙ ap (map (λ (work : Work). work.pair)) kept
    ∙ pairs_are c.args.trace.now c.args.options.now _ _ c.requires.ready.works_are
    ∙ sym c.consume.ensures.roams.same_rings
    )

pub settle-accepted-requires-clause-few : goal.settle-accepted-requires-clause-few
settle-accepted-requires-clause-few g c κs within =
    let parts = c.into_parts-drops.ensures in
    let (done, all) = all_done _ _ _ _ c.args.trace.now c.args.options.now _ _ c.requires.free.finished c.add_all.ensures.same parts.drops parts.writers parts.done c.add_all.ensures.all in
    let few = few_accepted g.S.In.StageIn.sent g.S.In.StageIn.closed c.args.trace.now c.args.options.now _ _ done all in
    omega (arith, few, ap (λ (r : Recording). call_count r.writers) c.trace.view_is, c.trace.invariant.recorded.few_calls)

pub returns-clause-counted : goal.returns-clause-counted
returns-clause-counted g c = (c.consume.ensures.roams.unfaulted (sym c.faulted-faulted.ensures ∙ c.if-faulted.false)).1

pub overflow_sub-others : goal.overflow_sub-others
overflow_sub-others g c =
    let parts = c.into_parts-drops.ensures in
    let (done, all) = all_done _ _ _ _ c.args.trace.now c.args.options.now _ _ c.requires.free.finished c.add_all.ensures.same parts.drops parts.writers parts.done c.add_all.ensures.all in
    let (left, into, joined, counted) = c.settle-accepted.ensures in
    let few = taken_few _ _ _ _ _ _ _ _ c.args.trace.now c.args.options.now c.consume.new.roamer _ _ left c.consume.ensures.over done all joined in
    omega (arith, counted, few, c.count_calls-calls.ensures, ap (λ (r : Recording). call_count r.writers) c.trace.view_is)

pub overflow_sub-result : goal.overflow_sub-result
overflow_sub-result g c =
    let parts = c.into_parts-drops.ensures in
    let (done, all) = all_done _ _ _ _ c.args.trace.now c.args.options.now _ _ c.requires.free.finished c.add_all.ensures.same parts.drops parts.writers parts.done c.add_all.ensures.all in
    let (left, into, joined, counted) = c.settle-accepted.ensures in
    let few = taken_few _ _ _ _ _ _ _ _ c.args.trace.now c.args.options.now c.consume.new.roamer _ _ left c.consume.ensures.over done all joined in
    omega (arith, counted, few, c.len.ensures, c.count_calls-calls.ensures, ap (λ (r : Recording). call_count r.writers) c.trace.view_is)

pub returns-clause-ok : goal.returns-clause-ok
returns-clause-ok g c =
    let parts = c.into_parts-drops.ensures in
    let (done, all) = all_done _ _ _ _ c.args.trace.now c.args.options.now _ _ c.requires.free.finished c.add_all.ensures.same parts.drops parts.writers parts.done c.add_all.ensures.all in
    let (left, into, joined, counted) = c.settle-accepted.ensures in
    let roams = c.consume.ensures.roams in
    let right = sym c.faulted-faulted.ensures ∙ c.if-faulted.false in
    let calls = c.count_calls-calls.ensures ∙ ap (λ (r : Recording). call_count r.writers) c.trace.view_is in (
      roams.adds.bytes,
      roams.adds.put_is,
      λ wrote stands. session_is _ _ _ _ _ _ _ _ c.args.trace.now c.args.options.now c.consume.new.roamer _ _ left c.consume.ensures.over done all joined
          g.S.Out.StageOut.pair g.S.Out.StageOut.plan _ c.args.roamer _ _ _ _ (wrote ++ roams.adds.bytes) _ c.requires.ready roams right (roams.adds.stands wrote stands)
          refl (into ∙ ap (λ (l : List g.row.S-Done.Denot). l ++ left) c.requires.free.settled.0) counted (omega (arith, calls, c.len.ensures)),
    )
