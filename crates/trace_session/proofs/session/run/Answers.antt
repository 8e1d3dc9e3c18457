use Rattle.std.proofs.Common.{[], ◌++◌, ap, ◌∙◌, subst}
use Rattle.std.proofs.lemmas.Result.{IfErr-at_err}
use Rattle.nl_io.specs.Content.{with_end}
use Rattle.nl_io.proofs.lemmas.Contents.{with_end-both}
use Rattle.trace_text.specs.Recordings.{Recording}
use Rattle.trace_session.specs.Sessions.{IsSession, IsCutSession}
use Rattle.trace_session.proofs.Sessions.{ready_begun}
use Rattle.trace_session.proofs.Cuts.{cut_header}
use Rattle.trace_session.proofs.session.run.Goals as goal

pub run_begun-requires-clause-ready : goal.run_begun-requires-clause-ready
run_begun-requires-clause-ready g c κs within =
    let begun = c.in-Ok-begin.ensures in
    ready_begun g.S.Out.StageOut.pair g.S.Out.StageOut.plan _ _ c.args.options.now _ c.in-Ok.both.1 c.begin.new.self c.in-Ok.ensures.ready c.deref-2.ensures begun.same_ends begun.same_run (begun.ok ∙ c.in-Ok.ensures.ready.unfaulted)

pub returns-in-Ok-run_begun-clause-ok : goal.returns-in-Ok-run_begun-clause-ok
returns-in-Ok-run_begun-clause-ok g c =
    let wrote = c.begin.ensures.wrote in
    let (bytes, put, session) = c.in-Ok-run_begun.ensures.ok in (
      wrote.bytes ++ bytes,
      put ∙ ap (with_end bytes) wrote.put_is ∙ with_end-both wrote.bytes bytes (g.K.Sink.put c.args.sink.now),
      subst (λ (r : Recording). IsSession g.S.Done.StageDone.sent g.S.Done.StageDone.got r c.args.options.now c.in-Ok-run_begun.outcome (wrote.bytes ++ bytes)) c.deref-2.ensures
          (session wrote.bytes (wrote.stands [] c.in-Ok.ensures.stands.1)),
    )

pub returns-in-Ok-run_begun-clause-bad_size : goal.returns-in-Ok-run_begun-clause-bad_size
returns-in-Ok-run_begun-clause-bad_size g c = (λ is. absurd (IfErr-at_err (λ _. ⊥) is tt), λ bad. absurd (IfErr-at_err (λ _. ⊥) (c.in-Ok.ensures.bad_size.1 bad) tt))

pub returns-in-Ok-run_begun-clause-counted : goal.returns-in-Ok-run_begun-clause-counted
returns-in-Ok-run_begun-clause-counted g c = c.in-Ok-run_begun.ensures.counted ∙ c.in-Ok-begin.ensures.sent.counted

pub returns-in-Ok-run_begun-clause-grew : goal.returns-in-Ok-run_begun-clause-grew
returns-in-Ok-run_begun-clause-grew g c =
    let wrote = c.begin.ensures.wrote in
    let (bytes, put) = c.run_begun.ensures.grew in
    (wrote.bytes ++ bytes, put ∙ ap (with_end bytes) wrote.put_is ∙ with_end-both wrote.bytes bytes (g.K.Sink.put c.args.sink.now))

pub returns-in-Ok-run_begun-clause-others : goal.returns-in-Ok-run_begun-clause-others
returns-in-Ok-run_begun-clause-others g c = g.met.K.Sink.rest_then _ _ _ c.begin.ensures.others c.run_begun.ensures.others

pub returns-in-Err-clause-grew : goal.returns-in-Err-clause-grew
returns-in-Err-clause-grew g c =
    let wrote = c.begin.ensures.wrote in
    let (bytes, put) = c.run_begun.ensures.grew in
    (wrote.bytes ++ bytes, put ∙ ap (with_end bytes) wrote.put_is ∙ with_end-both wrote.bytes bytes (g.K.Sink.put c.args.sink.now))

pub returns-in-Err-clause-others : goal.returns-in-Err-clause-others
returns-in-Err-clause-others g c = g.met.K.Sink.rest_then _ _ _ c.begin.ensures.others c.run_begun.ensures.others

pub returns-in-Err-clause-bad_size : goal.returns-in-Err-clause-bad_size
returns-in-Err-clause-bad_size g c = (λ is. let never = is in absurd cc, λ bad. absurd (IfErr-at_err (λ _. ⊥) (c.in-Ok.ensures.bad_size.1 bad) tt))

pub returns-in_default-begin-clause-cut : goal.returns-in_default-begin-clause-cut
returns-in_default-begin-clause-cut g c = λ is.
    let begun = c.begin.ensures in
    let (unbegun, stands) = c.in-Ok.ensures.stands in (
      begun.wrote.bytes,
      begun.wrote.put_is,
      cut_header g.S.In.StageIn.sent g.S.In.StageIn.closed g.S.Out.StageOut.got g.S.Out.StageOut.ended g.S.Out.StageOut.pair g.S.Out.StageOut.plan _ c.args.options.now _ c.in-Ok.both.1 c.begin.new.self [] begun.wrote.bytes
          c.in-Ok.ensures.ready stands unbegun c.in-Ok.ensures.fresh begun.same_ends begun.same_run begun.begun c.in_default-begin.ensures.err (begun.wrote.stands [] stands),
    )

pub returns-in-Err-clause-cut : goal.returns-in-Err-clause-cut
returns-in-Err-clause-cut g c = λ is.
    let wrote = c.begin.ensures.wrote in
    let (bytes, put, cut) = c.in-Err.ensures.cut in (
      wrote.bytes ++ bytes,
      put ∙ ap (with_end bytes) wrote.put_is ∙ with_end-both wrote.bytes bytes (g.K.Sink.put c.args.sink.now),
      subst (λ (r : Recording). IsCutSession r c.args.options.now (wrote.bytes ++ bytes)) c.deref-2.ensures (cut wrote.bytes (wrote.stands [] c.in-Ok.ensures.stands.1)),
    )
