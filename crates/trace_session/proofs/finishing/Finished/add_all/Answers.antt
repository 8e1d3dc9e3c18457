use Rattle.std.proofs.Common.{[], ◌∷◌, ◌++◌, map, length, refl, sym, ap, ◌∙◌, arith}
use Rattle.std.proofs.lemmas.List.{length-map}
use Rattle.trace_text.specs.Recordings.{Recording}
use Rattle.log_session.specs.Writers.{WriterView}
use Rattle.trace_session.specs.Workers.{Work, work_of}
use Rattle.trace_session.specs.Workplaces.{worker_of, works_at}
use Rattle.arg_records.proofs.lemmas.Walks.{walked, one_less}
use Rattle.trace_session.proofs.Leaving.{next_work, pairs_more, as_many, all_seen}
use Rattle.trace_session.proofs.finishing.Finished.add_all.Goals as goal

pub loop-workplace-init : goal.loop-workplace-init
loop-workplace-init g c =
    let into = c.into_iter-workplace-iterator.ensures.into_iter_gives in (
      [],
      ap (works_at g.S.StageIn.pair g.S.StageIn.words) into.0,
      ap (map (λ (writer : WriterView g.row.S.Denot). g.S.StageIn.pair writer.end)) c.requires.nothing,
      refl,
      refl,
      (let e = ap length into.0 in let v = c.args.workplaces.ok in omega (arith, e, v.0, into.1)),
    )

pub add-requires-clause-next : goal.add-requires-clause-next
add-requires-clause-next g c κs within =
    let (seen, joined, pairs, same_run, same_options, long) = c.loop-workplace.invariant in
    next_work _ _ _ _ _ seen _ _ _ _ _ _ same_run same_options c.requires.works joined (ap (works_at g.S.StageIn.pair g.S.StageIn.words) c.in-Some.ensures.steps.0)
    (as_many (λ (writer : WriterView g.row.S.Denot). g.S.StageIn.pair writer.end) _ seen pairs) c.leave.ensures.same

pub add-requires-clause-finished : goal.add-requires-clause-finished
add-requires-clause-finished g c κs within = c.leave.ensures.finished

pub loop-workplace-preserved : goal.loop-workplace-preserved
loop-workplace-preserved g c =
    let (seen, joined, pairs, same_run, same_options, long) = c.loop-workplace.invariant in
    let next = c.in-Some.ensures.steps in (
      seen ++ work_of g.S.StageIn.pair g.S.StageIn.words (worker_of c.in-Some.workplace) ∷ [],
      walked seen _ _ _ _ joined (ap (works_at g.S.StageIn.pair g.S.StageIn.words) next.0),
      pairs_more _ _ seen _ _ pairs c.add.ensures.one_more c.leave.ensures.same,
      c.add.ensures.same.0 ∙ same_run,
      c.add.ensures.same.1 ∙ same_options,
      one_less _ _ c.in-Some.workplace _ _ long next.0 next.1,
    )

pub returns-clause-same : goal.returns-clause-same
returns-clause-same g c =
    let (seen, joined, pairs, same_run, same_options, long) = c.loop-workplace.invariant in
    (same_run, same_options)

pub returns-clause-all : goal.returns-clause-all
returns-clause-all g c =
    let (seen, joined, pairs, same_run, same_options, long) = c.loop-workplace.invariant in
    let all = all_seen _ seen _ _ joined (long ∙ c.in-None.ensures.steps.0) in
    as_many (λ (writer : WriterView g.row.S.Denot). g.S.StageIn.pair writer.end) _ seen pairs
    ∙ ap length all
    ∙ length-map {B = Work} c.args.workplaces.items _
    ∙ c.requires.count
    ∙ sym (ap (λ (run : Recording). length run.writers) same_run)

pub returns-clause-rings : goal.returns-clause-rings
returns-clause-rings g c =
    let (seen, joined, pairs, same_run, same_options, long) = c.loop-workplace.invariant in
    pairs ∙ ap (map (λ (work : Work). work.pair)) (all_seen _ seen _ _ joined (long ∙ c.in-None.ensures.steps.0))
