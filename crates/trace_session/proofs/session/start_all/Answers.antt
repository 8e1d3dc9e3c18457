use Rattle.std.proofs.Common.{◌++◌, map, length, ap, ◌∙◌, arith}
use Rattle.trace_session.specs.Workers.{work_of}
use Rattle.trace_session.specs.Workplaces.{works_at}
use Rattle.arg_records.proofs.lemmas.Walks.{one_less}
use Rattle.trace_session.proofs.Sessions.{seated, all_seated}
use Rattle.trace_session.proofs.session.start_all.Goals as goal

pub loop-worker-init : goal.loop-worker-init
loop-worker-init g c =
    let into = c.into_iter-worker-iterator.ensures.into_iter_gives in (
      (λ i. works_at g.I.StageIn.pair g.I.StageIn.words (c.requires.nobody.0 i) ++ map (work_of g.I.StageIn.pair g.I.StageIn.words) (into.0 i)),
      (let e = ap length into.0 in omega (arith, c.requires.nobody.1, c.requires.room, e)),
      (let e = ap length into.0 in let v = c.args.workers.ok in omega (arith, e, v.0, into.1)),
    )

pub loop-worker-preserved : goal.loop-worker-preserved
loop-worker-preserved g c =
    let (joined, room, long) = c.loop-worker.invariant in
    let next = c.in-Some.ensures.steps in
    let pushed = c.push_reserved.ensures in (
      seated g.I.StageIn.pair g.I.StageIn.words _ _ _ _ _ c.in-Some.worker _ joined next.0 c.start.ensures pushed.items,
      (let e = ap length next.0 in omega (arith, e, room, pushed.len, pushed.capacity)),
      one_less _ _ c.in-Some.worker _ _ long next.0 next.1,
    )

pub returns : goal.returns
returns g c =
    let (joined, room, long) = c.loop-worker.invariant in
    all_seated g.I.StageIn.pair g.I.StageIn.words _ _ _ joined (long ∙ c.in-None.ensures.steps.0)
