use Rattle.std.proofs.Common.{List, [], ◌∷◌, ◌++◌, map, length, sym, ap, subst, ◌∙◌, arith}
use Rattle.std.specs.Prelude.{All}
use Rattle.std.specs.Arc.{arc_value}
use Rattle.log_dictionary.specs.Clocks.{first_tick}
use Rattle.ring_core.specs.Plans.{plan_of}
use Rattle.log_session.specs.Writers.{WriterView}
use Rattle.trace_session.specs.Workers.{work_of}
use Rattle.trace_session.specs.Finishing.{works_of}
use Rattle.trace_session.specs.Running.{IsNewWriter}
use Rattle.arg_records.proofs.lemmas.Walks.{walked, walked_all, one_less, all_next}
use Rattle.trace_session.proofs.NewWorkers.{workers_count, workers_more, fewer_seen}
use Rattle.trace_session.proofs.preparing.make_workers.Goals as goal

pub loop-writer-init : goal.loop-writer-init
loop-writer-init g c =
    let run = arc_value c.args.trace.now in
    let is_new = IsNewWriter c.args.options.now.ring (plan_of run.dictionary (first_tick run.clocks)) g.S.StageIn.words g.S.StageIn.plan g.S.StageIn.sent g.S.StageIn.closed g.S.StageIn.at g.S.StageIn.seen in
    let into = c.into_iter-writer-iterator.ensures.into_iter_gives in (
      [],
      into.0,
      ap (map (work_of g.S.StageIn.pair g.S.StageIn.words)) c.in_ok-workers.ensures.items,
      subst (All is_new) (sym into.0) c.requires.new,
      (let e = ap length into.0 in let v = c.args.writers.ok in omega (arith, e, v.0, into.1)),
    )

pub add_worker-requires-clause-few : goal.add_worker-requires-clause-few
add_worker-requires-clause-few g c κs within = c.requires.few

pub add_worker-requires-clause-known : goal.add_worker-requires-clause-known
add_worker-requires-clause-known g c κs within =
    let (seen, joined, are, new, long) = c.loop-writer.invariant in
    let pair = λ (writer : WriterView g.row.S.Denot). g.S.StageIn.pair writer.end in
    let count = workers_count (arc_value c.args.trace.now) c.args.options.now pair (work_of g.S.StageIn.pair g.S.StageIn.words) seen c.loop-writer.workers.items are in
    let fewer = fewer_seen seen _ _ _ c.in-Some.writer _ joined c.in-Some.ensures.steps.0 c.requires.count in
    omega (arith, count, fewer)

pub add_worker-requires-clause-ring : goal.add_worker-requires-clause-ring
add_worker-requires-clause-ring g c κs within = c.requires.ring

pub add_worker-requires-clause-new : goal.add_worker-requires-clause-new
add_worker-requires-clause-new g c κs within =
    let (seen, joined, are, new, long) = c.loop-writer.invariant in
    let run = arc_value c.args.trace.now in
    let is_new = IsNewWriter c.args.options.now.ring (plan_of run.dictionary (first_tick run.clocks)) g.S.StageIn.words g.S.StageIn.plan g.S.StageIn.sent g.S.StageIn.closed g.S.StageIn.at g.S.StageIn.seen in
    (all_next is_new _ _ c.in-Some.writer c.in-Some.ensures.steps.0 new).0

pub loop-writer-preserved : goal.loop-writer-preserved
loop-writer-preserved g c =
    let (seen, joined, are, new, long) = c.loop-writer.invariant in
    let run = arc_value c.args.trace.now in
    let pair = λ (writer : WriterView g.row.S.Denot). g.S.StageIn.pair writer.end in
    let is_new = IsNewWriter c.args.options.now.ring (plan_of run.dictionary (first_tick run.clocks)) g.S.StageIn.words g.S.StageIn.plan g.S.StageIn.sent g.S.StageIn.closed g.S.StageIn.at g.S.StageIn.seen in
    let next = c.in-Some.ensures.steps in (
      seen ++ c.in-Some.writer ∷ [],
      walked seen _ _ _ c.in-Some.writer joined next.0,
      workers_more run c.args.options.now pair (work_of g.S.StageIn.pair g.S.StageIn.words) seen c.in-Some.writer _ _ are c.in_ok-add_worker.ensures,
      (all_next is_new _ _ c.in-Some.writer next.0 new).1,
      one_less _ _ c.in-Some.writer _ _ long next.0 next.1,
    )

pub returns : goal.returns
returns g c =
    let (seen, joined, are, new, long) = c.loop-writer.invariant in
    are
    ∙ ap (λ (l : List (WriterView g.row.S.Denot)). works_of (arc_value c.args.trace.now) c.args.options.now (map (λ writer. g.S.StageIn.pair writer.end) l))
    (walked_all seen _ _ joined (long ∙ c.in-None.ensures.steps.0))
