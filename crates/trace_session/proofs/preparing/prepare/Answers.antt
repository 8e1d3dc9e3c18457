use Rattle.std.proofs.Common.{◌≡◌, ℕ, false, List, map, length, ap, ◌∙◌, arith}
use Rattle.std.specs.Arc.{arc_value}
use Rattle.std.proofs.lemmas.List.{length-map}
use Rattle.std.proofs.lemmas.Result.{IfErr-at_err}
use Rattle.log_dictionary.specs.Clocks.{first_tick}
use Rattle.arg_records.proofs.lemmas.Walks.{zip_first}
use Rattle.roaming_consumer.proofs.lemmas.OnePlace.{zip_second}
use Rattle.ring_core.specs.Plans.{Plan, plan_of}
use Rattle.roaming_consumer.specs.Roamers.{ends_of}
use Rattle.trace_text.specs.Recordings.{Recording}
use Rattle.log_session.specs.Writers.{WriterView}
use Rattle.trace_session.specs.Workers.{Work, work_of}
use Rattle.trace_session.specs.Finishing.{works_of}
use Rattle.trace_session.specs.Running.{IsNewWriter}
use Rattle.trace_session.proofs.NewWorkers.{zip_maps, works_count}
use Rattle.trace_session.proofs.preparing.prepare.Goals as goal

pub make_workers-requires-clause-new : goal.make_workers-requires-clause-new
make_workers-requires-clause-new g c κs within =
    let run = arc_value c.args.trace.now in
    let dictionary_is = ap (λ (r : Recording). r.dictionary) (c.behind-trace-4.view_is ∙ c.deref-4.ensures) in
    let tick_is : first_tick c.behind-trace-3.inside.clocks ≡ first_tick run.clocks = ap (λ (r : Recording). first_tick r.clocks) (c.behind-trace-3.view_is ∙ c.deref-3.ensures) in
    let plan_is : plan_of c.behind-trace-4.inside.dictionary (first_tick c.behind-trace-3.inside.clocks) ≡ plan_of run.dictionary (first_tick run.clocks) = λ i. plan_of (dictionary_is i) (tick_is i) in
    let is_new = IsNewWriter c.args.options.now.ring (plan_of run.dictionary (first_tick run.clocks)) g.S.In.StageIn.words g.S.In.StageIn.plan g.S.In.StageIn.sent g.S.In.StageIn.closed g.S.In.StageIn.at g.S.In.StageIn.seen in
    zip_first _ is_new
    (λ writer end ring. record { size_is = ring.size_is; plan_is = ring.plan_is ∙ plan_is; unused = ring.unused; new = record { last = ring.new.last ∙ ap (λ (plan : Plan). plan.first) plan_is; accepted = ring.new.accepted; unasked = ring.new.unasked } })
    c.in_ok-writers.writers.items (ends_of c.in_ok-writers.roamer) c.in_ok-writers.ensures.rings

pub returns-in-Ok-clause-bad_size : goal.returns-in-Ok-clause-bad_size
returns-in-Ok-clause-bad_size g c = (λ is. absurd (IfErr-at_err (λ _. ⊥) is tt), λ bad. absurd (IfErr-at_err (λ _. ⊥) (c.in_ok-writers.ensures.bad_size.1 bad) tt))

pub returns-in-Ok-clause-ready : goal.returns-in-Ok-clause-ready
returns-in-Ok-clause-ready g c =
    let run = arc_value c.args.trace.now in
    let options = c.args.options.now in
    let pair = λ (writer : WriterView g.row.S-In.Denot). g.S.In.StageIn.pair writer.end in
    let writers = c.in_ok-writers.writers.items in
    let ends = ends_of c.in_ok-writers.roamer in
    let started = c.in_ok-writers.ensures in
    let works : map (work_of g.S.In.StageIn.pair g.S.In.StageIn.words) c.in-Ok.workers.items ≡ works_of run options (map pair writers) = c.in-Ok.ensures in
    let same : map pair writers ≡ map g.S.Out.StageOut.pair ends = zip_maps _ pair g.S.Out.StageOut.pair (λ writer end ring. ring.one_ring) writers ends started.rings in
    let many : length writers ≡ length run.writers =
    omega (arith, started.count, c.len-writers.ensures, ap (λ (r : Recording). length r.writers) (c.behind-trace.view_is ∙ c.deref.ensures)) in
    record {
      works_are = works ∙ ap (λ (pairs : List (List ℕ)). works_of run options pairs) same;
      count = ap (λ (l : List Work). length l) works ∙ works_count run options (map pair writers) ∙ length-map {B = List ℕ} writers pair ∙ many;
      planned = started.planned;
      messages = started.run.0 ∙ ap (λ (r : Recording). r.dictionary) (c.behind-trace-4.view_is ∙ c.deref-4.ensures);
      version = started.run.1 ∙ ap (λ (r : Recording). r.version) (c.behind-trace-2.view_is ∙ c.deref-2.ensures);
      clocks = started.run.2 ∙ ap (λ (r : Recording). r.clocks) (c.behind-trace-3.view_is ∙ c.deref-3.ensures);
      batch = started.run.3;
      unfaulted = started.flags.1;
    }

pub returns-in-Ok-clause-fresh : goal.returns-in-Ok-clause-fresh
returns-in-Ok-clause-fresh g c = zip_second _ (λ end. g.S.Out.StageOut.ended end ≡ false) (λ writer end ring. ring.not_ended) _ _ c.in_ok-writers.ensures.rings
