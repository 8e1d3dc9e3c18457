use Rattle.std.proofs.Common.{rules, ◌≡◌, ◌+◌, List, [], ◌∷◌, ◌++◌, Some, Err, true, false, inr, map, map-id, refl, subst, sym, ap, ◌∙◌, arith}
use Rattle.std.specs.Prelude.{slice_get}
use Rattle.std.proofs.lemmas.Option.{same_Some, slice_get_within}
use Rattle.nl_io.specs.Count.{Rose}
use Rattle.printf_grammar.specs.declared.argument.Value.{Value}
use Rattle.printf_grammar.specs.Types.{Types, Fits}
use Rattle.log_dictionary.specs.Clocks.{first_tick}
use Rattle.session_options.specs.declared.options.Policy.TheVariants as policies
use Rattle.arg_records.specs.declared.call.Call.{Call}
use Rattle.arg_records.specs.Frames.{FrameLen}
use Rattle.ring_core.specs.Answers.{IsFull}
use Rattle.ring_core.specs.Plans.{Plan, AreFramesOf, call_of}
use Rattle.ring_core.specs.Positions.{Need}
use Rattle.log_session.specs.declared.refusal.LogRefusal.{LogRefusal}
use Rattle.log_session.specs.Writers.{Knows, IfRefusedFull, knows_taken}
use Rattle.trace_session.specs.declared.drops.Dropped.{Dropped}
use Rattle.trace_session.specs.Levels.{keeps}
use Rattle.trace_session.specs.Workers.{WorkerView, state_of, HasWorked, IsNextKept, task_calls, accepted_before}
use Rattle.trace_session.specs.Turns.{TriesCall}
use Rattle.trace_session.specs.WorkerInside.{worker_task, worker_progress_of}
use Rattle.trace_session.proofs.Working.{worked_call, worked_last, worked_position, worked_accepted, worked_dropped, worked_state, state_accepted, state_refused, wants_room, next_found}
use Rattle.trace_session.proofs.worker.Worker.log_or_shed.Goals as goal

pub log-requires-clause-known : goal.log-requires-clause-known
log-requires-clause-known g c =
    let task = worker_task c.self.inside in
    let call = c.call-call.result.now in
    let is : slice_get (task_calls task) c.self.inside.next ≡ Some call = next_found task _ _ _ _ (sym (c.behind-self.view_is ∙ c.deref.ensures)) c.calls.ensures c.call-call.ensures in
    let values : map (λ (value : Value). value) c.as_slice.result.now ≡ call.args = map-id c.as_slice.result.now ∙ c.as_slice.ensures.values in
    let good = worked_call c.self.invariant.0 call is in
    let fits = subst (λ (args : List Value). Fits args (Types good.message.format.pieces)) (sym values) good.fits in
    subst (λ (plan : Plan). Knows plan call.id (map (λ (value : Value). value) c.as_slice.result.now)) (sym c.self.invariant.0.plan_is)
    (knows_taken task.run.dictionary (first_tick task.run.clocks) call.id _ (good.message, good.known, fits))

pub log-requires-clause-not_before : goal.log-requires-clause-not_before
log-requires-clause-not_before g c =
    let task = worker_task c.self.inside in
    let call = c.call-call.result.now in
    let is : slice_get (task_calls task) c.self.inside.next ≡ Some call = next_found task _ _ _ _ (sym (c.behind-self.view_is ∙ c.deref.ensures)) c.calls.ensures c.call-call.ensures in
    worked_last c.self.invariant.0 call is

pub log-requires-clause-position : goal.log-requires-clause-position
log-requires-clause-position g c = worked_position c.self.invariant.0

pub invariant_of-self : goal.invariant_of-self
invariant_of-self g c =
    let task = worker_task c.self.inside in
    let call = c.call-call.result.now in
    let is : slice_get (task_calls task) c.self.inside.next ≡ Some call = next_found task _ _ _ _ (sym (c.behind-self.view_is ∙ c.deref.ensures)) c.calls.ensures c.call-call.ensures in
    let values : map (λ (value : Value). value) c.as_slice.result.now ≡ call.args = map-id c.as_slice.result.now ∙ c.as_slice.ensures.values in
    let progress = worker_progress_of c.self.inside in
    let end = c.self.inside.writer.end in
    let new_end = c.log.new.self.end in
    let logged = c.in-Ok.ensures in
    let worked = c.self.invariant.0 in
    let next = subst (λ (w : WorkerView g.row.S.Denot). IsNextKept w.task w.progress) (sym c.self.view_is) c.requires.next in
    let same : next.0 ≡ call = same_Some next.0 call (sym next.1 ∙ is) in
    let keeping = ap (λ (x : Call). keeps task.run.dictionary task.level x) (sym same) ∙ next.2 in
    let still = ap (λ (w : WorkerView g.row.S.Denot). w.progress.closed) c.self.view_is ∙ c.requires.unfinished in
    let whole : call_of call.stamp call.id (map (λ (value : Value). value) c.as_slice.result.now) ≡ call = λ i. record { stamp = call.stamp; id = call.id; args = values i } in
    let frames = subst (λ (x : Plan × Call). AreFramesOf x.0 (g.S.StageIn.sent new_end) (accepted_before task progress ++ x.1 ∷ [])) (λ i. (logged.same.same_plan i, whole i)) (logged.accepted (accepted_before task progress) worked.frames) in
    let moved : g.S.StageIn.at new_end ≡ g.S.StageIn.at end + Need (g.S.StageIn.at end) (FrameLen call.args) (g.S.StageIn.words end) =
    logged.moved ∙ ap (λ (v : List Value). g.S.StageIn.at end + Need (g.S.StageIn.at end) (FrameLen v) (g.S.StageIn.words end)) values in
    let stays : g.S.StageIn.closed new_end ≡ g.S.StageIn.closed end = logged.stays_open ∙ sym (worked.closed_is ∙ still) in
    let told : state_of g.S.StageIn.plan g.S.StageIn.words g.S.StageIn.sent g.S.StageIn.at g.S.StageIn.seen g.S.StageIn.closed c.log.new.self ≡ state_accepted (state_of g.S.StageIn.plan g.S.StageIn.words g.S.StageIn.sent g.S.StageIn.at g.S.StageIn.seen g.S.StageIn.closed c.self.inside.writer) call (g.S.StageIn.sent new_end) (g.S.StageIn.seen new_end) = λ i. record {
      plan = logged.same.same_plan i;
      words = logged.same.same_words i;
      sent = g.S.StageIn.sent new_end;
      at = moved i;
      seen = g.S.StageIn.seen new_end;
      closed = stays i;
      last = logged.counted.0 i;
      accepted = logged.counted.1 i;
      asked = logged.asked i;
    } in (
      worked_state (worked_accepted worked still call is keeping (g.S.StageIn.sent new_end) _ (g.S.StageIn.seen new_end) logged.seen_never_falls frames logged.ok) told,
      λ shed. let room = c.self.invariant.1 shed in omega (arith, room),
    )

pub unreachable-requires : goal.unreachable-requires
unreachable-requires g c =
    let task = worker_task c.self.inside in
    let call = c.call-call.result.now in
    let is : slice_get (task_calls task) c.self.inside.next ≡ Some call = next_found task _ _ _ _ (sym (c.behind-self.view_is ∙ c.deref.ensures)) c.calls.ensures c.call-call.ensures in
    let values : map (λ (value : Value). value) c.as_slice.result.now ≡ call.args = map-id c.as_slice.result.now ∙ c.as_slice.ensures.values in
    let long = c.in-Err-TooLong.ensures.too_long.0 (ap Err c.in-Err-TooLong.field-0-is) in
    omega (arith, long, ap FrameLen values, (worked_call c.self.invariant.0 call is).short)

pub push_reserved-requires : goal.push_reserved-requires
push_reserved-requires g c =
    let sheds : c.self.inside.policy ≡ policies.Shed = let e = c.eq.ensures in let f = c.if-eq.false in search rules in
    let next = subst (λ (w : WorkerView g.row.S.Denot). IsNextKept w.task w.progress) (sym c.self.view_is) c.requires.next in
    let within = slice_get_within (task_calls (worker_task c.self.inside)) c.self.inside.next next.0 next.1 in
    omega (arith, c.self.invariant.1 sheds, within)

pub invariant_of-self-in-Err-Full : goal.invariant_of-self-in-Err-Full
invariant_of-self-in-Err-Full g c =
    let sheds : c.self.inside.policy ≡ policies.Shed = let e = c.eq.ensures in let f = c.if-eq.false in search rules in
    let task = worker_task c.self.inside in
    let call = c.call-call.result.now in
    let is : slice_get (task_calls task) c.self.inside.next ≡ Some call = next_found task _ _ _ _ (sym (c.behind-self.view_is ∙ c.deref.ensures)) c.calls.ensures c.call-call.ensures in
    let values : map (λ (value : Value). value) c.as_slice.result.now ≡ call.args = map-id c.as_slice.result.now ∙ c.as_slice.ensures.values in
    let progress = worker_progress_of c.self.inside in
    let end = c.self.inside.writer.end in
    let new_end = c.log.new.self.end in
    let refused = c.in-Err-Full.ensures in
    let full : IsFull (g.S.StageIn.at end) (FrameLen (map (λ (value : Value). value) c.as_slice.result.now)) (g.S.StageIn.words end) (g.S.StageIn.seen new_end) c.in-Err-Full.full =
    subst (λ (x : LogRefusal). IfRefusedFull x (IsFull (g.S.StageIn.at end) (FrameLen (map (λ (value : Value). value) c.as_slice.result.now)) (g.S.StageIn.words end) (g.S.StageIn.seen new_end))) c.in-Err-Full.field-0-is refused.full in
    let next = subst (λ (w : WorkerView g.row.S.Denot). IsNextKept w.task w.progress) (sym c.self.view_is) c.requires.next in
    let still = ap (λ (w : WorkerView g.row.S.Denot). w.progress.closed) c.self.view_is ∙ c.requires.unfinished in
    let worked = worked_dropped c.self.invariant.0 still next.0 next.1 next.2 (λ waits. let never = sym waits ∙ sheds in absurd cc) (g.S.StageIn.seen new_end) c.in-Err-Full.full (wants_room task progress call _ is values full refl refl next.0 next.1) refused.seen_never_falls in
    let stays : g.S.StageIn.closed new_end ≡ g.S.StageIn.closed end = refused.stays_open ∙ sym (c.self.invariant.0.closed_is ∙ still) in
    let told : state_of g.S.StageIn.plan g.S.StageIn.words g.S.StageIn.sent g.S.StageIn.at g.S.StageIn.seen g.S.StageIn.closed c.log.new.self ≡ state_refused (state_of g.S.StageIn.plan g.S.StageIn.words g.S.StageIn.sent g.S.StageIn.at g.S.StageIn.seen g.S.StageIn.closed c.self.inside.writer) (g.S.StageIn.seen new_end) = λ i. record {
      plan = refused.same.same_plan i;
      words = refused.same.same_words i;
      sent = refused.err.0 i;
      at = refused.err.1 i;
      seen = g.S.StageIn.seen new_end;
      closed = stays i;
      last = refused.err.2 i;
      accepted = refused.err.3 i;
      asked = refused.asked i;
    } in
    let within = slice_get_within (task_calls task) c.self.inside.next next.0 next.1 in (
      subst (λ (drops : List Dropped). HasWorked task (record { next = c.self.inside.next + 1; drops = drops; closed = c.self.inside.closed }) (state_of g.S.StageIn.plan g.S.StageIn.words g.S.StageIn.sent g.S.StageIn.at g.S.StageIn.seen g.S.StageIn.closed c.log.new.self))
          (sym c.push_reserved.ensures.items) (worked_state worked told),
      λ shed. let room = c.self.invariant.1 shed in omega (arith, room, within, c.push_reserved.ensures.len, c.push_reserved.ensures.capacity),
    )

pub returns-else-eq-clause-tried : goal.returns-else-eq-clause-tried
returns-else-eq-clause-tried g c =
    let sheds : c.self.inside.policy ≡ policies.Shed = let e = c.eq.ensures in let f = c.if-eq.false in search rules in
    let task = worker_task c.self.inside in
    let call = c.call-call.result.now in
    let is : slice_get (task_calls task) c.self.inside.next ≡ Some call = next_found task _ _ _ _ (sym (c.behind-self.view_is ∙ c.deref.ensures)) c.calls.ensures c.call-call.ensures in
    let values : map (λ (value : Value). value) c.as_slice.result.now ≡ call.args = map-id c.as_slice.result.now ∙ c.as_slice.ensures.values in
    let progress = worker_progress_of c.self.inside in
    let end = c.self.inside.writer.end in
    let new_end = c.log.new.self.end in
    let refused = c.in-Err-Full.ensures in
    let full : IsFull (g.S.StageIn.at end) (FrameLen (map (λ (value : Value). value) c.as_slice.result.now)) (g.S.StageIn.words end) (g.S.StageIn.seen new_end) c.in-Err-Full.full =
    subst (λ (x : LogRefusal). IfRefusedFull x (IsFull (g.S.StageIn.at end) (FrameLen (map (λ (value : Value). value) c.as_slice.result.now)) (g.S.StageIn.words end) (g.S.StageIn.seen new_end))) c.in-Err-Full.field-0-is refused.full in
    let new : WorkerView g.row.S.Denot = record {
      task = task;
      writer = c.log.new.self;
      progress = record progress { next = c.self.inside.next + 1; drops = c.push_reserved.new.self.items };
    } in
    subst (λ (w : WorkerView g.row.S.Denot). TriesCall g.S.StageIn.at g.S.StageIn.words g.S.StageIn.seen g.S.StageIn.looks w new true) c.self.view_is (record {
      next = subst (λ (w : WorkerView g.row.S.Denot). IsNextKept w.task w.progress) (sym c.self.view_is) c.requires.next;
      once = refused.asked;
      answer = λ _. inr (record {
        sheds = sheds;
        looked = subst (λ (x : LogRefusal). IfRefusedFull x (λ _. Rose (g.S.StageIn.looks end) (g.S.StageIn.looks new_end))) c.in-Err-Full.field-0-is refused.looked;
        full = c.in-Err-Full.full;
        lacked = wants_room task progress call _ is values full refused.err.1 refused.same.same_words;
        progress_is = λ i. record { next = c.self.inside.next + 1; drops = c.push_reserved.ensures.items i; closed = c.self.inside.closed };
      });
      none = λ never. let no : true ≡ false = never in absurd cc;
    })
