-- Steps of a worker.
use Rattle.std.proofs.Common.{◌≡◌, ℕ, zero, suc, ◌+◌, ◌-◌, ◌*◌, ◌<◌, ◌≤◌, Bool, true, false, cond, not, ◌&&◌, List, [], ◌∷◌, ◌++◌, length, get_or, take, Some, None, if◌then◌else◌, refl, sym, ap, ◌∙◌, subst, subst₂, arith}
use Rattle.std.specs.Prelude.{All, Option, filter, slice_get, sum_by}
use Rattle.std.specs.List.{AllByRecursion, cons_option, filter_map, enumerate_from}
use Rattle.std.proofs.lemmas.List.{append-nil, length-take, length-take-le, length_push, take_more, take_all}
use Rattle.std.proofs.lemmas.List.Elements.{All-push, All-weaker, filter-append}
use Rattle.std.proofs.lemmas.List.Sums.{get_or-le-sum_by, length-filter, count_by-le-length}
use Rattle.std.proofs.lemmas.Option.{same_Some, slice_get_within, slice_get-get_or, get_or_from_slice_get}
use Rattle.nl_io.specs.Count.{counted}
use Rattle.printf_grammar.specs.declared.argument.Value.{Value}
use Rattle.log_dictionary.specs.Clocks.{first_tick}
use Rattle.log_dictionary.specs.declared.severity.Severity.{Severity}
use Rattle.log_dictionary.specs.declared.message.Message.{Message}
use Rattle.session_options.specs.declared.options.Policy.TheVariants as policies
use Rattle.arg_records.specs.declared.call.Call.{Call}
use Rattle.arg_records.specs.declared.frame.TheConstants.{MAX_FRAME_WORDS}
use Rattle.arg_records.specs.Calls.{IsCall, NeverFalls, last_stamp}
use Rattle.arg_records.specs.Frames.{FrameLen}
use Rattle.arg_records.proofs.lemmas.CallLists.{last_stamp-push}
use Rattle.ring_core.specs.declared.answers.Full.{Full}
use Rattle.ring_core.specs.Answers.{IsFull}
use Rattle.ring_core.specs.Plans.{AreFramesOf}
use Rattle.ring_core.specs.Positions.{Need, Position, position_from}
use Rattle.ring_core.proofs.lemmas.Needs.{Need-most, position_from-push}
use Rattle.trace_text.specs.declared.trace.TheConstants.{MAX_CALLS}
use Rattle.trace_text.specs.Recordings.{Recording, IsRecording}
use Rattle.trace_text.proofs.lemmas.CallRuns.{all_at}
use Rattle.trace_session.specs.declared.drops.Dropped.{Dropped}
use Rattle.trace_session.specs.Levels.{keeps}
use Rattle.trace_session.specs.Drops.{is_listed, taken_call, taken_of, calls_at, position_at, released_at, LacksRoom, IsDrop}
use Rattle.trace_session.specs.Workers.{WriterTask, WorkerProgress, WriterState, task_calls, calls_before, accepted_before, kept_before, drop_of, HasWorked, HasTriedOnce, IsNextFiltered, IsNextKept, WantsRoom}
use Rattle.trace_session.proofs.Taking.{taken_calls-passed, taken_calls-accepted, taken_calls-dropped, taken_calls-same, is_listed-below, is_listed-last, is_listed-earlier, released_at-same, lawful_more}

-- ---- calls of a run that is recorded

-- a known writer has its calls
pub calls_known : (run : Recording) (writer : ℕ) → writer < length run.writers → slice_get run.writers writer ≡ Some (calls_at run writer)
calls_known run writer known = slice_get-get_or run.writers writer [] known

-- the calls at a known writer's place
pub calls_are : (run : Recording) (writer : ℕ) (calls : List Call) → slice_get run.writers writer ≡ Some calls → calls_at run writer ≡ calls
calls_are run writer calls known = get_or_from_slice_get run.writers writer calls [] known

-- what stands at a place of the calls that were found of a task's writer stands there of all its calls
pub next_found : (task : WriterTask) (run : Recording) (calls : List Call) (next : ℕ) (found : Option Call) → task.run ≡ run → slice_get run.writers task.number ≡ Some calls → slice_get calls next ≡ found
    → slice_get (task_calls task) next ≡ found
next_found task run calls next found same known is =
    let there : slice_get task.run.writers task.number ≡ Some calls = ap (λ (r : Recording). slice_get r.writers task.number) same ∙ known in
    ap (λ (l : List Call). slice_get l next) (calls_are task.run task.number calls there) ∙ is

-- the calls of a writer, and their stamps
all_called : (run : Recording) (writer : ℕ) → IsRecording run → writer < length run.writers → AllByRecursion (IsCall run.dictionary) (calls_at run writer)
all_called run writer recorded known = all_at (AllByRecursion (IsCall run.dictionary)) run.writers writer (calls_at run writer) (calls_known run writer known) recorded.calls

all_rising : (run : Recording) (writer : ℕ) → IsRecording run → writer < length run.writers → NeverFalls (first_tick run.clocks) (calls_at run writer)
all_rising run writer recorded known = all_at (NeverFalls (first_tick run.clocks)) run.writers writer (calls_at run writer) (calls_known run writer known) recorded.stamps

-- the last of the calls before a place isn't later than the call there
last_before : (least : ℕ) (calls : List Call) (place : ℕ) (call : Call) → NeverFalls least calls → slice_get calls place ≡ Some call → last_stamp least (take place calls) ≤ call.stamp
last_before least [] place call rising is = absurd cc
last_before least (first ∷ calls) zero call rising is = subst (λ (c : Call). least ≤ c.stamp) (same_Some first call is) rising.0
last_before least (first ∷ calls) (suc place) call rising is = last_before first.stamp calls place call rising.1 is

-- ---- one call more

take_next : {X : Type 0} (items : List X) (place : ℕ) (item : X) → slice_get items place ≡ Some item → take (place + 1) items ≡ take place items ++ item ∷ []
take_next {X} items place item is =
    take_more items place item (slice_get_within items place item is)
    ∙ ap (λ (x : X). take place items ++ x ∷ []) (get_or_from_slice_get items place item item is)

filter_more : {X : Type 0} (p : X → Bool) (items : List X) (item : X) (kept : Bool) → p item ≡ kept → filter p (items ++ item ∷ []) ≡ filter p items ++ cond kept (item ∷ []) []
filter_more p items item kept is = filter-append p items (item ∷ []) ∙ ap (λ (b : Bool). filter p items ++ cond b (item ∷ []) []) is

-- what a worker has behind one call more, with these drops
module _ (task : WriterTask) (progress : WorkerProgress) (call : Call) (next_is : slice_get (task_calls task) progress.next ≡ Some call) where
  before_more : take (progress.next + 1) (task_calls task) ≡ calls_before task progress ++ call ∷ []
  before_more = take_next (task_calls task) progress.next call next_is

  within_more : progress.next + 1 ≤ length (task_calls task)
  within_more = let within : progress.next < length (task_calls task) = slice_get_within (task_calls task) progress.next call next_is in omega (arith, within)

  before_length : length (calls_before task progress) ≡ progress.next
  before_length = length-take-le progress.next (task_calls task) (omega (arith, within_more))

  -- those that the level keeps
  pub kept_passed : keeps task.run.dictionary task.level call ≡ false → filter (keeps task.run.dictionary task.level) (take (progress.next + 1) (task_calls task)) ≡ kept_before task progress
  kept_passed passed =
      ap (filter (keeps task.run.dictionary task.level)) before_more
      ∙ filter_more (keeps task.run.dictionary task.level) (calls_before task progress) call false passed
      ∙ append-nil (kept_before task progress)

  kept_more : keeps task.run.dictionary task.level call ≡ true → filter (keeps task.run.dictionary task.level) (take (progress.next + 1) (task_calls task)) ≡ kept_before task progress ++ call ∷ []
  kept_more kept =
      ap (filter (keeps task.run.dictionary task.level)) before_more
      ∙ filter_more (keeps task.run.dictionary task.level) (calls_before task progress) call true kept

  -- those that were accepted
  accepted_passed : keeps task.run.dictionary task.level call ≡ false
      → taken_of task.run task.level progress.drops (task.number, take (progress.next + 1) (task_calls task)) ≡ accepted_before task progress
  accepted_passed passed =
      ap (λ (calls : List Call). taken_of task.run task.level progress.drops (task.number, calls)) before_more
      ∙ taken_calls-passed task.run.dictionary task.level (is_listed progress.drops task.number) (calls_before task progress) call passed

  accepted_more : keeps task.run.dictionary task.level call ≡ true → All (λ drop. drop.ordinal < progress.next) progress.drops
      → taken_of task.run task.level progress.drops (task.number, take (progress.next + 1) (task_calls task)) ≡ accepted_before task progress ++ call ∷ []
  accepted_more kept earlier =
      ap (λ (calls : List Call). taken_of task.run task.level progress.drops (task.number, calls)) before_more
      ∙ taken_calls-accepted task.run.dictionary task.level (is_listed progress.drops task.number) (calls_before task progress) call kept
      (ap (is_listed progress.drops task.number) before_length ∙ is_listed-below progress.drops task.number progress.next earlier)

  accepted_same : (drop : Dropped) → drop.ordinal ≡ progress.next
      → taken_of task.run task.level (progress.drops ++ drop ∷ []) (task.number, calls_before task progress) ≡ accepted_before task progress
  accepted_same drop here =
      taken_calls-same task.run.dictionary task.level (is_listed (progress.drops ++ drop ∷ []) task.number) (is_listed progress.drops task.number) (calls_before task progress)
      (λ k lower. is_listed-earlier progress.drops drop task.number k (omega (arith, lower, here, before_length)))

  accepted_dropped : (drop : Dropped) → drop.writer ≡ task.number → drop.ordinal ≡ progress.next
      → taken_of task.run task.level (progress.drops ++ drop ∷ []) (task.number, take (progress.next + 1) (task_calls task)) ≡ accepted_before task progress
  accepted_dropped drop own here =
      let listed : is_listed (progress.drops ++ drop ∷ []) task.number (length (calls_before task progress)) ≡ true =
      subst₂ (λ (writer ordinal : ℕ). is_listed (progress.drops ++ drop ∷ []) writer ordinal ≡ true) own (here ∙ sym before_length) (is_listed-last progress.drops drop) in
      ap (λ (calls : List Call). taken_of task.run task.level (progress.drops ++ drop ∷ []) (task.number, calls)) before_more
      ∙ taken_calls-dropped task.run.dictionary task.level (is_listed (progress.drops ++ drop ∷ []) task.number) (calls_before task progress) call listed
      ∙ accepted_same drop here

  -- the stamp of the last
  last_more : last_stamp (first_tick task.run.clocks) (take (progress.next + 1) (task_calls task)) ≡ call.stamp
  last_more = ap (last_stamp (first_tick task.run.clocks)) before_more ∙ last_stamp-push (first_tick task.run.clocks) (calls_before task progress) call

-- the drops before a call are before the next one too
before_next : (drops : List Dropped) (next : ℕ) → All (λ drop. drop.ordinal < next) drops → All (λ drop. drop.ordinal < next + 1) drops
before_next drops next = All-weaker (λ (d : Dropped). d.ordinal < next) (λ (d : Dropped). d.ordinal < next + 1) (λ d lower. omega (arith, lower)) drops

-- what writers know to be taken only grows
seen_more : (task : WriterTask) (words : ℕ) (drops some : List Dropped) (seen new_seen : ℕ) → seen ≤ new_seen → All (λ drop. released_at task.run task.level words drops drop ≤ seen) some
    → All (λ drop. released_at task.run task.level words drops drop ≤ new_seen) some
seen_more task words drops some seen new_seen grows =
    All-weaker (λ (d : Dropped). released_at task.run task.level words drops d ≤ seen) (λ (d : Dropped). released_at task.run task.level words drops d ≤ new_seen) (λ d below. omega (arith, below, grows)) some

-- ---- steps

-- a worker whose writer tells the same
pub worked_state : {task : WriterTask} {progress : WorkerProgress} {writer same : WriterState} → HasWorked task progress writer → same ≡ writer → HasWorked task progress same
worked_state {task} {progress} h same = subst (HasWorked task progress) (sym same) h

-- the call at the next place
pub worked_call : {task : WriterTask} {progress : WorkerProgress} {writer : WriterState} → HasWorked task progress writer → (call : Call) → slice_get (task_calls task) progress.next ≡ Some call → IsCall task.run.dictionary call
worked_call {task} {progress} h call is =
    all_at (IsCall task.run.dictionary) (task_calls task) progress.next call is (all_called task.run task.number h.recorded h.progress_is.known)

-- isn't earlier than the last one that was accepted
pub worked_last : {task : WriterTask} {progress : WorkerProgress} {writer : WriterState} → HasWorked task progress writer → (call : Call) → slice_get (task_calls task) progress.next ≡ Some call → writer.last ≤ call.stamp
worked_last {task} {progress} h call is =
    omega (arith, h.last_is, last_before (first_tick task.run.clocks) (task_calls task) progress.next call (all_rising task.run task.number h.recorded h.progress_is.known) is)

-- there are few calls
pub worked_next : {task : WriterTask} {progress : WorkerProgress} {writer : WriterState} → HasWorked task progress writer → (call : Call) → slice_get (task_calls task) progress.next ≡ Some call → progress.next + 1 ≤ MAX_CALLS
worked_next {task} {progress} h call is =
    let known : task.number < length task.run.writers = h.progress_is.known in
    omega (arith, slice_get_within (task_calls task) progress.next call is, get_or-le-sum_by length task.run.writers task.number [] known, h.recorded.few_calls)

-- a call that the level doesn't keep
pub worked_passed : {task : WriterTask} {progress : WorkerProgress} {writer : WriterState} → HasWorked task progress writer → progress.closed ≡ false → (call : Call) → slice_get (task_calls task) progress.next ≡ Some call → keeps task.run.dictionary task.level call ≡ false
    → HasWorked task (record progress { next = progress.next + 1 }) writer
worked_passed {task} {progress} {writer} h still call is passed =
    let p = h.progress_is in
    let accepted = accepted_passed task progress call is passed in
    let kept = kept_passed task progress call is passed in
    record {
      recorded = h.recorded;
      ring = h.ring;
      progress_is = record {
        known = p.known;
        within = within_more task progress call is;
        own = p.own;
        before = before_next progress.drops progress.next p.before;
        lawful = p.lawful;
        waits = p.waits;
        kept = ap (λ (calls : List Call). length calls + length progress.drops) accepted ∙ p.kept ∙ sym (ap (λ (calls : List Call). length calls) kept);
        all = λ shut. let never : true ≡ false = sym shut ∙ still in absurd cc;
      };
      plan_is = h.plan_is;
      frames = subst (AreFramesOf writer.plan writer.sent) (sym accepted) h.frames;
      placed = h.placed ∙ sym (ap (λ (calls : List Call). Position calls writer.words) accepted);
      released = h.released;
      closed_is = h.closed_is;
      last_is = omega (arith, last_more task progress call is, worked_last h call is);
      counted = h.counted;
      tried = λ sheds. h.tried sheds ∙ sym (ap (λ (calls : List Call). length calls) kept);
    }

-- one of the kept calls more
kept_longer : (task : WriterTask) (progress : WorkerProgress) (call : Call) → slice_get (task_calls task) progress.next ≡ Some call → keeps task.run.dictionary task.level call ≡ true
    → length (filter (keeps task.run.dictionary task.level) (take (progress.next + 1) (task_calls task))) ≡ length (kept_before task progress) + 1
kept_longer task progress call is keeping = ap (λ (calls : List Call). length calls) (kept_more task progress call is keeping) ∙ length_push (kept_before task progress) call

-- was tried once
tried_more : {task : WriterTask} {progress : WorkerProgress} {writer : WriterState} → HasWorked task progress writer → (call : Call) → slice_get (task_calls task) progress.next ≡ Some call → keeps task.run.dictionary task.level call ≡ true → (asked : ℕ) → asked ≡ counted writer.asked
    → HasTriedOnce task (record progress { next = progress.next + 1 }) asked
tried_more {task} {progress} {writer} h call is keeping asked more = λ sheds.
    let few : length (kept_before task progress) ≤ progress.next =
    omega (arith, length-filter (keeps task.run.dictionary task.level) (calls_before task progress), count_by-le-length (keeps task.run.dictionary task.level) (calls_before task progress), before_length task progress call is) in
    omega (arith, more, h.tried sheds, kept_longer task progress call is keeping, few, worked_next h call is)

-- what a writer tells behind a call that it accepted
abbrev pub state_accepted : WriterState → Call → List (List ℕ) → ℕ → WriterState
state_accepted writer call sent seen = record writer {
  sent = sent;
  at = writer.at + Need writer.at (FrameLen call.args) writer.words;
  seen = seen;
  last = call.stamp;
  accepted = writer.accepted + 1;
  asked = counted writer.asked;
}

-- one whose frame was accepted
pub worked_accepted : {task : WriterTask} {progress : WorkerProgress} {writer : WriterState} → HasWorked task progress writer → progress.closed ≡ false → (call : Call) → slice_get (task_calls task) progress.next ≡ Some call → keeps task.run.dictionary task.level call ≡ true
    → (sent : List (List ℕ)) (frame : List ℕ) (seen : ℕ) → writer.seen ≤ seen → AreFramesOf writer.plan sent (accepted_before task progress ++ call ∷ []) → sent ≡ writer.sent ++ frame ∷ []
    → HasWorked task (record progress { next = progress.next + 1 }) (state_accepted writer call sent seen)
worked_accepted {task} {progress} {writer} h still call is keeping sent frame seen grows frames more =
    let p = h.progress_is in
    let accepted = accepted_more task progress call is keeping p.before in
    let longer : length (taken_of task.run task.level progress.drops (task.number, take (progress.next + 1) (task_calls task))) ≡ length (accepted_before task progress) + 1 =
    ap (λ (calls : List Call). length calls) accepted ∙ length_push (accepted_before task progress) call in
    record {
      recorded = h.recorded;
      ring = h.ring;
      progress_is = record {
        known = p.known;
        within = within_more task progress call is;
        own = p.own;
        before = before_next progress.drops progress.next p.before;
        lawful = p.lawful;
        waits = p.waits;
        kept = omega (arith, longer, kept_longer task progress call is keeping, p.kept);
        all = λ shut. let never : true ≡ false = sym shut ∙ still in absurd cc;
      };
      plan_is = h.plan_is;
      frames = subst (AreFramesOf writer.plan sent) (sym accepted) frames;
      placed =
          ap (λ (n : ℕ). n + Need n (FrameLen call.args) writer.words) h.placed
          ∙ sym (position_from-push 0 (accepted_before task progress) call writer.words)
          ∙ sym (ap (λ (calls : List Call). Position calls writer.words) accepted);
      released = seen_more task writer.words progress.drops progress.drops writer.seen seen grows h.released;
      closed_is = h.closed_is;
      last_is = omega (arith, last_more task progress call is);
      counted = omega (arith, h.counted, ap (λ (frames : List (List ℕ)). length frames) more, length_push writer.sent frame);
      tried = tried_more h call is keeping (counted writer.asked) refl;
    }

-- the ring lacks room for the next call where it does for arguments that are its own
pub wants_room : {at at_now words words_now seen : ℕ} {full : Full} (task : WriterTask) (progress : WorkerProgress) (call : Call) (args : List Value) → slice_get (task_calls task) progress.next ≡ Some call → args ≡ call.args
    → IsFull at (FrameLen args) words seen full → at_now ≡ at → words_now ≡ words → WantsRoom task progress at_now words_now seen full
wants_room {at} {at_now} {words} {words_now} {seen} {full} task progress call args is own lacks same_at same_words = λ other there.
    let same : args ≡ other.args = own ∙ ap (λ (x : Call). x.args) (same_Some call other (sym is ∙ there)) in
    subst (λ (x : ℕ × List Value × ℕ). IsFull x.0 (FrameLen x.1) x.2 seen full) (λ i. (sym same_at i, same i, sym same_words i)) lacks

-- what a writer tells behind a call for which its ring lacked room
abbrev pub state_refused : WriterState → ℕ → WriterState
state_refused writer seen = record writer { seen = seen; asked = counted writer.asked }

-- one for which the ring lacked room, and that was dropped
pub worked_dropped : {task : WriterTask} {progress : WorkerProgress} {writer : WriterState} → HasWorked task progress writer → progress.closed ≡ false → (call : Call) → slice_get (task_calls task) progress.next ≡ Some call → keeps task.run.dictionary task.level call ≡ true → (task.policy ≡ policies.Wait → ⊥)
    → (seen : ℕ) (full : Full) → IsFull writer.at (FrameLen call.args) writer.words seen full → writer.seen ≤ seen
    → HasWorked task (record progress { next = progress.next + 1; drops = progress.drops ++ drop_of task progress full ∷ [] }) (state_refused writer seen)
worked_dropped {task} {progress} {writer} h still call is keeping shed seen full lacks grows =
    let p = h.progress_is in
    let words = writer.words in
    let drop = drop_of task progress full in
    let drops = progress.drops ++ drop ∷ [] in
    let accepted = accepted_dropped task progress call is drop refl refl in
    let placed : writer.at ≡ position_at task.run task.level words drops drop = h.placed ∙ sym (ap (λ (calls : List Call). Position calls words) (accepted_same task progress call is drop refl)) in
    let released : released_at task.run task.level words drops drop ≡ seen = ap (λ (n : ℕ). n - (words - full.room)) (sym placed) ∙ sym lacks.seen_is in
    let is_drop : IsDrop task.run task.level words drops drop = record {
      call = call;
      named = is;
      kept = keeping;
      lacked = subst (λ (n : ℕ). LacksRoom n (FrameLen call.args) words drop) placed (record { need = lacks.need; wanting = lacks.wanting; room = lacks.room; taken = lacks.taken });
    } in
    let olds : All (λ one. released_at task.run task.level words progress.drops one ≤ released_at task.run task.level words drops drop) progress.drops =
    λ k e within. omega (arith, h.released k e within, grows, released) in
    record {
      recorded = h.recorded;
      ring = h.ring;
      progress_is = record {
        known = p.known;
        within = within_more task progress call is;
        own = All-push (λ (d : Dropped). d.writer ≡ task.number) progress.drops drop p.own refl;
        before = All-push (λ (d : Dropped). d.ordinal < progress.next + 1) progress.drops drop (before_next progress.drops progress.next p.before) (omega arith);
        lawful = lawful_more task.run task.level words progress.drops drop p.lawful p.own p.before is_drop olds;
        waits = λ waits. absurd (shed waits);
        kept = omega (arith, ap (λ (calls : List Call). length calls) accepted, length_push progress.drops drop, kept_longer task progress call is keeping, p.kept);
        all = λ shut. let never : true ≡ false = sym shut ∙ still in absurd cc;
      };
      plan_is = h.plan_is;
      frames = subst (AreFramesOf writer.plan writer.sent) (sym accepted) h.frames;
      placed = h.placed ∙ sym (ap (λ (calls : List Call). Position calls words) accepted);
      released = All-push (λ (d : Dropped). released_at task.run task.level words drops d ≤ seen) progress.drops drop
          (λ k e within. let one = get_or progress.drops k e in
          let same : released_at task.run task.level words drops one ≡ released_at task.run task.level words progress.drops one =
          released_at-same task.run task.level words drops progress.drops one (λ j lower. is_listed-earlier progress.drops drop one.writer j (omega (arith, lower, p.before k e within))) in
          omega (arith, same, h.released k e within, grows))
          (omega (arith, released));
      closed_is = h.closed_is;
      last_is = omega (arith, last_more task progress call is, worked_last h call is);
      counted = h.counted;
      tried = tried_more h call is keeping (counted writer.asked) refl;
    }

-- ---- the end

-- where there is a call, and not one that the level doesn't keep, the level keeps it
pub kept_next : (task : WriterTask) (progress : WorkerProgress) → progress.next < length (task_calls task) → (IsNextFiltered task progress → ⊥) → IsNextKept task progress
kept_next task progress within unfiltered = either_way (keeps task.run.dictionary task.level call) refl
  where
    call : Call
    call = get_or (task_calls task) progress.next (record { stamp = 0; id = 0; args = [] })

    is : slice_get (task_calls task) progress.next ≡ Some call
    is = slice_get-get_or (task_calls task) progress.next (record { stamp = 0; id = 0; args = [] }) within

    either_way : (kept : Bool) → keeps task.run.dictionary task.level call ≡ kept → IsNextKept task progress
    either_way true keeping = (call, is, keeping)
    either_way false passing = absurd (unfiltered (call, is, passing))

-- ---- how far a worker's ring gets

-- a call's frame takes at most 1,023 places
position_from-most : (at : ℕ) (calls : List Call) (words : ℕ) → 1 ≤ words → AllByRecursion (λ call. FrameLen call.args ≤ MAX_FRAME_WORDS) calls → position_from at calls words ≤ at + 1023 * length calls
position_from-most at [] words some short = omega arith
position_from-most at (call ∷ calls) words some short =
    let others = position_from-most (at + Need at (FrameLen call.args) words) calls words some short.1 in
    omega (arith, others, Need-most at (FrameLen call.args) words some (omega (arith, short.0)))

module _ (dictionary : List Message) (level : Severity) (listed : ℕ → Bool) where
  one_fewer : (b : Bool) (call : Call) (calls : List Call) → length (cons_option (if b then Some call else None) calls) ≤ suc (length calls)
  one_fewer true call calls = omega arith
  one_fewer false call calls = omega arith

  -- no more calls are taken than there are
  taken_fewer : (from : ℕ) (calls : List Call) → length (filter_map (taken_call dictionary level listed) (enumerate_from from calls)) ≤ length calls
  taken_fewer from [] = omega arith
  taken_fewer from (call ∷ calls) =
      let others = taken_fewer (from + 1) calls in
      omega (
        arith,
        others,
        one_fewer (keeps dictionary level call && not (listed from)) call (filter_map (taken_call dictionary level listed) (enumerate_from (from + 1) calls)),
      )

  one_of : (P : Call → Type 0) (b : Bool) (call : Call) (calls : List Call) → P call → AllByRecursion P calls → AllByRecursion P (cons_option (if b then Some call else None) calls)
  one_of P true call calls here others = (here, others)
  one_of P false call calls here others = others

  -- what holds of all calls holds of those that are taken
  taken_of_all : (P : Call → Type 0) (from : ℕ) (calls : List Call) → AllByRecursion P calls → AllByRecursion P (filter_map (taken_call dictionary level listed) (enumerate_from from calls))
  taken_of_all P from [] all = tt
  taken_of_all P from (call ∷ calls) all =
      one_of P (keeps dictionary level call && not (listed from)) call (filter_map (taken_call dictionary level listed) (enumerate_from (from + 1) calls)) all.0 (taken_of_all P (from + 1) calls all.1)

first_short : (dictionary : List Message) (n : ℕ) (calls : List Call) → AllByRecursion (IsCall dictionary) calls → AllByRecursion (λ call. FrameLen call.args ≤ MAX_FRAME_WORDS) (take n calls)
first_short dictionary zero calls all = tt
first_short dictionary (suc n) [] all = tt
first_short dictionary (suc n) (call ∷ calls) all = (all.0.short, first_short dictionary n calls all.1)

-- no more calls were accepted than a run may have
pub worked_few : {task : WriterTask} {progress : WorkerProgress} {writer : WriterState} → HasWorked task progress writer
    → length (accepted_before task progress) ≤ MAX_CALLS
worked_few {task} {progress} h =
    let all = task_calls task in
    let fewer = taken_fewer task.run.dictionary task.level (is_listed progress.drops task.number) 0 (calls_before task progress) in
    let front : length (take progress.next all) ≤ length all = omega (arith, length-take progress.next all) in
    let known : task.number < length task.run.writers = h.progress_is.known in
    let one : length all ≤ sum_by length task.run.writers = get_or-le-sum_by length task.run.writers task.number [] known in
    omega (arith, fewer, front, one, h.recorded.few_calls)

-- the position is far from the last one
pub worked_position : {task : WriterTask} {progress : WorkerProgress} {writer : WriterState} → HasWorked task progress writer
    → writer.at + 1024 ≤ 4611686018427387904
worked_position {task} {progress} {writer} h =
    let all = all_called task.run task.number h.recorded h.progress_is.known in
    let short = taken_of_all task.run.dictionary task.level (is_listed progress.drops task.number) (λ call. FrameLen call.args ≤ MAX_FRAME_WORDS) 0 (calls_before task progress)
    (first_short task.run.dictionary progress.next (task_calls task) all) in
    let some : 1 ≤ writer.words = omega (arith, h.ring.0) in
    let most : Position (accepted_before task progress) writer.words ≤ 0 + 1023 * length (accepted_before task progress) = position_from-most 0 (accepted_before task progress) writer.words some short in
    let few : length (accepted_before task progress) ≤ MAX_CALLS = worked_few h in
    omega (arith, h.placed, most, few)

-- ---- a worker that has done all calls

-- those that were accepted are those of all calls that are taken
pub worked_all : {task : WriterTask} {progress : WorkerProgress} {writer : WriterState} → HasWorked task progress writer
    → progress.next ≡ length (task_calls task) → accepted_before task progress ≡ taken_of task.run task.level progress.drops (task.number, task_calls task)
worked_all {task} {progress} h all =
    ap (λ (calls : List Call). taken_of task.run task.level progress.drops (task.number, calls)) (take_all progress.next (task_calls task) (omega (arith, all)))
