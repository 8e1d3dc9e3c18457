-- From what a session's parts say at its end to what the session came to.
use Rattle.std.proofs.Common.{◌≡◌, ℕ, suc, ◌+◌, ◌-◌, ◌<◌, ◌≤◌, Bool, true, false, List, [], ◌∷◌, ◌++◌, map, length, take, drop, refl, sym, ap, ◌∙◌, subst, append_assoc, arith}
use Rattle.std.specs.Prelude.{All, Some, filter, slice_get, sum_by}
use Rattle.std.specs.List.{AllZip, each_same, enumerate_from}
use Rattle.std.proofs.lemmas.List.{append-nil, map-append, length-map, take_all, take_at}
use Rattle.std.proofs.lemmas.List.Sums.{sum_by-cons}
use Rattle.std.proofs.lemmas.Option.{slice_get_within}
use Rattle.log_dictionary.specs.Clocks.{first_tick}
use Rattle.log_dictionary.specs.declared.clock.Clock.{Clock}
use Rattle.log_dictionary.specs.declared.message.Message.{Message}
use Rattle.log_dictionary.specs.declared.severity.Severity.{Severity}
use Rattle.arg_records.specs.declared.call.Call.{Call}
use Rattle.checkpoint_io.specs.Validity.{IsClosed}
use Rattle.checkpoint_io.specs.Logs.{LogOf}
use Rattle.nl_io.specs.Content.{Told}
use Rattle.session_options.specs.declared.options.Options.{Options}
use Rattle.ring_core.specs.Plans.{Plan, plan_of, frames_of, frame_of, AreFramesOf}
use Rattle.ring_core.proofs.lemmas.OneReading.{AreFramesOf-unique}
use Rattle.roaming_consumer.specs.declared.roamer.Roamer.{Roamer}
use Rattle.roaming_consumer.specs.Roamers.{ends_of, roamer_messages, roamer_version, roamer_clocks, roamer_clock, roamer_batch, is_faulted, plan_of_roamer, FramesAreTaken, IsSameRun, RoamerStandsFor}
use Rattle.roaming_consumer.proofs.lemmas.Marking.{closed_log}
use Rattle.trace_text.specs.Recordings.{Recording}
use Rattle.trace_session.specs.declared.drops.Dropped.{Dropped}
use Rattle.trace_session.specs.Levels.{keeps, Kept}
use Rattle.trace_session.specs.Drops.{taken_of, Taken, LawfulDrops, call_count}
use Rattle.trace_session.specs.declared.outcome.Outcome.{Outcome}
use Rattle.trace_session.specs.Finishing.{work_at, works_of, taken_front, HasSent, FinishedView, AreDone}
use Rattle.trace_session.proofs.Ready.{tick_of}
use Rattle.trace_session.proofs.NewWorkers.{works_count}
use Rattle.trace_session.proofs.Leaving.{fewer_kept}
use Rattle.trace_session.specs.Rounds.{Roams, IsOverUpTo}
use Rattle.trace_session.specs.Running.{AreReady}
use Rattle.trace_session.specs.Sessions.{IsWholeLog, IsSession}
use Rattle.log_session.specs.Settling.{IsRejoined, AllZip3}
use Rattle.trace_session.specs.declared.workplace.Workplace.{Workplace}
use Rattle.trace_session.specs.Workplaces.{worker_of, works_at}
use Rattle.trace_session.specs.Workers.{Work, WorkerView, work_of, IsSameWork}
use Rattle.log_session.specs.Writers.{WriterView}

-- ---- counts

pub kept_within : (run : Recording) (level : Severity) → call_count (Kept run level) ≤ call_count run.writers
kept_within run level = fewer_kept (keeps run.dictionary level) run.writers

-- ---- where all writers are done

pub front_of_all : (run : Recording) (level : Severity) (drops : List Dropped) (count : ℕ) → count ≡ length run.writers → taken_front run level drops count ≡ Taken run level drops
front_of_all run level drops count all = ap (λ (l : List (List Call)). map (taken_of run level drops) (enumerate_from 0 l)) (take_all count run.writers (omega (arith, all)))

pub kept_of_all : (run : Recording) (level : Severity) (count : ℕ) → count ≡ length run.writers → take count (Kept run level) ≡ Kept run level
kept_of_all run level count all = take_all count (Kept run level) (omega (arith, all, length-map run.writers (filter (keeps run.dictionary level))))

-- ---- what is left of the rings

-- each of the ends from this number on has ended
abbrev pub AllEnded : {O : Type 0} → (O → Bool) → List O → Type 0
AllEnded ended ends = (writer : ℕ) (end : _) → slice_get ends writer ≡ Some end → ended end ≡ true

module _ {S O D : Type 0} (plan : Plan) (sent : S → List (List ℕ)) (closed : S → Bool) (got : O → List (List ℕ)) (ended : O → Bool) (sent_left got_left : D → List (List ℕ)) (closed_left ended_left : D → Bool) where
  abbrev pub Rejoined : WriterView S → O → D → Type 0
  Rejoined = IsRejoined sent closed got ended sent_left got_left closed_left ended_left

  whole_of : (writer : WriterView S) (end : O) (left : D) (calls : List Call) → Rejoined writer end left → HasSent plan sent closed writer calls → ended end ≡ true → got end ≡ sent writer.end
  whole_of writer end left calls joined has over = joined.whole has.closed_is over

  pub sent_frames : (writers : List (WriterView S)) (ends : List O) (left : List D) (taken : List (List Call)) → AllZip3 Rejoined writers ends left → AllZip (HasSent plan sent closed) writers taken → map sent_left left ≡ map frames_of taken
  sent_frames [] [] [] [] joined has = refl
  sent_frames [] [] [] (calls ∷ taken) joined has = absurd has
  sent_frames [] [] (d ∷ left) taken joined has = absurd joined
  sent_frames [] (e ∷ ends) left taken joined has = absurd joined
  sent_frames (w ∷ writers) [] left taken joined has = absurd joined
  sent_frames (w ∷ writers) (e ∷ ends) [] taken joined has = absurd joined
  sent_frames (w ∷ writers) (e ∷ ends) (d ∷ left) [] joined has = absurd has
  sent_frames (w ∷ writers) (e ∷ ends) (d ∷ left) (calls ∷ taken) joined has =
      let here : sent_left d ≡ frames_of calls = joined.0.sent_is ∙ has.0.frames.frames_are in
      let others = sent_frames writers ends left taken joined.1 has.1 in
      λ i. here i ∷ others i

  tail_ended : (e : O) (ends : List O) → AllEnded ended (e ∷ ends) → AllEnded ended ends
  tail_ended e ends all = λ writer end is. all (suc writer) end is

  pub got_frames : (writers : List (WriterView S)) (ends : List O) (left : List D) (taken : List (List Call)) → AllZip3 Rejoined writers ends left → AllZip (HasSent plan sent closed) writers taken → AllEnded ended ends → map got_left left ≡ map frames_of taken
  got_frames [] [] [] [] joined has over = refl
  got_frames [] [] [] (calls ∷ taken) joined has over = absurd has
  got_frames [] [] (d ∷ left) taken joined has over = absurd joined
  got_frames [] (e ∷ ends) left taken joined has over = absurd joined
  got_frames (w ∷ writers) [] left taken joined has over = absurd joined
  got_frames (w ∷ writers) (e ∷ ends) [] taken joined has over = absurd joined
  got_frames (w ∷ writers) (e ∷ ends) (d ∷ left) [] joined has over = absurd has
  got_frames (w ∷ writers) (e ∷ ends) (d ∷ left) (calls ∷ taken) joined has over =
      let here : got_left d ≡ frames_of calls = joined.0.got_is ∙ whole_of w e d calls joined.0 has.0 (over 0 e refl) ∙ has.0.frames.frames_are in
      let others = got_frames writers ends left taken joined.1 has.1 (tail_ended e ends over) in
      λ i. here i ∷ others i

  -- the frames that were taken are those of the calls that were logged
  pub got_all : (writers : List (WriterView S)) (ends : List O) (left : List D) (taken : List (List Call)) → AllZip3 Rejoined writers ends left → AllZip (HasSent plan sent closed) writers taken → AllEnded ended ends → FramesAreTaken plan got ends taken
  got_all [] [] [] [] joined has over = tt
  got_all [] [] [] (calls ∷ taken) joined has over = absurd has
  got_all [] [] (d ∷ left) taken joined has over = absurd joined
  got_all [] (e ∷ ends) left taken joined has over = absurd joined
  got_all (w ∷ writers) [] left taken joined has over = absurd joined
  got_all (w ∷ writers) (e ∷ ends) [] taken joined has over = absurd joined
  got_all (w ∷ writers) (e ∷ ends) (d ∷ left) [] joined has over = absurd has
  got_all (w ∷ writers) (e ∷ ends) (d ∷ left) (calls ∷ taken) joined has over =
      let whole = whole_of w e d calls joined.0 has.0 (over 0 e refl) in
      (subst (λ (frames : List (List ℕ)). AreFramesOf plan frames calls) (sym whole) has.0.frames, got_all writers ends left taken joined.1 has.1 (tail_ended e ends over))

-- two lists beside the same list
pub zip_meet : {A B C : Type 0} (R : A → B → Type 0) (Q : A → C → Type 0) (P : B → C → Type 0) (items : List A) (ours : List B) (theirs : List C) → AllZip R items ours → AllZip Q items theirs → ((item : A) (our : B) (their : C) → R item our → Q item their → P our their) → AllZip P ours theirs
zip_meet R Q P [] [] [] left right meet = tt
zip_meet R Q P [] [] (z ∷ theirs) left right meet = absurd right
zip_meet R Q P [] (y ∷ ours) theirs left right meet = absurd left
zip_meet R Q P (x ∷ items) [] theirs left right meet = absurd left
zip_meet R Q P (x ∷ items) (y ∷ ours) [] left right meet = absurd right
zip_meet R Q P (x ∷ items) (y ∷ ours) (z ∷ theirs) left right meet = (meet x y z left.0 right.0, zip_meet R Q P items ours theirs left.1 right.1 meet)

-- how many frames were taken is how many calls were
pub frames_counted : {D : Type 0} (got : D → List (List ℕ)) (left : List D) (taken : List (List Call)) → map got left ≡ map frames_of taken → sum_by (λ done. length (got done)) left ≡ call_count taken
frames_counted got [] [] same = refl
frames_counted got [] (calls ∷ taken) same = absurd cc
frames_counted got (d ∷ left) [] same = absurd cc
frames_counted got (d ∷ left) (calls ∷ taken) same =
    let here : got d ≡ frames_of calls = cc same in
    let others : map got left ≡ map frames_of taken = cc same in
    let one : length (got d) ≡ length calls = ap length here ∙ length-map calls frame_of in
    omega (arith, sum_by-cons (λ (done : _). length (got done)) d left, sum_by-cons length calls taken, one, frames_counted got left taken others)

-- ---- the log

-- the log of calls, of a dictionary, a version, clocks and a batch, with a close mark of each writer
abbrev LogWith : List ℕ → List (List Call) × List Message × ℕ × List Clock × ℕ → Type 0
LogWith bytes (taken, messages, version, clocks, batch) = (log : LogOf bytes taken messages version clocks batch) × ((writer : ℕ) → writer < length taken → IsClosed writer log.blocks)

pub whole_log : {S O D : Type 0} (sent : S → List (List ℕ)) (closed : S → Bool) (got : O → List (List ℕ)) (ended : O → Bool) (pair : O → List ℕ) (plan : O → Plan) (sent_left got_left : D → List (List ℕ)) (closed_left ended_left : D → Bool)
    (run : Recording) (options : Options) (works : List Work) (old new : Roamer O) (put put_after : Told) (faults faults_after : ℕ) (bytes : List ℕ) (writers : List (WriterView S)) (left : List D) (taken : List (List Call))
    → AreReady pair plan run options works old → Roams got ended pair plan old new put put_after faults faults_after → IsOverUpTo ended (length (ends_of new)) new → is_faulted new ≡ false → RoamerStandsFor got ended new bytes
    → AllZip3 (IsRejoined sent closed got ended sent_left got_left closed_left ended_left) writers (ends_of new) left → AllZip (HasSent (plan_of run.dictionary (first_tick run.clocks)) sent closed) writers taken
    → IsWholeLog run options.batch taken bytes
whole_log {S} {O} {D} sent closed got ended pair plan sent_left got_left closed_left ended_left run options works old new put put_after faults faults_after bytes writers left taken ready roams over right stands joined has =
    let log = closed_log got ended new bytes stands roams.begun right (λ writer within. over.marked right writer within) in
    let messages : roamer_messages new ≡ run.dictionary = roams.same_run.messages ∙ ready.messages in
    let version : roamer_version new ≡ run.version = roams.same_run.version ∙ ready.version in
    let clocks : roamer_clocks new ≡ run.clocks = roams.same_run.clocks ∙ ready.clocks in
    let tick : (roamer_clock new).tick ≡ first_tick run.clocks = tick_of new run.clocks clocks in
    let batch : roamer_batch new ≡ options.batch = roams.same_run.batch ∙ ready.batch in
    let plan_is : plan_of_roamer new ≡ plan_of run.dictionary (first_tick run.clocks) = λ i. plan_of (messages i) (tick i) in
    let frames = subst (λ (p : Plan). FramesAreTaken p got (ends_of new) log.taken) plan_is log.frames in
    let all : AllEnded ended (ends_of new) = λ writer end is. over.ends writer end (slice_get_within (ends_of new) writer end is) is in
    let is_frame = λ (end : O) (calls : List Call). AreFramesOf (plan_of run.dictionary (first_tick run.clocks)) (got end) calls in
    let got_taken = got_all (plan_of run.dictionary (first_tick run.clocks)) sent closed got ended sent_left got_left closed_left ended_left writers (ends_of new) left taken joined has all in
    let same : log.taken ≡ taken =
    each_same taken log.taken (zip_meet is_frame is_frame (λ calls other. other ≡ calls) (ends_of new) taken log.taken got_taken frames (λ end calls other is other_is. AreFramesOf-unique (plan_of run.dictionary (first_tick run.clocks)) (got end) other calls other_is is)) in
    let is : LogWith bytes (log.taken, roamer_messages new, roamer_version new, roamer_clocks new, roamer_batch new) = (log.log, log.closed) in
    let whole : LogWith bytes (taken, run.dictionary, run.version, run.clocks, options.batch) = subst (LogWith bytes) (λ i. (same i, messages i, version i, clocks i, batch i)) is in
    record { lawful = whole.0; closed = whole.1 }

-- ---- workplaces

-- one worker more has a workplace
pub seated : {S G : Type 0} (pair : S → List ℕ) (words : S → ℕ) (workplaces after : List (Workplace S G)) (rest more all : List (WorkerView S)) (worker : WorkerView S) (workplace : Workplace S G)
    → works_at pair words workplaces ++ map (work_of pair words) rest ≡ map (work_of pair words) all → rest ≡ worker ∷ more → IsSameWork pair words worker (worker_of workplace) → after ≡ workplaces ++ workplace ∷ []
    → works_at pair words after ++ map (work_of pair words) more ≡ map (work_of pair words) all
seated {S} {G} pair words workplaces after rest more all worker workplace joined is same pushed =
    let work : Workplace S G → Work = λ s. work_of pair words (worker_of s) in
    let works : works_at pair words after ≡ works_at pair words workplaces ++ work_of pair words worker ∷ [] =
    ap (map work) pushed ∙ map-append work workplaces (workplace ∷ []) ∙ ap (λ (w : Work). works_at pair words workplaces ++ w ∷ []) same in
    ap (λ (l : List Work). l ++ map (work_of pair words) more) works
    ∙ append_assoc (works_at pair words workplaces) (work_of pair words worker ∷ []) (map (work_of pair words) more)
    ∙ ap (λ (l : List (WorkerView S)). works_at pair words workplaces ++ map (work_of pair words) l) (sym is)
    ∙ joined

pub all_seated : {S G : Type 0} (pair : S → List ℕ) (words : S → ℕ) (workplaces : List (Workplace S G)) (rest all : List (WorkerView S))
    → works_at pair words workplaces ++ map (work_of pair words) rest ≡ map (work_of pair words) all → length rest ≡ 0 → works_at pair words workplaces ≡ map (work_of pair words) all
all_seated pair words workplaces [] all joined none = sym (append-nil (works_at pair words workplaces)) ∙ joined
all_seated pair words workplaces (worker ∷ rest) all joined none = absurd (omega arith)

-- ---- what a session's parts bring each other

-- what the workers work on has the rings
pub pairs_of_works : (run : Recording) (options : Options) (from : ℕ) (pairs : List (List ℕ)) → map (λ (w : Work). w.pair) (map (work_at run options) (enumerate_from from pairs)) ≡ pairs
pairs_of_works run options from [] = refl
pairs_of_works run options from (pair ∷ pairs) = ap (λ (l : List (List ℕ)). pair ∷ l) (pairs_of_works run options (from + 1) pairs)

pub rebuilt : (run : Recording) (options : Options) (pairs : List (List ℕ)) (works : List Work) → works ≡ works_of run options pairs → works ≡ works_of run options (map (λ (w : Work). w.pair) works)
rebuilt run options pairs works are = are ∙ ap (works_of run options) (sym (ap (map (λ (w : Work). w.pair)) are ∙ pairs_of_works run options 0 pairs))

pub pairs_are : (run : Recording) (options : Options) (pairs : List (List ℕ)) (works : List Work) → works ≡ works_of run options pairs → map (λ (w : Work). w.pair) works ≡ pairs
pairs_are run options pairs works are = ap (map (λ (w : Work). w.pair)) are ∙ pairs_of_works run options 0 pairs

pub ends_count : {O : Type 0} (pair : O → List ℕ) (plan : O → Plan) (run : Recording) (options : Options) (works : List Work) (roamer : Roamer O) → AreReady pair plan run options works roamer → length works ≡ length (ends_of roamer)
ends_count pair plan run options works roamer ready = ap length ready.works_are ∙ works_count run options (map pair (ends_of roamer)) ∙ length-map (ends_of roamer) pair

pub zip_from_maps : {A B C : Type 0} (f : A → C) (h : B → C) (xs : List A) (ys : List B) → map f xs ≡ map h ys → AllZip (λ x y. f x ≡ h y) xs ys
zip_from_maps f h [] [] same = tt
zip_from_maps f h [] (y ∷ ys) same = absurd cc
zip_from_maps f h (x ∷ xs) [] same = absurd cc
zip_from_maps f h (x ∷ xs) (y ∷ ys) same = (cc same, zip_from_maps f h xs ys (cc same))

pub as_many_seats : {S G : Type 0} (pair : S → List ℕ) (words : S → ℕ) (workplaces others : List (Workplace S G)) → works_at pair words workplaces ≡ works_at pair words others → length workplaces ≡ length others
as_many_seats {S} {G} pair words workplaces others same =
    let work : Workplace S G → Work = λ workplace. work_of pair words (worker_of workplace) in
    sym (length-map workplaces work) ∙ ap length same ∙ length-map others work

-- workplaces that were lent and written back work on what they did
pub works_kept : {S G : Type 0} (pair : S → List ℕ) (words : S → ℕ) (starts lent workplaces : List (Workplace S G)) (len : ℕ) (works : List Work) → works_at pair words starts ≡ works → lent ≡ starts → length lent ≡ len
    → works_at pair words workplaces ≡ works_at pair words lent → works_at pair words (take len (workplaces ++ drop (length workplaces) starts)) ≡ works
works_kept pair words starts lent workplaces len works started value many same =
    ap (works_at pair words) (take_at workplaces (drop (length workplaces) starts) len (as_many_seats pair words workplaces lent same ∙ many))
    ∙ same
    ∙ ap (works_at pair words) value
    ∙ started

-- ---- counts of a session

pub accepted_counted : {S : Type 0} (plan : Plan) (sent : S → List (List ℕ)) (closed : S → Bool) (writers : List (WriterView S)) (taken : List (List Call)) → AllZip (HasSent plan sent closed) writers taken → sum_by (λ (w : WriterView S). w.accepted) writers ≡ call_count taken
accepted_counted plan sent closed [] [] has = refl
accepted_counted plan sent closed [] (calls ∷ taken) has = absurd has
accepted_counted plan sent closed (w ∷ writers) [] has = absurd has
accepted_counted plan sent closed (w ∷ writers) (calls ∷ taken) has =
    omega (arith, sum_by-cons (λ (x : WriterView _). x.accepted) w writers, sum_by-cons length calls taken, has.0.counted, accepted_counted plan sent closed writers taken has.1)

-- The workers of a run's writers are all done: what was kept of them was begun for the run, and here are its parts.
pub all_done : {S : Type 0} (sent : S → List (List ℕ)) (closed : S → Bool) (begun kept : FinishedView S) (run : Recording) (options : Options) (drops : List Dropped) (writers : List (WriterView S))
    → begun ≡ (record { run = run; options = options; drops = []; writers = [] }) → (kept.run ≡ begun.run) × (kept.options ≡ begun.options) → drops ≡ kept.drops → writers ≡ kept.writers
    → AreDone sent closed kept → length kept.writers ≡ length kept.run.writers
    → AreDone sent closed (record { run = run; options = options; drops = drops; writers = writers }) × (length writers ≡ length run.writers)
all_done {S} sent closed begun kept run options drops writers free same drops_are writers_are done all =
    let run_is = same.0 ∙ ap (λ (v : FinishedView S). v.run) free in
    let options_are = same.1 ∙ ap (λ (v : FinishedView S). v.options) free in
    let view : kept ≡ record { run = run; options = options; drops = drops; writers = writers } = λ i. record { run = run_is i; options = options_are i; drops = sym drops_are i; writers = sym writers_are i } in
    subst (λ (v : FinishedView S). AreDone sent closed v × (length v.writers ≡ length v.run.writers)) view (done, all)

module _ {S : Type 0} (sent : S → List (List ℕ)) (closed : S → Bool) (run : Recording) (options : Options) (drops : List Dropped) (writers : List (WriterView S))
    (done : AreDone sent closed (record { run = run; options = options; drops = drops; writers = writers })) (all : length writers ≡ length run.writers) where
  pub all_sent : AllZip (HasSent (plan_of run.dictionary (first_tick run.clocks)) sent closed) writers (Taken run options.level drops)
  all_sent = subst (AllZip (HasSent (plan_of run.dictionary (first_tick run.clocks)) sent closed) writers) (front_of_all run options.level drops (length writers) all) done.sent_are

  pub all_counted : call_count (Taken run options.level drops) + length drops ≡ call_count (Kept run options.level)
  all_counted =
      sym (ap (λ (l : List (List Call)). call_count l + length drops) (front_of_all run options.level drops (length writers) all))
      ∙ done.kept
      ∙ ap call_count (kept_of_all run options.level (length writers) all)

  pub taken_within : call_count (Taken run options.level drops) + length drops ≤ call_count run.writers
  taken_within = omega (arith, all_counted, kept_within run options.level)

  pub few_accepted : sum_by (λ (w : WriterView S). w.accepted) writers ≤ call_count run.writers
  few_accepted = omega (arith, accepted_counted (plan_of run.dictionary (first_tick run.clocks)) sent closed writers (Taken run options.level drops) all_sent, taken_within)

pub all_ended : {O : Type 0} (ended : O → Bool) (roamer : Roamer O) → IsOverUpTo ended (length (ends_of roamer)) roamer → AllEnded ended (ends_of roamer)
all_ended ended roamer over = λ writer end is. over.ends writer end (slice_get_within (ends_of roamer) writer end is) is

-- ---- the session

module _ {S O D : Type 0} (sent : S → List (List ℕ)) (closed : S → Bool) (got : O → List (List ℕ)) (ended : O → Bool) (sent_left got_left : D → List (List ℕ)) (closed_left ended_left : D → Bool)
    (run : Recording) (options : Options) (new : Roamer O) (drops : List Dropped) (writers : List (WriterView S)) (left : List D)
    (over : IsOverUpTo ended (length (ends_of new)) new) (done : AreDone sent closed (record { run = run; options = options; drops = drops; writers = writers })) (all : length writers ≡ length run.writers)
    (joined : AllZip3 (IsRejoined sent closed got ended sent_left got_left closed_left ended_left) writers (ends_of new) left) where
  pub taken_counted : sum_by (λ (d : D). length (got_left d)) left ≡ call_count (Taken run options.level drops)
  taken_counted =
      frames_counted got_left left (Taken run options.level drops)
      (got_frames (plan_of run.dictionary (first_tick run.clocks)) sent closed got ended sent_left got_left closed_left ended_left writers (ends_of new) left (Taken run options.level drops)
      joined (all_sent sent closed run options drops writers done all) (all_ended ended new over))

  -- with the drops these are no more than the calls of the run
  pub taken_few : sum_by (λ (d : D). length (got_left d)) left + length drops ≤ call_count run.writers
  taken_few = omega (arith, taken_counted, taken_within sent closed run options drops writers done all)

  pub session_is : (pair : O → List ℕ) (plan : O → Plan) (works : List Work) (old : Roamer O) (put put_after : Told) (faults faults_after : ℕ) (bytes : List ℕ) (outcome : Outcome D)
      → AreReady pair plan run options works old → Roams got ended pair plan old new put put_after faults faults_after → is_faulted new ≡ false → RoamerStandsFor got ended new bytes
      → outcome.drops ≡ drops → outcome.settled.items ≡ left → outcome.accepted ≡ sum_by (λ (d : D). length (got_left d)) left → outcome.filtered ≡ call_count run.writers - outcome.accepted - length drops
      → IsSession sent_left got_left run options outcome bytes
  session_is pair plan works old put put_after faults faults_after bytes outcome ready roams right stands drops_are settled accepted filtered =
      let plan_is = plan_of run.dictionary (first_tick run.clocks) in
      let has = all_sent sent closed run options drops writers done all in
      let counted = all_counted sent closed run options drops writers done all in
      let count : outcome.accepted ≡ call_count (Taken run options.level drops) = accepted ∙ taken_counted in
      let taken : Taken run options.level outcome.drops ≡ Taken run options.level drops = ap (Taken run options.level) drops_are in
      record {
        dropped = subst (LawfulDrops run options.level options.ring) (sym drops_are) done.lawful;
        waits = λ waits. drops_are ∙ done.waits waits;
        log =
            subst (λ (l : List (List Call)). IsWholeLog run options.batch l bytes) (sym taken)
            (whole_log sent closed got ended pair plan sent_left got_left closed_left ended_left run options works old new put put_after faults faults_after bytes writers left (Taken run options.level drops)
            ready roams over right stands joined has);
        counts = record {
          all_kept = omega (arith, count, counted, ap length drops_are);
          all_calls = omega (arith, count, counted, filtered, kept_within run options.level);
        };
        settled = record {
          sent_are =
              ap (map sent_left) settled
              ∙ sent_frames plan_is sent closed got ended sent_left got_left closed_left ended_left writers (ends_of new) left (Taken run options.level drops) joined has
              ∙ sym (ap (map frames_of) taken);
          got_are =
              ap (map got_left) settled
              ∙ got_frames plan_is sent closed got ended sent_left got_left closed_left ended_left writers (ends_of new) left (Taken run options.level drops) joined has (all_ended ended new over)
              ∙ sym (ap (map frames_of) taken);
        };
      }

-- ---- how a session begins

-- what is ready before the header is ready behind it
pub ready_begun : {O : Type 0} (pair : O → List ℕ) (plan : O → Plan) (run same_run : Recording) (options : Options) (works : List Work) (old new : Roamer O) → AreReady pair plan run options works old
    → same_run ≡ run → ends_of new ≡ ends_of old → IsSameRun old new → is_faulted new ≡ false → AreReady pair plan same_run options works new
ready_begun {O} pair plan run same_run options works old new ready is ends same right =
    let plan_is : plan_of_roamer new ≡ plan_of_roamer old = λ i. plan_of (same.messages i) (same.clock i).tick in
    subst (λ (r : Recording). AreReady pair plan r options works new) (sym is) (record {
      works_are = ready.works_are ∙ ap (λ (e : List O). works_of run options (map pair e)) (sym ends);
      count = ready.count;
      planned = subst (λ (x : Plan × List O). All (λ end. plan end ≡ x.0) x.1) (λ i. (sym plan_is i, sym ends i)) ready.planned;
      messages = same.messages ∙ ready.messages;
      version = same.version ∙ ready.version;
      clocks = same.clocks ∙ ready.clocks;
      batch = same.batch ∙ ready.batch;
      unfaulted = right;
    })
