-- What the first writers of a run leave, and what those leave with one writer more.
use Rattle.std.proofs.Common.{rules, ◌≡◌, ℕ, ◌+◌, ◌<◌, ◌≤◌, Bool, true, List, [], ◌∷◌, ◌++◌, map, length, take, drop, get_or, refl, sym, ap, subst, ◌∙◌, arith}
use Rattle.std.specs.Prelude.{All, filter}
use Rattle.std.specs.List.{AllZip, enumerate_from}
use Rattle.std.proofs.lemmas.List.{append-nil, length-append, length-map, length-take-le, length_push, map-append, take-map, take_all, take_more}
use Rattle.std.proofs.lemmas.List.Elements.{All-append, All-weaker}
use Rattle.std.proofs.lemmas.List.Sums.{sum_by-append, sum_by-cons, sum_by-take-le, sum_by_push, length-filter, count_by-le-length}
use Rattle.std.proofs.lemmas.Slice.Zip.{all_zipped_more}
use Rattle.log_dictionary.specs.Clocks.{first_tick}
use Rattle.log_dictionary.specs.declared.severity.Severity.{Severity}
use Rattle.session_options.specs.declared.options.Options.{Options}
use Rattle.session_options.specs.declared.options.Policy.{Policy}
use Rattle.session_options.specs.declared.options.Policy.TheVariants.{Wait, Shed}
use Rattle.arg_records.specs.declared.call.Call.{Call}
use Rattle.ring_core.specs.Plans.{Plan, plan_of, frame_of, AreFramesOf}
use Rattle.trace_text.specs.Recordings.{Recording}
use Rattle.trace_session.specs.declared.drops.Dropped.{Dropped}
use Rattle.trace_session.specs.Levels.{keeps, Kept}
use Rattle.trace_session.specs.Drops.{taken_of, calls_at, call_count, LawfulDrops}
use Rattle.trace_session.specs.Workers.{WorkerProgress, WorkerView, WriterTask, Work, task_calls, accepted_before, kept_before, HasWorked, state_of, work_of}
use Rattle.trace_session.specs.Finishing.{task_at, work_at, works_of, taken_front, HasSent, FinishedView, AreDone}
use Rattle.log_session.specs.Writers.{WriterView}
use Rattle.trace_session.proofs.Taking.{numbered_push, lawful_append, taken_of-before, taken_of-own}
use Rattle.trace_session.proofs.Working.{worked_all}

-- ---- all calls

-- the calls of one writer more are within those of all
pub calls_within : (seen rest left all : List (List Call)) (calls : List Call) (most : ℕ) → seen ++ rest ≡ all → rest ≡ calls ∷ left → call_count all ≤ most → call_count seen + length calls ≤ most
calls_within seen rest left all calls most joined next few =
    let whole : seen ++ calls ∷ left ≡ all = sym (ap (λ (r : List (List Call)). seen ++ r) next) ∙ joined in
    omega (arith, few, ap (λ (l : List (List Call)). call_count l) whole, sum_by-append length seen (calls ∷ left), sum_by-cons length calls left)

-- a level keeps no more calls than there are
pub fewer_kept : (p : Call → Bool) (writers : List (List Call)) → call_count (map (filter p) writers) ≤ call_count writers
fewer_kept p [] = omega arith
fewer_kept p (calls ∷ writers) =
    omega (
      arith,
      sum_by-cons length calls writers,
      sum_by-cons length (filter p calls) (map (filter p) writers),
      length-filter p calls,
      count_by-le-length p calls,
      fewer_kept p writers,
    )

-- ---- the calls that are taken of the first writers

-- functions that give the same of each numbered item
map_same : {X Y : Type 0} (f g : ℕ × X → Y) (from : ℕ) (items : List X) → ((k : ℕ) (x : X) → k < from + length items → f (k, x) ≡ g (k, x)) → map f (enumerate_from from items) ≡ map g (enumerate_from from items)
map_same f g from [] same = refl
map_same f g from (x ∷ items) same =
    let here = same from x (omega arith) in
    let others = map_same f g (from + 1) items (λ k y below. same k y (omega (arith, below))) in
    λ i. here i ∷ others i

module _ (run : Recording) (level : Severity) where
  take_writer : (n : ℕ) → n < length run.writers → take (n + 1) run.writers ≡ take n run.writers ++ calls_at run n ∷ []
  take_writer n known = take_more run.writers n [] known

  -- drops of a later writer change nothing
  taken_front-same : (drops more : List Dropped) (n : ℕ) → n ≤ length run.writers → All (λ one. one.writer ≡ n) more → taken_front run level (drops ++ more) n ≡ taken_front run level drops n
  taken_front-same drops more n within own =
      map_same (taken_of run level (drops ++ more)) (taken_of run level drops) 0 (take n run.writers)
      (λ k calls below. taken_of-before run level drops more n k calls own (omega (arith, below, length-take-le n run.writers within)))

  -- one writer more, with its drops
  pub taken_front-more : (drops more : List Dropped) (n : ℕ) → n < length run.writers → All (λ one. one.writer < n) drops → All (λ one. one.writer ≡ n) more
      → taken_front run level (drops ++ more) (n + 1) ≡ taken_front run level drops n ++ taken_of run level more (n, calls_at run n) ∷ []
  taken_front-more drops more n known below own =
      let all = taken_of run level (drops ++ more) in
      let place : 0 + length (take n run.writers) ≡ n = omega (arith, length-take-le n run.writers (omega (arith, known))) in
      let before = taken_front-same drops more n (omega (arith, known)) own in
      ap (λ (l : List (List Call)). map all (enumerate_from 0 l)) (take_writer n known)
      ∙ ap (λ (l : List (ℕ × List Call)). map all l) (numbered_push 0 (take n run.writers) (calls_at run n))
      ∙ map-append all (enumerate_from 0 (take n run.writers)) ((0 + length (take n run.writers), calls_at run n) ∷ [])
      ∙ ap (λ (k : ℕ). taken_front run level (drops ++ more) n ++ all (k, calls_at run n) ∷ []) place
      ∙ ap (λ (l : List (List Call)). l ++ all (n, calls_at run n) ∷ []) before
      ∙ ap (λ (l : List Call). taken_front run level drops n ++ l ∷ []) (taken_of-own run level drops more n (calls_at run n) below)

  -- the calls that the level keeps of one writer more
  kept-more : (n : ℕ) → n < length run.writers → take (n + 1) (Kept run level) ≡ take n (Kept run level) ++ filter (keeps run.dictionary level) (calls_at run n) ∷ []
  kept-more n known =
      let kept = filter (keeps run.dictionary level) in
      take-map kept (n + 1) run.writers
      ∙ ap (λ (l : List (List Call)). map kept l) (take_writer n known)
      ∙ map-append kept (take n run.writers) (calls_at run n ∷ [])
      ∙ ap (λ (l : List (List Call)). l ++ kept (calls_at run n) ∷ []) (sym (take-map kept n run.writers))

-- ---- what writers leave

both_none : (drops more : List Dropped) → drops ≡ [] → more ≡ [] → drops ++ more ≡ []
both_none drops more none no_more = λ i. none i ++ no_more i

-- with one writer more, whose worker has done all calls
done_more : {S : Type 0} (plan : S → Plan) (words : S → ℕ) (sent : S → List (List ℕ)) (at seen : S → ℕ) (closed : S → Bool) (done : FinishedView S) (writer : WriterView S) (progress : WorkerProgress)
    → AreDone sent closed done → HasWorked (task_at done.run done.options (length done.writers)) progress (state_of plan words sent at seen closed writer) → words writer.end ≡ done.options.ring → progress.closed ≡ true
    → AreDone sent closed (record done { drops = done.drops ++ progress.drops; writers = done.writers ++ writer ∷ [] })
done_more {S} plan words sent at seen closed done writer progress were worked ring shut =
    let run = done.run in
    let level = done.options.level in
    let n = length done.writers in
    let task : WriterTask = task_at run done.options n in
    let p = worked.progress_is in
    let more = progress.drops in
    let after = done.writers ++ writer ∷ [] in
    let longer : length after ≡ n + 1 = length_push done.writers writer in
    let calls = taken_of run level more (n, calls_at run n) in
    let all : accepted_before task progress ≡ calls = worked_all worked (p.all shut) in
    let whole : kept_before task progress ≡ filter (keeps run.dictionary level) (calls_at run n) =
    ap (λ (l : List Call). filter (keeps run.dictionary level) l) (take_all progress.next (task_calls task) (omega (arith, p.all shut))) in
    let run_plan = plan_of run.dictionary (first_tick run.clocks) in
    let frames : AreFramesOf run_plan (sent writer.end) calls =
    subst (AreFramesOf run_plan (sent writer.end)) all (subst (λ (x : Plan). AreFramesOf x (sent writer.end) (accepted_before task progress)) worked.plan_is worked.frames) in
    let lawful : LawfulDrops run level done.options.ring more = subst (λ (size : ℕ). LawfulDrops run level size more) ring p.lawful in
    let fronts : taken_front run level (done.drops ++ more) (length after) ≡ taken_front run level done.drops n ++ calls ∷ [] =
    ap (λ (k : ℕ). taken_front run level (done.drops ++ more) k) longer ∙ taken_front-more run level done.drops more n p.known were.before p.own in
    let sum_taken : call_count (taken_front run level (done.drops ++ more) (length after)) ≡ call_count (taken_front run level done.drops n) + length calls =
    ap (λ (l : List (List Call)). call_count l) fronts ∙ sum_by_push length (taken_front run level done.drops n) calls in
    let kept : take (length after) (Kept run level) ≡ take n (Kept run level) ++ filter (keeps run.dictionary level) (calls_at run n) ∷ [] =
    ap (λ (k : ℕ). take k (Kept run level)) longer ∙ kept-more run level n p.known in
    let sum_kept : call_count (take (length after) (Kept run level)) ≡ call_count (take n (Kept run level)) + length (filter (keeps run.dictionary level) (calls_at run n)) =
    ap (λ (l : List (List Call)). call_count l) kept ∙ sum_by_push length (take n (Kept run level)) (filter (keeps run.dictionary level) (calls_at run n)) in
    record {
      within = omega (arith, longer, p.known);
      lawful = lawful_append run level done.options.ring n done.drops more were.lawful were.before lawful p.own;
      before = All-append (λ (d : Dropped). d.writer < length after) done.drops more
          (All-weaker (λ (d : Dropped). d.writer < n) (λ (d : Dropped). d.writer < length after) (λ d lower. omega (arith, lower, longer)) done.drops were.before)
          (All-weaker (λ (d : Dropped). d.writer ≡ n) (λ (d : Dropped). d.writer < length after) (λ d own. omega (arith, own, longer)) more p.own);
      waits = λ waits. both_none done.drops more (were.waits waits) (p.waits waits);
      sent_are = subst (AllZip (HasSent run_plan sent closed) after) (sym fronts)
          (all_zipped_more (HasSent run_plan sent closed) done.writers (taken_front run level done.drops n) writer calls were.sent_are (record {
            frames = frames;
            closed_is = worked.closed_is ∙ shut;
            counted = worked.counted ∙ ap (λ (l : List (List ℕ)). length l) frames.frames_are ∙ length-map {B = List ℕ} calls frame_of;
          }));
      kept = omega (
        arith,
        sum_taken,
        sum_kept,
        length-append done.drops more,
        ap (λ (l : List Call). length l) all,
        ap (λ (l : List Call). length l) whole,
        p.kept,
        were.kept,
      );
      tried = λ sheds.
          let one : writer.asked ≡ length (filter (keeps run.dictionary level) (calls_at run n)) = worked.tried sheds ∙ ap (λ (l : List Call). length l) whole in
          map-append (λ (w : WriterView S). w.asked) done.writers (writer ∷ [])
          ∙ (λ i. were.tried sheds i ++ one i ∷ [])
          ∙ sym (map-append length (take n (Kept run level)) (filter (keeps run.dictionary level) (calls_at run n) ∷ []))
          ∙ ap (λ (l : List (List Call)). map length l) (sym kept);
    }

-- ---- what a worker leaves

-- What the worker of the next writer leaves is put to what others left, and there is such a writer.
pub done_add : {S : Type 0} (pair : S → List ℕ) (plan : S → Plan) (words : S → ℕ) (sent : S → List (List ℕ)) (at seen : S → ℕ) (closed : S → Bool) (done view : FinishedView S) (worker : WorkerView S) (writer : WriterView S) (more : List Dropped)
    → done ≡ view → AreDone sent closed done → (p : List ℕ) × (work_of pair words worker ≡ work_at view.run view.options (length view.writers, p)) → worker.progress.closed ≡ true
    → HasWorked worker.task worker.progress (state_of plan words sent at seen closed worker.writer) → writer ≡ worker.writer → more ≡ worker.progress.drops
    → AreDone sent closed (record done { drops = done.drops ++ more; writers = done.writers ++ writer ∷ [] }) × (length done.writers < length done.run.writers)
done_add {S} pair plan words sent at seen closed done view worker writer more same were next shut worked writer_is drops_are =
    let here = subst (λ (v : FinishedView S). (p : List ℕ) × (work_of pair words worker ≡ work_at v.run v.options (length v.writers, p))) (sym same) next in
    let task_is : worker.task ≡ task_at done.run done.options (length done.writers) = ap (λ (w : Work). w.task) here.1 in
    let words_are : words worker.writer.end ≡ done.options.ring = ap (λ (w : Work). w.words) here.1 in
    let at_task = subst (λ (task : WriterTask). HasWorked task worker.progress (state_of plan words sent at seen closed worker.writer)) task_is worked in
    let all = done_more plan words sent at seen closed done worker.writer worker.progress were at_task words_are shut in (
      subst (λ (x : List Dropped × WriterView S). AreDone sent closed (record done { drops = done.drops ++ x.0; writers = done.writers ++ x.1 ∷ [] })) (λ i. (sym drops_are i, sym writer_is i)) all,
      at_task.progress_is.known,
    )

-- the same drops and writers
pub done_same : {S : Type 0} (sent : S → List (List ℕ)) (closed : S → Bool) (done : FinishedView S) (drops new_drops : List Dropped) (writers new_writers : List (WriterView S))
    → AreDone sent closed (record done { drops = drops; writers = writers }) → new_drops ≡ drops → new_writers ≡ writers → AreDone sent closed (record done { drops = new_drops; writers = new_writers })
done_same {S} sent closed done drops new_drops writers new_writers are drops_are writers_are =
    subst (λ (x : List Dropped × List (WriterView S)). AreDone sent closed (record done { drops = x.0; writers = x.1 })) (λ i. (sym drops_are i, sym writers_are i)) are

-- ---- room

fits : (policy : Policy) (drops : List Dropped) (all room : ℕ) → (policy ≡ Wait → drops ≡ []) → (policy ≡ Shed → all ≤ room) → length drops ≤ all → length drops ≤ room
fits Wait drops all room waits sheds few = omega (arith, ap (λ (l : List Dropped). length l) (waits refl))
fits Shed drops all room waits sheds few = omega (arith, sheds refl, few)

-- where there is room for all calls, there is room for the drops
pub drops_fit : {S : Type 0} (sent : S → List (List ℕ)) (closed : S → Bool) (done : FinishedView S) (room : ℕ) → AreDone sent closed done → (done.options.policy ≡ Shed → call_count done.run.writers ≤ room)
    → length done.drops ≤ room
drops_fit sent closed done room are sheds =
    let kept = Kept done.run done.options.level in
    let few : length done.drops ≤ call_count done.run.writers =
    omega (arith, are.kept, sum_by-take-le length kept (length done.writers), fewer_kept (keeps done.run.dictionary done.options.level) done.run.writers) in
    fits done.options.policy done.drops (call_count done.run.writers) room are.waits sheds few

-- ---- works, one after the other

-- the work behind these is that of the next writer
work_from : (run : Recording) (options : Options) (from : ℕ) (pairs : List (List ℕ)) (seen back : List Work) (work : Work) → map (work_at run options) (enumerate_from from pairs) ≡ seen ++ work ∷ back
    → (p : List ℕ) × (work ≡ work_at run options (from + length seen, p))
work_from run options from [] [] back work is = absurd cc
work_from run options from [] (first ∷ seen) back work is = absurd cc
work_from run options from (p ∷ pairs) [] back work is =
    let place : from ≡ from + 0 = omega arith in
    (p, sym (ap (λ (l : List Work). get_or l 0 work) is) ∙ ap (λ (n : ℕ). work_at run options (n, p)) place)
work_from run options from (p ∷ pairs) (first ∷ seen) back work is =
    let behind = work_from run options (from + 1) pairs seen back work (ap (λ (l : List Work). drop 1 l) is) in
    let place : from + 1 + length seen ≡ from + length (first ∷ seen) = omega arith in
    (behind.0, behind.1 ∙ ap (λ (n : ℕ). work_at run options (n, behind.0)) place)

pub next_work : (run now_run : Recording) (options now_options : Options) (pairs : List (List ℕ)) (seen rest more all : List Work) (work left : Work) (count : ℕ)
    → now_run ≡ run → now_options ≡ options → all ≡ works_of run options pairs → seen ++ rest ≡ all → rest ≡ work ∷ more → count ≡ length seen → left ≡ work
    → (p : List ℕ) × (left ≡ work_at now_run now_options (count, p))
next_work run now_run options now_options pairs seen rest more all work left count same_run same_options works joined next counted same =
    let whole : seen ++ work ∷ more ≡ all = sym (ap (λ (r : List Work). seen ++ r) next) ∙ joined in
    let here = work_from run options 0 pairs seen more work (sym (whole ∙ works)) in
    let place : 0 + length seen ≡ count = omega (arith, counted) in
    (here.0, same ∙ here.1 ∙ (λ i. work_at (sym same_run i) (sym same_options i) (place i, here.0)))

pub pairs_more : (before after : List (List ℕ)) (seen : List Work) (work left : Work) → before ≡ map (λ work. work.pair) seen → after ≡ before ++ left.pair ∷ [] → left ≡ work
    → after ≡ map (λ work. work.pair) (seen ++ work ∷ [])
pairs_more before after seen work left are more same =
    more ∙ (λ i. are i ++ (same i).pair ∷ []) ∙ sym (map-append (λ (w : Work). w.pair) seen (work ∷ []))

-- as many writers as works were seen
pub as_many : {S : Type 0} (f : S → List ℕ) (writers : List S) (seen : List Work) → map f writers ≡ map (λ work. work.pair) seen → length writers ≡ length seen
as_many {S} f writers seen same =
    sym (length-map {B = List ℕ} writers f) ∙ ap (λ (l : List (List ℕ)). length l) same ∙ length-map {B = List ℕ} seen (λ (w : Work). w.pair)

-- where nothing is left, all works were seen
pub all_seen : {A : Type 0} (f : A → Work) (seen : List Work) (rest all : List A) → seen ++ map f rest ≡ map f all → length rest ≡ 0 → seen ≡ map f all
all_seen f seen [] all joined none = sym (append-nil seen) ∙ joined
all_seen f seen (x ∷ rest) all joined none = absurd (omega arith)

-- ---- the first of them

-- of no writer all is done
pub none_done : {S : Type 0} (sent : S → List (List ℕ)) (closed : S → Bool) (run : Recording) (options : Options) → AreDone sent closed (record { run = run; options = options; drops = []; writers = [] })
none_done sent closed run options = search rules
