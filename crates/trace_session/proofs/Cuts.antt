-- From what a session's parts say where a write failed to what was written.
use Rattle.std.proofs.Common.{◌≡◌, ℕ, Bool, true, false, List, [], ◌∷◌, ◌++◌, length, take, drop, refl, sym, ap, ◌∙◌, subst, inl, inr, arith}
use Rattle.std.specs.Prelude.{All, Some, get_or, slice_get}
use Rattle.std.specs.List.{enumerate_from}
use Rattle.std.proofs.lemmas.Bool.{both_ways}
use Rattle.std.proofs.lemmas.List.{get_or_past, length-map, take-map, take-append-drop}
use Rattle.std.proofs.lemmas.List.Elements.{All-head, All-tail, All-take}
use Rattle.std.proofs.lemmas.List.FromFn.{length-enumerate_from}
use Rattle.std.proofs.lemmas.Option.{get_or_from_slice_get, slice_get_cases, slice_get_within}
use Rattle.std.proofs.lemmas.Slice.Zip.{AllZip-long}
use Rattle.std.proofs.Math.Seq.{take-append_seam}
use Rattle.log_dictionary.specs.Clocks.{first_tick}
use Rattle.arg_records.specs.declared.call.Call.{Call}
use Rattle.checkpoint_io.specs.Validity.{IsClosed}
use Rattle.session_options.specs.declared.options.Options.{Options}
use Rattle.ring_core.specs.Plans.{Plan, plan_of, IsPlanned, frame_of, frames_of, AreFramesOf}
use Rattle.ring_core.proofs.lemmas.Frames.{NeverFalls-take}
use Rattle.ring_core.proofs.lemmas.OneReading.{AreFramesOf-unique}
use Rattle.roaming_consumer.specs.declared.roamer.Roamer.{Roamer}
use Rattle.roaming_consumer.specs.Roamers.{ends_of, roamer_messages, roamer_version, roamer_clocks, roamer_clock, roamer_batch, is_begun, is_faulted, plan_of_roamer, BeginWithFramesOf, FramesWereTaken, IsSameRun, RoamerStandsFor}
use Rattle.roaming_consumer.proofs.lemmas.Marking.{same_marked_log}
use Rattle.roaming_consumer.proofs.lemmas.OnePlace.{zip_at}
use Rattle.trace_text.specs.Recordings.{Recording}
use Rattle.log_session.specs.Settling.{IsRejoined, AllZip3}
use Rattle.log_session.specs.Writers.{WriterView}
use Rattle.trace_session.specs.declared.drops.Dropped.{Dropped}
use Rattle.trace_session.specs.Drops.{taken_of, Taken}
use Rattle.trace_session.specs.Finishing.{AreDone}
use Rattle.trace_session.specs.Rounds.{IsOverUpTo}
use Rattle.trace_session.specs.Running.{AreReady}
use Rattle.trace_session.specs.Sessions.{AreFirstCalls, IsCutSession}
use Rattle.trace_session.specs.Workers.{Work}
use Rattle.trace_session.proofs.Ready.{tick_of}
use Rattle.trace_session.proofs.Leaving.{none_done}
use Rattle.trace_session.proofs.Sessions.{all_sent, all_ended, got_all, zip_meet, ends_count}

-- calls whose frames come first are the first ones
first_calls : (plan : Plan) (frames : List (List ℕ)) (whole calls : List Call) → AreFramesOf plan frames whole → BeginWithFramesOf plan frames calls → (rest : List Call) × (whole ≡ calls ++ rest)
first_calls plan frames whole calls are begin =
    let n = length calls in
    let (rest, joined) = begin.front in
    let size : length (frames_of calls) ≡ n = length-map calls frame_of in
    let front : frames_of calls ≡ frames_of (take n whole) =
    sym (take-append_seam (frames_of calls) rest) ∙ (λ i. take (size i) (sym joined i)) ∙ ap (take n) are.frames_are ∙ take-map frame_of n whole in
    let taken : AreFramesOf plan (frames_of calls) (take n whole) = record {
      frames_are = front;
      planned = All-take (IsPlanned plan.types) n whole are.planned;
      rising = NeverFalls-take n plan.first whole are.rising;
    } in
    let same = AreFramesOf-unique plan (frames_of calls) (take n whole) calls taken begin.lawful in
    (drop n whole, sym (take-append-drop n whole) ∙ ap (λ (l : List Call). l ++ drop n whole) same)

-- A writer's calls are the same in two lists, with as many items as there are ends, if they are so where it has an end.
same_calls : {O : Type 0} (ends : List O) (ours all : List (List Call)) (writer : ℕ) → length ours ≡ length ends → length all ≡ length ends → ((end : O) → slice_get ends writer ≡ Some end → get_or ours writer [] ≡ get_or all writer []) → get_or ours writer [] ≡ get_or all writer []
same_calls ends ours all writer our_count count same =
    elim (slice_get_cases ends writer).1 [
      | inl (end, within, there, at) ↦ same end there
      | inr (past, none) ↦ get_or_past ours writer [] (omega (arith, past, our_count)) ∙ sym (get_or_past all writer [] (omega (arith, past, count)))
    ]

module _ {S O D : Type 0} (sent : S → List (List ℕ)) (closed : S → Bool) (got : O → List (List ℕ)) (ended : O → Bool) (sent_left got_left : D → List (List ℕ)) (closed_left ended_left : D → Bool)
    (run : Recording) (options : Options) (new : Roamer O) (drops : List Dropped) (writers : List (WriterView S)) (left : List D)
    (over : IsOverUpTo ended (length (ends_of new)) new) (done : AreDone sent closed (record { run = run; options = options; drops = drops; writers = writers })) (all : length writers ≡ length run.writers)
    (joined : AllZip3 (IsRejoined sent closed got ended sent_left got_left closed_left ended_left) writers (ends_of new) left) where
  pub cut_session : (pair : O → List ℕ) (plan : O → Plan) (works : List Work) (old : Roamer O) (bytes : List ℕ)
      → AreReady pair plan run options works old → IsSameRun old new → is_begun new ≡ true → is_faulted new ≡ true → RoamerStandsFor got ended new bytes → IsCutSession run options bytes
  cut_session pair plan works old bytes ready same_run begun faulted stands =
      let messages : roamer_messages new ≡ run.dictionary = same_run.messages ∙ ready.messages in
      let version : roamer_version new ≡ run.version = same_run.version ∙ ready.version in
      let clocks : roamer_clocks new ≡ run.clocks = same_run.clocks ∙ ready.clocks in
      let tick : (roamer_clock new).tick ≡ first_tick run.clocks = tick_of new run.clocks clocks in
      let batch : roamer_batch new ≡ options.batch = same_run.batch ∙ ready.batch in
      let plan_is : plan_of_roamer new ≡ plan_of run.dictionary (first_tick run.clocks) = λ i. plan_of (messages i) (tick i) in
      let cut = stands.cut begun faulted in
      let frames = subst (λ (p : Plan). FramesWereTaken p got (ends_of new) cut.taken) plan_is cut.frames in
      let ends = ends_of new in
      let taken = Taken run options.level drops in
      let p = plan_of run.dictionary (first_tick run.clocks) in
      let begins = λ (end : O) (calls : List Call). BeginWithFramesOf p (got end) calls in
      let are = λ (end : O) (calls : List Call). AreFramesOf p (got end) calls in
      let got_taken = got_all p sent closed got ended sent_left got_left closed_left ended_left writers ends left taken joined (all_sent sent closed run options drops writers done all) (all_ended ended new over) in
      let all_there : (writer : ℕ) → IsClosed writer cut.log.blocks → get_or cut.taken writer [] ≡ get_or taken writer [] = λ writer marked.
      same_calls ends cut.taken taken writer (AllZip-long begins ends cut.taken frames) (AllZip-long are ends taken got_taken)
      (λ end there.
      let ours = subst (λ (x : Plan). AreFramesOf x (got end) (get_or cut.taken writer [])) plan_is (cut.closed writer end there marked).1 in
      AreFramesOf-unique p (got end) (get_or cut.taken writer []) (get_or taken writer []) ours (zip_at are ends taken writer end [] got_taken there)) in
      let (log, marks) = same_marked_log (λ writer. get_or cut.taken writer [] ≡ get_or taken writer []) (bytes ++ cut.rest) cut.taken (roamer_messages new) run.dictionary (roamer_version new) run.version (roamer_clocks new) run.clocks (roamer_batch new) options.batch messages version clocks batch (cut.log, all_there) in
      record {
        drops = drops;
        dropped = done.lawful;
        waits = done.waits;
        taken = cut.taken;
        first =
            zip_meet begins are (λ calls whole. (rest : List Call) × (whole ≡ calls ++ rest)) ends cut.taken taken frames got_taken
            (λ end calls whole begin are. first_calls p (got end) whole calls are begin);
        rest = cut.rest;
        log = log;
        closed = marks;
      }

-- ---- where the header failed

-- the first calls where nothing was taken
none_first : {O : Type 0} (plan : Plan) (got : O → List (List ℕ)) (ends : List O) (taken all : List (List Call)) → All (λ end. got end ≡ []) ends → FramesWereTaken plan got ends taken → length ends ≡ length all → AreFirstCalls taken all
none_first plan got [] [] [] none are same = tt
none_first plan got [] [] (calls ∷ all) none are same = absurd (omega (arith, same))
none_first plan got [] (calls ∷ taken) all none are same = absurd are
none_first plan got (end ∷ ends) [] all none are same = absurd are
none_first plan got (end ∷ ends) (calls ∷ taken) [] none are same = absurd (omega (arith, same))
none_first plan got (end ∷ ends) ([] ∷ taken) (whole ∷ all) none are same =
    ((whole, refl), none_first plan got ends taken all (All-tail (λ e. got e ≡ []) end ends none) are.1 (omega (arith, same)))
none_first plan got (end ∷ ends) ((call ∷ calls) ∷ taken) (whole ∷ all) none are same =
    let nothing : [] ≡ frames_of (call ∷ calls) ++ are.0.front.0 = sym (All-head (λ e. got e ≡ []) end ends none) ∙ are.0.front.1 in
    absurd (cc nothing)

pub cut_header : {S O : Type 0} (sent : S → List (List ℕ)) (closed : S → Bool) (got : O → List (List ℕ)) (ended : O → Bool) (pair : O → List ℕ) (plan : O → Plan) (run : Recording) (options : Options) (works : List Work) (old new : Roamer O) (wrote bytes : List ℕ)
    → AreReady pair plan run options works old → RoamerStandsFor got ended old wrote → is_begun old ≡ false → All (λ end. ended end ≡ false) (ends_of old) → ends_of new ≡ ends_of old → IsSameRun old new → is_begun new ≡ true → is_faulted new ≡ true → RoamerStandsFor got ended new bytes → IsCutSession run options bytes
cut_header {S} {O} sent closed got ended pair plan run options works old new wrote bytes ready stood unbegun fresh ends same_run begun faulted stands =
    let messages : roamer_messages new ≡ run.dictionary = same_run.messages ∙ ready.messages in
    let cut = stands.cut begun faulted in
    let none : All (λ end. got end ≡ []) (ends_of new) = subst (All (λ end. got end ≡ [])) (sym ends) (stood.untaken unbegun) in
    let taken = Taken run options.level [] in
    let done = none_done sent closed run options in
    let count : length (ends_of new) ≡ length taken =
    ap length ends ∙ sym (ends_count pair plan run options works old ready) ∙ ready.count
    ∙ sym (length-map (enumerate_from 0 run.writers) (taken_of run options.level []) ∙ length-enumerate_from 0 run.writers) in
    let frames = AllZip-long (λ end calls. BeginWithFramesOf (plan_of_roamer new) (got end) calls) (ends_of new) cut.taken cut.frames in
    let none_closed : (writer : ℕ) → IsClosed writer cut.log.blocks → get_or cut.taken writer [] ≡ get_or taken writer [] = λ writer marked.
    same_calls (ends_of new) cut.taken taken writer frames (sym count)
    (λ end there.
    let before : slice_get (ends_of old) writer ≡ Some end = ap (λ (es : List O). slice_get es writer) (sym ends) ∙ there in
    let not_ended : ended end ≡ false = ap ended (sym (get_or_from_slice_get (ends_of old) writer end end before)) ∙ fresh writer end (slice_get_within (ends_of old) writer end before) in
    absurd (both_ways (ended end) not_ended (cut.closed writer end there marked).0)) in
    let (log, marks) = same_marked_log (λ writer. get_or cut.taken writer [] ≡ get_or taken writer []) (bytes ++ cut.rest) cut.taken (roamer_messages new) run.dictionary (roamer_version new) run.version (roamer_clocks new) run.clocks (roamer_batch new) options.batch messages (same_run.version ∙ ready.version) (same_run.clocks ∙ ready.clocks) (same_run.batch ∙ ready.batch) (cut.log, none_closed) in
    record {
      drops = [];
      dropped = done.lawful;
      waits = λ waits. refl;
      taken = cut.taken;
      first = none_first (plan_of_roamer new) got (ends_of new) cut.taken taken none cut.frames count;
      rest = cut.rest;
      log = log;
      closed = marks;
    }
