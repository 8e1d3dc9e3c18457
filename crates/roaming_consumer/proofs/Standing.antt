-- The bytes for which a roamer stands, from call to call.
use Rattle.std.proofs.Common.{◌≡◌, ℕ, zero, suc, ◌+◌, ◌<◌, ◌≤◌, Bool, true, false, List, [], ◌∷◌, ◌++◌, length, get_or, Some, refl, sym, ap, subst, ◌∙◌, append_assoc, inl, inr, arith}
use Rattle.std.specs.Prelude.{All, slice_get, slice_set, replicate, max, take, drop}
use Rattle.std.proofs.lemmas.Slice.Zip.{AllZip-long}
use Rattle.std.proofs.lemmas.Bool.{cases_lt, both_ways, false_from_ne_true}
use Rattle.std.proofs.lemmas.Bool.Decides.{eqb_tells}
use Rattle.std.proofs.lemmas.List.{append-nil, length-append, length-take, length-take-le, drop_all, take-append-drop, get_or-set_same, get_or-set_other, nil_from_length}
use Rattle.std.proofs.Math.ListN.{length-set}
use Rattle.std.proofs.lemmas.List.Elements.{All-head, All-tail}
use Rattle.std.proofs.lemmas.Option.{slice_get_within, get_or_from_slice_get}
use Rattle.nl_io.specs.Content.{Told, with_end, PutsFront}
use Rattle.log_dictionary.specs.declared.clock.Clock.{Clock}
use Rattle.log_dictionary.specs.declared.message.Message.{Message}
use Rattle.log_dictionary.specs.Messages.{AreDistinct}
use Rattle.arg_records.specs.declared.call.Call.{Call}
use Rattle.buffer_extent.specs.Bodies.{SpellsRecords}
use Rattle.checkpoint_io.specs.Blocks.{SpellsExtent, header_bytes, extent_head_bytes, close_bytes}
use Rattle.checkpoint_io.specs.Validity.{IsHeader}
use Rattle.checkpoint_io.specs.Logs.{ids_used, new_messages, greatest_stamp}
use Rattle.checkpoint_io.proofs.lemmas.VersionLaws.{writers_fit}
use Rattle.ring_core.specs.Plans.{Plan, plan_of, frames_of, AreFramesOf}
use Rattle.ring_core.proofs.lemmas.Frames.{AreFramesOf-nil}
use Rattle.roaming_consumer.specs.declared.draft.Draft.{Draft}
use Rattle.roaming_consumer.specs.declared.roamer.Roamer.{Roamer}
use Rattle.roaming_consumer.specs.Growth.{LogProgress, IsLogSoFar, with_calls, due_clocks, PrefaceFor, IsNext, progress_behind, progress_closing}
use Rattle.roaming_consumer.specs.Drafts.{IsDraft}
use Rattle.roaming_consumer.specs.Gathering.{DraftsFrames}
use Rattle.roaming_consumer.specs.Roamers.{ends_of, roamer_messages, roamer_version, roamer_clocks, roamer_clock, roamer_room, roamer_batch, roamer_progress, is_begun, is_faulted, behind_draft, plan_of_roamer, ArePlanned, IsSameRun, EndAfterTaking, ChangesOne, FramesAreTaken, BeginWithFramesOf, FramesWereTaken, IsLogOfEnds, IsCutLogOfEnds, RoamerStandsFor, roamer_header, AppendsToLog}
use Rattle.roaming_consumer.specs.Visits.{IsPrefaceOf}
use Rattle.roaming_consumer.proofs.Used.{ids_known}
use Rattle.roaming_consumer.proofs.lemmas.OnePlace.{get_set_other, get_set_same, zip_at, zip_set, zip_step, zip_weaker}
use Rattle.roaming_consumer.proofs.Growth.{grown, closing, beginning, last_is_greatest}

-- the log of another roamer, of the same run
pub same_log : {S : Type 0} (old new : Roamer S) (wrote others : List ℕ) (taken : List (List Call)) (progress now : LogProgress) → IsSameRun old new → wrote ≡ others → progress ≡ now
    → IsLogSoFar wrote taken (roamer_messages old) (roamer_version old) (roamer_clocks old) (roamer_batch old) progress
    → IsLogSoFar others taken (roamer_messages new) (roamer_version new) (roamer_clocks new) (roamer_batch new) now
same_log old new wrote others taken progress now run bytes same_progress =
    subst (λ (x : List ℕ × List Message × ℕ × List Clock × ℕ × LogProgress). IsLogSoFar x.0 taken x.1 x.2 x.3 x.4 x.5)
    (λ i. (bytes i, sym run.messages i, sym run.version i, sym run.clocks i, sym run.batch i, same_progress i))

-- ---- what was taken from the ends

-- nothing
taken_none : {S : Type 0} (plan : Plan) (got : S → List (List ℕ)) (ends : List S) → All (λ end. got end ≡ []) ends → FramesAreTaken plan got ends (replicate (length ends) [])
taken_none plan got [] none = tt
taken_none plan got (end ∷ ends) none = (
  subst (λ (frames : List (List ℕ)). AreFramesOf plan frames []) (sym (All-head (λ e. got e ≡ []) end ends none)) (AreFramesOf-nil plan),
  taken_none plan got ends (All-tail (λ e. got e ≡ []) end ends none),
)

pub taken_length : {S : Type 0} (plan : Plan) (got : S → List (List ℕ)) (ends : List S) (taken : List (List Call)) → FramesAreTaken plan got ends taken → length taken ≡ length ends
taken_length plan got ends taken are = AllZip-long (λ end calls. AreFramesOf plan (got end) calls) ends taken are

-- an end gave no frame
taken_still : {S : Type 0} (plan : Plan) (got : S → List (List ℕ)) (ends : List S) (taken : List (List Call)) (writer : ℕ) (before after : S) → FramesAreTaken plan got ends taken → slice_get ends writer ≡ Some before → got after ≡ got before → FramesAreTaken plan got (slice_set ends writer after) taken
taken_still plan got ends taken writer before after are there same =
    zip_step (λ end calls. AreFramesOf plan (got end) calls) ends taken writer before after are there (λ calls. subst (λ (frames : List (List ℕ)). AreFramesOf plan frames calls) (sym same))

-- all frames are the first ones
taken_first : {S : Type 0} (plan : Plan) (got : S → List (List ℕ)) (ends : List S) (taken : List (List Call)) → FramesAreTaken plan got ends taken → FramesWereTaken plan got ends taken
taken_first plan got ends taken are =
    zip_weaker (λ end calls. AreFramesOf plan (got end) calls) (λ end calls. BeginWithFramesOf plan (got end) calls) ends taken
    (λ end calls is. record {
      front = ([], is.frames_are ∙ sym (append-nil (frames_of calls)));
      lawful = subst (λ (frames : List (List ℕ)). AreFramesOf plan frames calls) is.frames_are is;
    }) are

-- ---- the header

-- behind the header the log has begun
pub begun : {S : Type 0} (got : S → List (List ℕ)) (ended : S → Bool) (old new : Roamer S) → is_begun old ≡ false → ends_of new ≡ ends_of old → IsSameRun old new → roamer_progress new ≡ roamer_progress old → IsHeader (roamer_header old)
    → (wrote : List ℕ) → RoamerStandsFor got ended old wrote → IsLogOfEnds got ended new (roamer_progress new) (wrote ++ header_bytes (roamer_header old))
begun {S} got ended old new unbegun same_ends same_run same_progress right wrote was =
    let none = was.nothing unbegun in
    let closed = λ (writer : ℕ). ap (λ (p : LogProgress). get_or p.closed writer false) same_progress ∙ was.unclosed unbegun writer in
    let first = beginning (roamer_header old) (roamer_messages old) (roamer_clocks old) (roamer_batch old) (roamer_progress new).closed right old.may_have old.first closed in
    let at_first : record { defined = 0; closed = (roamer_progress new).closed; written = 1; latest = 0 } ≡ roamer_progress new =
    λ i. record {
      defined = sym (ap (λ (p : LogProgress). p.defined) same_progress ∙ was.undefined unbegun) i;
      closed = (roamer_progress new).closed;
      written = sym (ap (λ (p : LogProgress). p.written) same_progress ∙ was.first_clock unbegun) i;
      latest = sym (ap (λ (p : LogProgress). p.latest) same_progress ∙ was.no_stamp unbegun) i;
    } in
    let plan : plan_of_roamer old ≡ plan_of_roamer new = λ i. plan_of (sym same_run.messages i) (sym same_run.clock i).tick in
    let taken = taken_none (plan_of_roamer old) got (ends_of old) (was.untaken unbegun) in
    record {
      taken = replicate (length (ends_of old)) [];
      frames =
          subst (λ (p : Plan). FramesAreTaken p got (ends_of new) (replicate (length (ends_of old)) [])) plan
          (subst (λ (ends : List S). FramesAreTaken (plan_of_roamer old) got ends (replicate (length (ends_of old)) [])) (sym same_ends) taken);
      log =
          same_log old new (header_bytes (roamer_header old)) (wrote ++ header_bytes (roamer_header old)) (replicate (length (ends_of old)) []) _ (roamer_progress new) same_run (ap (λ (l : List ℕ). l ++ header_bytes (roamer_header old)) (sym none)) at_first first;
      closed = λ writer end there is_closed. absurd (both_ways (get_or (roamer_progress new).closed writer false) (closed writer) is_closed);
    }

-- no writer is closed at first
pub false_everywhere : (count place : ℕ) → get_or (replicate count false) place false ≡ false
false_everywhere zero place = refl
false_everywhere (suc count) zero = refl
false_everywhere (suc count) (suc place) = false_everywhere count place

-- the messages that are wanted are those up to the greater number
same_new : (messages : List Message) (defined used : ℕ) → drop defined (take (max defined used) messages) ≡ drop defined (take used messages)
same_new messages defined used =
    elim (cases_lt defined used) [
      | inl more ↦ let most : max defined used ≡ used = omega (arith, more) in ap (λ (n : ℕ). drop defined (take n messages)) most
      | inr none ↦
          drop_all defined (take (max defined used) messages) (omega (arith, none, length-take (max defined used) messages))
          ∙ sym (drop_all defined (take used messages) (omega (arith, none, length-take used messages)))
    ]

pub wanted_new : (messages : List Message) (defined : ℕ) (records : List Call) (ids : ℕ) → ids ≡ ids_used records → drop defined (take (max defined ids) messages) ≡ new_messages messages defined records
wanted_new messages defined records ids same = same_new messages defined ids ∙ ap (λ (n : ℕ). drop defined (take n messages)) same

pub body_some : (messages : List Message) (before : ℕ) (records : List Call) (body : List ℕ) → 1 ≤ length records → SpellsRecords messages before records body → 1 ≤ length body
body_some messages before [] body some spelled = absurd (omega (arith, some))
body_some messages before (call ∷ records) body some (front, back, joined, is, others) =
    omega (arith, ap length joined, length-append front back, ap length is.spelled.joined)

-- ---- what a draft is, before it is written

pub draft_some : (messages : List Message) (tick : ℕ) (before after : List (List ℕ)) (draft : Draft) (body : List ℕ) → DraftsFrames messages tick before after draft body → 1 ≤ draft.records → 1 ≤ draft.len
draft_some messages tick before after draft body was some =
    let d = was.drafted in
    let count = d.count in
    omega (arith, d.within, length-take-le draft.len body d.within, body_some messages tick was.records (take draft.len body) (omega (arith, some, count)) d.spelled)

pub draft_ids : (messages : List Message) (tick : ℕ) (before after : List (List ℕ)) (draft : Draft) (body : List ℕ) → DraftsFrames messages tick before after draft body → draft.ids ≤ length messages
draft_ids messages tick before after draft body was = omega (arith, was.drafted.ids, ids_known messages was.records was.right)

-- nothing came where there is no record
pub none_came : (messages : List Message) (tick : ℕ) (before after : List (List ℕ)) (draft : Draft) (body : List ℕ) → DraftsFrames messages tick before after draft body → draft.records ≡ 0 → after ≡ before
none_came messages tick before after draft body was none =
    let records : was.records ≡ [] = nil_from_length was.records (omega (arith, was.drafted.count, none)) in
    was.comes.joined ∙ ap (λ (calls : List Call). before ++ frames_of calls) records ∙ append-nil before

-- its last stamp is the greatest one
pub draft_last : (messages : List Message) (tick : ℕ) (records : List Call) (draft : Draft) (body : List ℕ) → IsDraft messages tick records draft body → 1 ≤ draft.records → draft.last ≡ greatest_stamp records
draft_last messages tick records draft body drafted some =
    let count = drafted.count in
    drafted.last ∙ sym (last_is_greatest tick records drafted.rising (omega (arith, some, count)))

-- ---- an extent

-- what was put in front of an extent is the preface that its records want
pub wanted_preface : {S : Type 0} (roamer : Roamer S) (records : List Call) (draft : Draft) (body preface : List ℕ) → IsDraft (roamer_messages roamer) (roamer_clock roamer).tick records draft body → 1 ≤ draft.records
    → PrefaceFor (due_clocks (roamer_clocks roamer) (roamer_progress roamer).written draft.last) (roamer_progress roamer).defined (drop (roamer_progress roamer).defined (take (max (roamer_progress roamer).defined draft.ids) (roamer_messages roamer))) preface
    → IsPrefaceOf roamer records preface
wanted_preface roamer records draft body preface drafted some =
    let kept = roamer_progress roamer in
    let last = draft_last (roamer_messages roamer) (roamer_clock roamer).tick records draft body drafted some in
    let new = wanted_new (roamer_messages roamer) kept.defined records draft.ids drafted.ids in
    subst (λ (x : List Clock × List Message). PrefaceFor x.0 kept.defined x.1 preface) (λ i. (due_clocks (roamer_clocks roamer) kept.written (last i), new i))

-- the records of a draft, behind the head of an extent
abbrev pub spells_extent : {S : Type 0} (roamer : Roamer S) (writer : ℕ) (records : List Call) (draft : Draft) (body : List ℕ) (drafted : IsDraft (roamer_messages roamer) (roamer_clock roamer).tick records draft body) → 1 ≤ draft.records → writer < length (ends_of roamer) → length body ≤ roamer_room roamer
    → SpellsExtent (roamer_messages roamer) (roamer_header roamer) writer records (extent_head_bytes (roamer_version roamer) writer (length (take draft.len body)) ++ take draft.len body)
spells_extent roamer writer records draft body drafted some known room =
    let count = drafted.count in
    let within = drafted.within in
    let long = length-take-le draft.len body within in
    record {
      body = take draft.len body;
      some = body_some (roamer_messages roamer) (roamer_clock roamer).tick records (take draft.len body) (omega (arith, some, count)) drafted.spelled;
      short = omega (arith, long, within, room);
      writer_fits = omega (arith, known, roamer.few_ends, writers_fit (roamer_version roamer));
      body_spelled = drafted.spelled;
      joined = refl;
    }

-- what a visit did before it wrote
pub record Moved {S : Type 0} (got : S → List (List ℕ)) (ended : S → Bool) (old new : Roamer S) (writer : ℕ)
    (before after : S) (draft : Draft) (body : List ℕ) : Type 0 where
  pub was : slice_get (ends_of old) writer ≡ Some before
  pub ends : ends_of new ≡ slice_set (ends_of old) writer after
  pub gathers : DraftsFrames (roamer_messages old) (roamer_clock old).tick (got before) (got after) draft body
  pub same_run : IsSameRun old new
  pub begun : is_begun old ≡ true
  pub unfaulted : is_faulted old ≡ false

pub same_plan : {S : Type 0} (old new : Roamer S) → IsSameRun old new → plan_of_roamer old ≡ plan_of_roamer new
same_plan old new same_run = λ i. plan_of (sym same_run.messages i) (sym same_run.clock i).tick

-- what holds of the plan and the ends of a roamer, where one end took a step
pub move_ends : {S : Type 0} (P : Plan → List S → Type 0) (old new : Roamer S) (writer : ℕ) (after : S) → ends_of new ≡ slice_set (ends_of old) writer after → IsSameRun old new → P (plan_of_roamer old) (slice_set (ends_of old) writer after) → P (plan_of_roamer new) (ends_of new)
move_ends {S} P old new writer after ends same_run holds = subst (λ (x : Plan × List S). P x.0 x.1) (λ i. (same_plan old new same_run i, sym ends i)) holds

-- What is said of each end by its writer's number stays said, where one end took a step.
pub still_said : {S : Type 0} (Says : ℕ → S → Type 0) (ends ends_after : List S) (writer : ℕ) (before after : S) → slice_get ends writer ≡ Some before → ends_after ≡ slice_set ends writer after → (Says writer before → Says writer after)
    → ((w : ℕ) (end : S) → slice_get ends w ≡ Some end → Says w end)
    → (w : ℕ) (end : S) → slice_get ends_after w ≡ Some end → Says w end
still_said {S} Says ends ends_after writer before after was now step said w end there =
    let found : slice_get (slice_set ends writer after) w ≡ Some end = ap (λ (es : List S). slice_get es w) (sym now) ∙ there in
    elim (eqb_tells w writer) [
      | inl here ↦
          let is : after ≡ end = get_set_same ends writer after end (ap (slice_get (slice_set ends writer after)) (sym here.1) ∙ found) in
          subst (λ (n : ℕ). Says n end) (sym here.1) (subst (Says writer) is (step (said writer before was)))
      | inr differs ↦ said w end (sym (get_set_other ends writer w after differs.1) ∙ found)
    ]

-- an end that had ended has ended after frames were taken from it
pub still_ended : {S : Type 0} (ended : S → Bool) (loads : S → ℕ) (pair : S → List ℕ) (plan : S → Plan) (frames : ℕ) (all : Bool) (before after : S) → EndAfterTaking ended loads pair plan frames all before after → ended before ≡ true → ended after ≡ true
still_ended ended loads pair plan frames all before after took over =
    let stays = took.stays_ended over in took.none stays.0 ∙ stays.1

-- of an end by its writer's number: a writer that this list has as closed has ended
abbrev pub EndedIfClosed : {S : Type 0} → (S → Bool) → List Bool → ℕ → S → Type 0
EndedIfClosed ended closed writer end = get_or closed writer false ≡ true → ended end ≡ true

pub extent_stands : {S : Type 0} (got : S → List (List ℕ)) (ended : S → Bool) (old new : Roamer S) (writer : ℕ) (before after : S) (draft : Draft) (body preface extent : List ℕ) (moved : Moved got ended old new writer before after draft body) → 1 ≤ draft.records → draft.records ≤ roamer_batch old → (ended before ≡ true → draft.records ≡ 0) → AreDistinct (roamer_messages old) → length (roamer_messages old) ≤ 65536
    → IsPrefaceOf old moved.gathers.records preface
    → SpellsExtent (roamer_messages old) (roamer_header old) writer moved.gathers.records extent
    → (wrote : List ℕ) → RoamerStandsFor got ended old wrote → IsLogOfEnds got ended new (behind_draft old draft) (wrote ++ (preface ++ extent))
extent_stands {S} got ended old new writer before after draft body preface extent moved some few going distinct few_messages standing spelled wrote stood =
    let log = stood.lawful moved.begun moved.unfaulted in
    let plan = plan_of_roamer old in
    let kept = roamer_progress old in
    let records = moved.gathers.records in
    let drafted = moved.gathers.drafted in
    let calls = get_or log.taken writer [] in
    let size = taken_length plan got (ends_of old) log.taken log.frames in
    let inside = slice_get_within (ends_of old) writer before moved.was in
    let known : writer < length log.taken = omega (arith, size, inside) in
    let are = zip_at (λ end calls. AreFramesOf plan (got end) calls) (ends_of old) log.taken writer before [] log.frames moved.was in
    let now = moved.gathers.comes.lawful calls are in
    let open_writer : get_or kept.closed writer false ≡ false =
    false_from_ne_true (get_or kept.closed writer false) (λ closed. omega (arith, some, going (log.closed writer before moved.was closed))) in
    let count = drafted.count in
    let next : IsNext log.taken (roamer_messages old) (roamer_header old) (roamer_clocks old) (roamer_batch old) kept writer records preface extent = record {
      first = old.first;
      known = known;
      not_closed = open_writer;
      few = omega (arith, few, count);
      right = moved.gathers.right;
      rising = now.rising;
      preface_spelled = standing;
      extent_spelled = spelled;
    } in
    let more = grown wrote log.taken (roamer_messages old) (roamer_header old) (roamer_batch old) (roamer_clocks old) kept writer records preface extent log.log old.may_have distinct few_messages next in
    let ids = sym drafted.ids in
    let last = sym (draft_last (roamer_messages old) (roamer_clock old).tick records draft body drafted some) in
    let progress_is : progress_behind kept (roamer_clocks old) records ≡ behind_draft old draft =
    λ i. record {
      defined = max kept.defined (ids i);
      closed = kept.closed;
      written = kept.written + length (due_clocks (roamer_clocks old) kept.written (last i));
      latest = max kept.latest (last i);
    } in
    record {
      taken = with_calls log.taken writer records;
      frames = move_ends (λ p es. FramesAreTaken p got es (with_calls log.taken writer records)) old new writer after moved.ends moved.same_run (zip_set (λ end calls. AreFramesOf plan (got end) calls) (ends_of old) log.taken writer after (calls ++ records) log.frames now);
      log = same_log old new (wrote ++ preface ++ extent) (wrote ++ (preface ++ extent)) (with_calls log.taken writer records) (progress_behind kept (roamer_clocks old) records) (behind_draft old draft) moved.same_run (append_assoc wrote preface extent) progress_is more;
      closed = still_said (EndedIfClosed ended kept.closed) (ends_of old) (ends_of new) writer before after moved.was moved.ends (λ over own. absurd (both_ways (get_or kept.closed writer false) open_writer own)) log.closed;
    }

-- ---- no record

-- nothing was written
pub idle_stands : {S : Type 0} (got : S → List (List ℕ)) (ended : S → Bool) (old new : Roamer S) (writer : ℕ) (before after : S) (draft : Draft) (body : List ℕ) → Moved got ended old new writer before after draft body → draft.records ≡ 0 → (get_or (roamer_progress old).closed writer false ≡ true → ended before ≡ true → ended after ≡ true)
    → (wrote : List ℕ) → RoamerStandsFor got ended old wrote → IsLogOfEnds got ended new (roamer_progress old) (wrote ++ [])
idle_stands {S} got ended old new writer before after draft body moved none stays wrote stood =
    let log = stood.lawful moved.begun moved.unfaulted in
    let plan = plan_of_roamer old in
    let same = none_came (roamer_messages old) (roamer_clock old).tick (got before) (got after) draft body moved.gathers none in
    record {
      taken = log.taken;
      frames = move_ends (λ p es. FramesAreTaken p got es log.taken) old new writer after moved.ends moved.same_run (taken_still plan got (ends_of old) log.taken writer before after log.frames moved.was same);
      log = same_log old new wrote (wrote ++ []) log.taken (roamer_progress old) (roamer_progress old) moved.same_run (sym (append-nil wrote)) refl log.log;
      closed = still_said (EndedIfClosed ended (roamer_progress old).closed) (ends_of old) (ends_of new) writer before after moved.was moved.ends (λ over own. stays own (over own)) log.closed;
    }

-- the close mark was written
pub mark_stands : {S : Type 0} (got : S → List (List ℕ)) (ended : S → Bool) (old new : Roamer S) (writer : ℕ) (before after : S) (draft : Draft) (body : List ℕ) → Moved got ended old new writer before after draft body → draft.records ≡ 0 → get_or (roamer_progress old).closed writer false ≡ false → ended after ≡ true
    → (wrote : List ℕ) → RoamerStandsFor got ended old wrote → IsLogOfEnds got ended new (progress_closing (roamer_progress old) writer) (wrote ++ close_bytes (roamer_version old) writer)
mark_stands {S} got ended old new writer before after draft body moved none unclosed over wrote stood =
    let log = stood.lawful moved.begun moved.unfaulted in
    let plan = plan_of_roamer old in
    let size = taken_length plan got (ends_of old) log.taken log.frames in
    let inside = slice_get_within (ends_of old) writer before moved.was in
    let same = none_came (roamer_messages old) (roamer_clock old).tick (got before) (got after) draft body moved.gathers none in
    let more = closing wrote log.taken (roamer_messages old) (roamer_version old) (roamer_clocks old) (roamer_batch old) (roamer_progress old) writer log.log (omega (arith, size, inside)) unclosed (omega (arith, inside, old.each_closed)) in
    record {
      taken = log.taken;
      frames = move_ends (λ p es. FramesAreTaken p got es log.taken) old new writer after moved.ends moved.same_run (taken_still plan got (ends_of old) log.taken writer before after log.frames moved.was same);
      log = same_log old new (wrote ++ close_bytes (roamer_version old) writer) (wrote ++ close_bytes (roamer_version old) writer) log.taken (progress_closing (roamer_progress old) writer) (progress_closing (roamer_progress old) writer) moved.same_run refl refl more;
      closed = λ w end there closed.
          elim (eqb_tells w writer) [
            | inl here ↦
                let is : after ≡ end = get_set_same (ends_of old) writer after end (ap (λ (es : List S). slice_get es writer) (sym moved.ends) ∙ ap (slice_get (ends_of new)) (sym here.1) ∙ there) in
                ap ended (sym is) ∙ over
            | inr differs ↦
                let closed_before : get_or (roamer_progress old).closed w false ≡ true =
                sym (get_or-set_other (roamer_progress old).closed writer w true false differs.1) ∙ closed in
                log.closed w end (sym (get_set_other (ends_of old) writer w after differs.1) ∙ ap (λ (es : List S). slice_get es w) (sym moved.ends) ∙ there) closed_before
          ];
    }

-- ---- from the log to the roamer

-- a front of a log
cut_of : {S : Type 0} (got : S → List (List ℕ)) (ended : S → Bool) (roamer : Roamer S) (progress : LogProgress) (wrote rest : List ℕ) → progress.latest ≤ (roamer_progress roamer).latest → IsLogOfEnds got ended roamer progress (wrote ++ rest) → IsCutLogOfEnds got ended roamer wrote
cut_of got ended roamer progress wrote rest kept log = record {
  taken = log.taken;
  frames = taken_first (plan_of_roamer roamer) got (ends_of roamer) log.taken log.frames;
  rest = rest;
  log = log.log.log;
  latest = let latest = log.log.latest in omega (arith, latest, kept);
  closed = λ writer end there closed.
      let plan = plan_of_roamer roamer in
      let inside = slice_get_within (ends_of roamer) writer end there in
      let size = taken_length plan got (ends_of roamer) log.taken log.frames in (
        log.closed writer end there (log.log.closed writer (omega (arith, inside, size)) ∙ closed),
        zip_at (λ end calls. AreFramesOf plan (got end) calls) (ends_of roamer) log.taken writer end [] log.frames there,
      );
}

pub stands_begun : {S : Type 0} (got : S → List (List ℕ)) (ended : S → Bool) (roamer : Roamer S) (progress : LogProgress) (wrote : List ℕ) → is_begun roamer ≡ true → roamer_progress roamer ≡ progress → IsLogOfEnds got ended roamer progress wrote → RoamerStandsFor got ended roamer wrote
stands_begun got ended roamer progress wrote now same log = record {
  nothing = λ unset. absurd (both_ways (is_begun roamer) unset now);
  untaken = λ unset. absurd (both_ways (is_begun roamer) unset now);
  undefined = λ unset. absurd (both_ways (is_begun roamer) unset now);
  unclosed = λ unset. absurd (both_ways (is_begun roamer) unset now);
  first_clock = λ unset. absurd (both_ways (is_begun roamer) unset now);
  no_stamp = λ unset. absurd (both_ways (is_begun roamer) unset now);
  lawful = λ yes unfaulted. subst (λ (p : LogProgress). IsLogOfEnds got ended roamer p wrote) (sym same) log;
  cut = λ yes faulted. cut_of got ended roamer progress wrote [] (let latest = ap (λ (p : LogProgress). p.latest) same in omega (arith, latest)) (subst (IsLogOfEnds got ended roamer progress) (sym (append-nil wrote)) log);
}

pub stands_cut : {S : Type 0} (got : S → List (List ℕ)) (ended : S → Bool) (roamer : Roamer S) (wrote : List ℕ) → is_begun roamer ≡ true → is_faulted roamer ≡ true → IsCutLogOfEnds got ended roamer wrote → RoamerStandsFor got ended roamer wrote
stands_cut got ended roamer wrote now faulted cut = record {
  nothing = λ unset. absurd (both_ways (is_begun roamer) unset now);
  untaken = λ unset. absurd (both_ways (is_begun roamer) unset now);
  undefined = λ unset. absurd (both_ways (is_begun roamer) unset now);
  unclosed = λ unset. absurd (both_ways (is_begun roamer) unset now);
  first_clock = λ unset. absurd (both_ways (is_begun roamer) unset now);
  no_stamp = λ unset. absurd (both_ways (is_begun roamer) unset now);
  lawful = λ yes unfaulted. absurd (both_ways (is_faulted roamer) unfaulted faulted);
  cut = λ yes is. cut;
}

-- Bytes were to be put, behind which it would stand for a log. They went out.
pub appended : {S : Type 0} (got : S → List (List ℕ)) (ended : S → Bool) (old new : Roamer S) (progress : LogProgress) (bytes : List ℕ) (p q : Told) → is_begun new ≡ true → roamer_progress new ≡ progress → q ≡ with_end bytes p
    → ((wrote : List ℕ) → RoamerStandsFor got ended old wrote → IsLogOfEnds got ended new progress (wrote ++ bytes))
    → AppendsToLog got ended old new p q
appended got ended old new progress bytes p q now same puts log =
    record { bytes = bytes; put_is = puts; stands = λ wrote stood. stands_begun got ended new progress (wrote ++ bytes) now same (log wrote stood) }

-- A write of them failed.
pub cut_short : {S : Type 0} (got : S → List (List ℕ)) (ended : S → Bool) (old new : Roamer S) (progress : LogProgress) (bytes : List ℕ) (p q : Told) → is_begun new ≡ true → is_faulted new ≡ true → progress.latest ≤ (roamer_progress new).latest → PutsFront bytes p q
    → ((wrote : List ℕ) → RoamerStandsFor got ended old wrote → IsLogOfEnds got ended new progress (wrote ++ bytes))
    → AppendsToLog got ended old new p q
cut_short got ended old new progress bytes p q now faulted kept (n, within, puts) log = record {
  bytes = take n bytes;
  put_is = puts;
  stands = λ wrote stood.
      let joined : wrote ++ bytes ≡ wrote ++ take n bytes ++ drop n bytes = ap (λ (l : List ℕ). wrote ++ l) (sym (take-append-drop n bytes)) ∙ sym (append_assoc wrote (take n bytes) (drop n bytes)) in
      stands_cut got ended new (wrote ++ take n bytes) now faulted (cut_of got ended new progress (wrote ++ take n bytes) (drop n bytes) kept (subst (IsLogOfEnds got ended new progress) joined (log wrote stood)));
}

-- ---- plans

-- the ends have the roamer's plan after a visit too
pub planned_after : {S : Type 0} (plan : S → Plan) (old new : Roamer S) (writer : ℕ) (before after : S) → ArePlanned plan old → slice_get (ends_of old) writer ≡ Some before → ends_of new ≡ slice_set (ends_of old) writer after → plan after ≡ plan before → IsSameRun old new → ArePlanned plan new
planned_after {S} plan old new writer before after planned was now same run = λ k d within.
    let inside = slice_get_within (ends_of old) writer before was in
    let size : length (ends_of new) ≡ length (ends_of old) = ap (λ (es : List S). length es) now ∙ length-set (ends_of old) writer after in
    let plans : plan_of_roamer old ≡ plan_of_roamer new = same_plan old new run in
    let own : plan after ≡ plan_of_roamer old =
    same ∙ ap plan (sym (get_or_from_slice_get (ends_of old) writer before d was)) ∙ planned writer d inside in
    ap (λ (es : List S). plan (get_or es k d)) now
    ∙ elim (eqb_tells k writer) [
      | inl here ↦
          ap (λ (n : ℕ). plan (get_or (slice_set (ends_of old) writer after) n d)) here.1
          ∙ ap plan (get_or-set_same (ends_of old) writer after d inside) ∙ own ∙ plans
      | inr differs ↦ ap plan (get_or-set_other (ends_of old) writer k after d differs.1) ∙ planned k d (omega (arith, within, size)) ∙ plans
    ]

pub count_after : {S : Type 0} {Step : S → S → Type 0} (ends ends_after : List S) (writer : ℕ) → ChangesOne ends ends_after writer Step → length ends_after ≡ length ends
count_after {S} ends ends_after writer one = ap (λ (es : List S). length es) one.now ∙ length-set ends writer one.after
