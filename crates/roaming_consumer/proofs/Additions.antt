-- What a call adds to the log for which a roamer stands.
use Rattle.std.proofs.Common.{◌≡◌, ℕ, ◌+◌, ◌-◌, ◌<◌, ◌≤◌, Bool, true, false, List, [], ◌∷◌, ◌++◌, length, get_or, Some, sym, ap, subst, ◌∙◌, append-nil, append_assoc, inl, inr, arith}
use Rattle.std.specs.Prelude.{All, slice_get, max, take, Result, is_err}
use Rattle.std.proofs.lemmas.List.{length-take-le, nil_from_length, get_or_read}
use Rattle.std.proofs.lemmas.Option.{slice_get_within}
use Rattle.nl_io.specs.Content.{Told, with_end, PutsFront}
use Rattle.nl_io.proofs.lemmas.Contents.{with_end-none}
use Rattle.log_dictionary.specs.declared.clock.Clock.{Clock}
use Rattle.log_dictionary.specs.declared.message.Message.{Message}
use Rattle.log_dictionary.specs.Messages.{AreDistinct}
use Rattle.arg_records.specs.declared.call.Call.{Call}
use Rattle.checkpoint_io.specs.Versions.{most_body}
use Rattle.checkpoint_io.specs.Blocks.{Block, all_records, extent_head_bytes, close_bytes, SpellsExtent}
use Rattle.checkpoint_io.specs.Validity.{IsClosed}
use Rattle.checkpoint_io.specs.Logs.{greatest_stamp}
use Rattle.ring_core.specs.Plans.{Plan, plan_of, AreFramesOf}
use Rattle.roaming_consumer.specs.declared.draft.Draft.{Draft}
use Rattle.roaming_consumer.specs.declared.roamer.Roamer.{Roamer}
use Rattle.roaming_consumer.specs.Growth.{LogProgress, due_clocks, progress_closing, IsLogSoFar}
use Rattle.roaming_consumer.specs.Gathering.{FramesCame, DraftsFrames, StopsTaking}
use Rattle.roaming_consumer.specs.Roamers.{ends_of, roamer_messages, roamer_version, roamer_clocks, roamer_clock, roamer_room, roamer_batch, roamer_progress, is_marked, is_begun, is_faulted, behind_draft, plan_of_roamer, IsSameRun, KeepsLog, EndAfterTaking, ChangesOne, FramesAreTaken, BeginWithFramesOf, FramesWereTaken, HaveEnded, IsLogOfEnds, IsCutLogOfEnds, RoamerStandsFor, AppendsToLog, AddsClock, roamer_header}
use Rattle.roaming_consumer.specs.Sinks.{SendsExtent}
use Rattle.roaming_consumer.specs.Visits.{IsPrefaceOf, WritesExtent, KeepsRing, VisitStops}
use Rattle.roaming_consumer.proofs.lemmas.OnePlace.{zip_step}
use Rattle.roaming_consumer.proofs.lemmas.Sending.{sent_whole, err_of}
use Rattle.roaming_consumer.proofs.lemmas.Marking.{same_said_log}
use Rattle.roaming_consumer.proofs.Used.{front_get}
use Rattle.roaming_consumer.proofs.Growth.{later_log, later_clock}
use Rattle.roaming_consumer.proofs.Standing.{none_came, wanted_preface, spells_extent, Moved, move_ends, extent_stands, idle_stands, mark_stands, still_said, still_ended, same_plan, stands_cut, appended, cut_short}

-- what was collected
abbrev pub Collected : {S : Type 0} → (S → List (List ℕ)) → (S → Bool) → (S → ℕ) → (S → List ℕ) → (S → Plan) → Roamer S → Draft → Bool → List ℕ → S → S → Type 0
Collected got ended loads pair plan old draft all body before after =
    DraftsFrames (roamer_messages old) (roamer_clock old).tick (got before) (got after) draft body × EndAfterTaking ended loads pair plan draft.records all before after
    × StopsTaking got ended loads (roamer_batch old) draft.records (roamer_room old - draft.len) before after

same_run_then : {S : Type 0} (old mid new : Roamer S) → IsSameRun old mid → IsSameRun mid new → IsSameRun old new
same_run_then old mid new first second = record {
  messages = second.messages ∙ first.messages;
  version = second.version ∙ first.version;
  clocks = second.clocks ∙ first.clocks;
  clock = second.clock ∙ first.clock;
  batch = second.batch ∙ first.batch;
}

-- what is sent for a draft
abbrev pub SendsFor : {S T E : Type 0} → Result T E → Roamer S → ℕ → Draft → List ℕ → Told → Told → ℕ → ℕ → Type 0
SendsFor r roamer writer draft body p q f g =
    SendsExtent r (due_clocks (roamer_clocks roamer) (roamer_progress roamer).written draft.last) (roamer_messages roamer) (roamer_version roamer) (roamer_progress roamer).defined (max (roamer_progress roamer).defined draft.ids) writer (take draft.len body) p q f g

pub sends_of_old : {S T E : Type 0} (old mid : Roamer S) (writer : ℕ) (draft : Draft) (body : List ℕ) (r : Result T E) (p q : Told) (f g : ℕ) → KeepsLog old mid → SendsFor r mid writer draft body p q f g → SendsFor r old writer draft body p q f g
sends_of_old old mid writer draft body r p q f g keeps sent =
    let run = keeps.same_run in
    subst (λ (x : List Clock × List Message × ℕ × LogProgress). SendsExtent r (due_clocks x.0 x.3.written draft.last) x.1 x.2 x.3.defined (max x.3.defined draft.ids) writer (take draft.len body) p q f g)
    (λ i. (run.clocks i, run.messages i, run.version i, keeps.progress i)) sent

-- the body has as much room as the version allows
body_fits : {S : Type 0} (old mid : Roamer S) → KeepsLog old mid → length mid.body.items ≤ roamer_room old
body_fits old mid keeps = omega (arith, mid.body_room, mid.body.ok.0, ap most_body keeps.same_run.version)

-- what was read of the writer's close mark
pub mark_read : {S : Type 0} (old mid : Roamer S) (writer : ℕ) (read value : Bool) → writer < length (ends_of old) → KeepsLog old mid → read ≡ get_or mid.closed.items writer read → read ≡ value → is_marked mid writer ≡ value
mark_read old mid writer read value known keeps found is =
    let size = ap (λ (o : LogProgress). length o.closed) keeps.progress in
    sym (get_or_read mid.closed.items writer read (omega (arith, known, old.each_closed, size)) found false) ∙ is

module _ {S : Type 0} (got : S → List (List ℕ)) (ended : S → Bool) (loads : S → ℕ) (pair : S → List ℕ) (plan : S → Plan) (old mid new : Roamer S) (writer : ℕ) (draft : Draft) (all : Bool)
    (one : ChangesOne (ends_of old) (ends_of mid) writer (Collected got ended loads pair plan old draft all mid.body.items)) (keeps : KeepsLog old mid) (same_ends : ends_of new ≡ ends_of mid) where
  module _ (some : 1 ≤ draft.records) {T E : Type 0} (r : Result T E) (p q : Told) (f g : ℕ) (sends : SendsFor r mid writer draft mid.body.items p q f g) where
    abbrev sent_of : SendsFor r old writer draft mid.body.items p q f g
    sent_of = sends_of_old old mid writer draft mid.body.items r p q f g keeps sends

    abbrev standing : IsPrefaceOf old one.step.0.records sent_of.preface
    standing = wanted_preface old one.step.0.records draft mid.body.items sent_of.preface one.step.0.drafted some sent_of.spelled

    abbrev extent : List ℕ
    extent = extent_head_bytes (roamer_version old) writer (length (take draft.len mid.body.items)) ++ take draft.len mid.body.items

    abbrev spelled : SpellsExtent (roamer_messages old) (roamer_header old) writer one.step.0.records extent
    spelled = spells_extent old writer one.step.0.records draft mid.body.items one.step.0.drafted some (slice_get_within (ends_of old) writer one.before one.was) (body_fits old mid keeps)

    pub writes_extent : false ≡ is_err r → ChangesOne (ends_of old) (ends_of new) writer (λ before after. WritesExtent got ended loads old writer draft.records p q before after)
    writes_extent passed =
        let gathers = one.step.0 in
        record {
          before = one.before;
          after = one.after;
          was = one.was;
          now = same_ends ∙ one.now;
          step = record {
            records = gathers.records;
            comes = gathers.comes;
            right = gathers.right;
            count = sym gathers.drafted.count;
            preface = sent_of.preface;
            standing = standing;
            extent = extent;
            spelled = spelled;
            puts = sent_whole r (sent_of.preface ++ extent) p q f g passed sent_of.sent;
            stops = subst (λ (n : ℕ). StopsTaking got ended loads (roamer_batch old) draft.records (roamer_room old - n) one.before one.after) (sym (length-take-le draft.len mid.body.items gathers.drafted.within)) one.step.2;
          };
        }

    -- A write of it failed.
    pub stopped_in_extent : draft.records ≤ roamer_batch old → true ≡ is_err r → ChangesOne (ends_of old) (ends_of new) writer (VisitStops got ended old writer p q)
    stopped_in_extent few failed =
        let gathers = one.step.0 in
        let count = gathers.drafted.count in
        record {
          before = one.before;
          after = one.after;
          was = one.was;
          now = same_ends ∙ one.now;
          step = inl (record {
            records = gathers.records;
            comes = gathers.comes;
            right = gathers.right;
            some = omega (arith, some, count);
            few = omega (arith, few, count);
            preface = sent_of.preface;
            standing = standing;
            extent = extent;
            spelled = spelled;
            puts = err_of r failed sent_of.sent.err;
          });
        }

    module _ (now : is_begun old ≡ true) (unfaulted : is_faulted old ≡ false) (run : IsSameRun mid new) (same_begun : is_begun new ≡ is_begun mid) (distinct : AreDistinct (roamer_messages mid)) (few_messages : length (roamer_messages mid) ≤ 65536) (few : draft.records ≤ roamer_batch old) where
      extent_log : (wrote : List ℕ) → RoamerStandsFor got ended old wrote → IsLogOfEnds got ended new (behind_draft old draft) (wrote ++ (sent_of.preface ++ extent))
      extent_log =
          let same = keeps.same_run.messages in
          let moved : Moved got ended old new writer one.before one.after draft mid.body.items =
          record { was = one.was; ends = same_ends ∙ one.now; gathers = one.step.0; same_run = same_run_then old mid new keeps.same_run run; begun = now; unfaulted = unfaulted } in
          extent_stands got ended old new writer one.before one.after draft mid.body.items sent_of.preface extent moved some few (λ over. (one.step.1.stays_ended over).0) (subst AreDistinct same distinct) (omega (arith, few_messages, ap length same)) standing spelled

      pub extent_appended : false ≡ is_err r → roamer_progress new ≡ behind_draft mid draft → AppendsToLog got ended old new p q
      extent_appended passed progress =
          let behind : behind_draft mid draft ≡ behind_draft old draft =
          ap (λ (x : List Clock × LogProgress). record {
            defined = max x.1.defined draft.ids;
            closed = x.1.closed;
            written = x.1.written + length (due_clocks x.0 x.1.written draft.last);
            latest = max x.1.latest draft.last;
          }) (λ i. (keeps.same_run.clocks i, keeps.progress i)) in
          appended got ended old new (behind_draft old draft) (sent_of.preface ++ extent) p q (same_begun ∙ keeps.begun ∙ now) (progress ∙ behind) (sent_whole r (sent_of.preface ++ extent) p q f g passed sent_of.sent) extent_log

      pub extent_cut : true ≡ is_err r → is_faulted new ≡ true → (roamer_progress new).latest ≡ max (roamer_progress mid).latest draft.last → AppendsToLog got ended old new p q
      extent_cut failed faulted latest =
          let same : (roamer_progress new).latest ≡ max (roamer_progress old).latest draft.last = latest ∙ ap (λ (o : LogProgress). max o.latest draft.last) keeps.progress in
          cut_short got ended old new (behind_draft old draft) (sent_of.preface ++ extent) p q (same_begun ∙ keeps.begun ∙ now) faulted (omega (arith, same)) (err_of r failed sent_of.sent.err) extent_log

  -- ---- no record

  module _ (none : draft.records ≡ 0) (over : all ≡ true) where
    same_got : got one.after ≡ got one.before
    same_got = none_came (roamer_messages old) (roamer_clock old).tick (got one.before) (got one.after) draft mid.body.items one.step.0 none

    pub tells_ended : ChangesOne (ends_of old) (ends_of new) writer (λ before after. ((got after ≡ got before) × (ended after ≡ true)) × KeepsRing ended loads pair plan before after)
    tells_ended =
        let took = one.step.1 in
        record {
          before = one.before;
          after = one.after;
          was = one.was;
          now = same_ends ∙ one.now;
          step = (
            (same_got, took.none none ∙ over),
            record {
              loads_never_fall = took.loads_never_fall;
              same_pair = took.same_pair;
              same_plan = took.same_plan;
              stays_ended = λ own. took.none none ∙ over;
            },
          );
        }

    pub stopped_in_mark : (p q : Told) → is_marked mid writer ≡ false → PutsFront (close_bytes (roamer_version mid) writer) p q → ChangesOne (ends_of old) (ends_of new) writer (VisitStops got ended old writer p q)
    stopped_in_mark p q unmarked puts = record {
      before = one.before;
      after = one.after;
      was = one.was;
      now = same_ends ∙ one.now;
      step = inr (record {
        none = same_got;
        over = one.step.1.none none ∙ over;
        unmarked = ap (λ (o : LogProgress). get_or o.closed writer false) (sym keeps.progress) ∙ unmarked;
        puts = subst (λ (v : ℕ). PutsFront (close_bytes v writer) p q) keeps.same_run.version puts;
      });
    }

  module _ (now : is_begun old ≡ true) (unfaulted : is_faulted old ≡ false) (run : IsSameRun mid new) (same_begun : is_begun new ≡ is_begun mid) (none : draft.records ≡ 0) where
    moved_on : Moved got ended old new writer one.before one.after draft mid.body.items
    moved_on = record { was = one.was; ends = same_ends ∙ one.now; gathers = one.step.0; same_run = same_run_then old mid new keeps.same_run run; begun = now; unfaulted = unfaulted }

    pub nothing_appended : (p : Told) → roamer_progress new ≡ roamer_progress mid → AppendsToLog got ended old new p p
    nothing_appended p same =
        appended got ended old new (roamer_progress old) [] p p (same_begun ∙ keeps.begun ∙ now) (same ∙ keeps.progress) (with_end-none [] p)
        (idle_stands got ended old new writer one.before one.after draft mid.body.items moved_on none (λ own over. one.step.1.none none ∙ (one.step.1.stays_ended over).1))

    module _ (unclosed : is_marked mid writer ≡ false) (over : all ≡ true) where
      mark_log : (wrote : List ℕ) → RoamerStandsFor got ended old wrote → IsLogOfEnds got ended new (progress_closing (roamer_progress old) writer) (wrote ++ close_bytes (roamer_version old) writer)
      mark_log =
          mark_stands got ended old new writer one.before one.after draft mid.body.items moved_on none (ap (λ (o : LogProgress). get_or o.closed writer false) (sym keeps.progress) ∙ unclosed) (one.step.1.none none ∙ over)

      same_mark : close_bytes (roamer_version mid) writer ≡ close_bytes (roamer_version old) writer
      same_mark = ap (λ (v : ℕ). close_bytes v writer) keeps.same_run.version

      pub mark_appended : (p q : Told) → roamer_progress new ≡ progress_closing (roamer_progress mid) writer → q ≡ with_end (close_bytes (roamer_version mid) writer) p → AppendsToLog got ended old new p q
      mark_appended p q progress puts =
          appended got ended old new (progress_closing (roamer_progress old) writer) (close_bytes (roamer_version old) writer) p q (same_begun ∙ keeps.begun ∙ now) (progress ∙ ap (λ (o : LogProgress). progress_closing o writer) keeps.progress) (puts ∙ ap (λ (l : List ℕ). with_end l p) same_mark) mark_log

      pub mark_cut : (p q : Told) → is_faulted new ≡ true → roamer_progress new ≡ roamer_progress mid → PutsFront (close_bytes (roamer_version mid) writer) p q → AppendsToLog got ended old new p q
      mark_cut p q faulted same puts =
          let latest = ap (λ (o : LogProgress). o.latest) (same ∙ keeps.progress) in
          cut_short got ended old new (progress_closing (roamer_progress old) writer) (close_bytes (roamer_version old) writer) p q (same_begun ∙ keeps.begun ∙ now) faulted (omega (arith, latest)) (subst (λ (l : List ℕ). PutsFront l p q) same_mark puts) mark_log

-- ---- after a fault

-- what is said of the blocks of a log of which a front was put
abbrev pub CutSays : {S : Type 0} → (S → List (List ℕ)) → (S → Bool) → List (List Call) → Plan × List S × ℕ → List Block → Type 0
CutSays {S} got ended taken (plan, ends, latest) blocks =
    (greatest_stamp (all_records blocks) ≤ latest) × ((w : ℕ) (end : S) → slice_get ends w ≡ Some end → IsClosed w blocks → (ended end ≡ true) × AreFramesOf plan (got end) (get_or taken w []))

-- frames were thrown away
pub threw : {S : Type 0} (got : S → List (List ℕ)) (ended : S → Bool) (loads : S → ℕ) (pair : S → List ℕ) (plan : S → Plan) (old new : Roamer S) (writer frames : ℕ) (all : Bool) (p : Told) → is_begun old ≡ true → is_faulted old ≡ true
    → ChangesOne (ends_of old) (ends_of new) writer (λ before after. FramesCame (got before) (got after) frames × EndAfterTaking ended loads pair plan frames all before after × StopsTaking got ended loads (roamer_batch old) frames (roamer_room old) before after) → KeepsLog old new → AppendsToLog got ended old new p p
threw {S} got ended loads pair plan old new writer frames all p now faulted one keeps = record {
  bytes = [];
  put_is = with_end-none [] p;
  stands = λ wrote stood.
      let same = keeps.same_run in
      let came = one.step.0 in
      let more : (calls : List Call) → BeginWithFramesOf (plan_of_roamer old) (got one.before) calls → BeginWithFramesOf (plan_of_roamer old) (got one.after) calls =
      λ calls is. record { front = (is.front.0 ++ came.0, came.1 ∙ ap (λ (l : List (List ℕ)). l ++ came.0) is.front.1 ∙ append_assoc _ is.front.0 came.0); lawful = is.lawful } in
      let cut = stood.cut now faulted in
      let planned = plan_of_roamer old in
      let says = λ (w : ℕ) (end : S). (ended end ≡ true) × AreFramesOf planned (got end) (get_or cut.taken w []) in
      let still : ended one.before ≡ true → (ended one.after ≡ true) × (got one.after ≡ got one.before) = λ over.
      let stays = one.step.1.stays_ended over in
      let none : came.0 ≡ [] = nil_from_length came.0 (came.2 ∙ stays.0) in
      (still_ended ended loads pair plan frames all one.before one.after one.step.1 over, came.1 ∙ ap (λ (l : List (List ℕ)). got one.before ++ l) none ∙ append-nil (got one.before)) in
      let closed = still_said (λ w end. IsClosed w cut.log.blocks → says w end) (ends_of old) (ends_of new) writer one.before one.after one.was one.now
      (λ was own.
      let (over, are) = was own in
      let (over_now, same_got) = still over in
      (over_now, subst (λ (frames : List (List ℕ)). AreFramesOf planned frames (get_or cut.taken writer [])) (sym same_got) are))
      cut.closed in
      let said : CutSays got ended cut.taken (plan_of_roamer new, ends_of new, (roamer_progress new).latest) cut.log.blocks =
      subst (λ (x : Plan × ℕ). CutSays got ended cut.taken (x.0, ends_of new, x.1) cut.log.blocks) (λ i. (same_plan old new same i, (sym keeps.progress i).latest)) (cut.latest, closed) in
      let (log, said_now) = same_said_log (CutSays got ended cut.taken (plan_of_roamer new, ends_of new, (roamer_progress new).latest)) (wrote ++ cut.rest) cut.taken (roamer_messages old) (roamer_messages new) (roamer_version old) (roamer_version new) (roamer_clocks old) (roamer_clocks new) (roamer_batch old) (roamer_batch new) (sym same.messages) (sym same.version) (sym same.clocks) (sym same.batch)
      (cut.log, said) in
      subst (RoamerStandsFor got ended new) (sym (append-nil wrote))
      (stands_cut got ended new wrote (keeps.begun ∙ now) (keeps.faulted ∙ faulted) (record {
        taken = cut.taken;
        frames =
            move_ends (λ p es. FramesWereTaken p got es cut.taken) old new writer one.after one.now same
            (zip_step (λ end calls. BeginWithFramesOf (plan_of_roamer old) (got end) calls) (ends_of old) cut.taken writer one.before one.after cut.frames one.was more);
        rest = cut.rest;
        log = log;
        latest = said_now.0;
        closed = said_now.1;
      }));
}

-- ---- a clock that was told

-- the bytes are the log of the same calls by one clock more
log_with_clock : {S : Type 0} (got : S → List (List ℕ)) (ended : S → Bool) (old new : Roamer S) (clock : Clock) (wrote : List ℕ) → AddsClock old clock new → (roamer_progress old).latest < clock.tick → IsLogOfEnds got ended old (roamer_progress old) wrote → IsLogOfEnds got ended new (roamer_progress new) wrote
log_with_clock {S} got ended old new clock wrote adds later log = record {
  taken = log.taken;
  frames = subst (λ (x : Plan × List S). FramesAreTaken x.0 got x.1 log.taken) (λ i. (plan_of (sym adds.messages i) (sym adds.first i).tick, sym adds.ends i)) log.frames;
  log =
      subst (λ (x : List Message × ℕ × List Clock × ℕ × LogProgress). IsLogSoFar wrote log.taken x.0 x.1 x.2 x.3 x.4)
      (λ i. (sym adds.messages i, sym adds.version i, sym adds.clocks i, sym adds.batch i, sym adds.progress i))
      (later_clock wrote log.taken (roamer_messages old) (roamer_version old) (roamer_clocks old) (roamer_batch old) (roamer_progress old) clock log.log later);
  closed = subst (λ (x : List S × LogProgress). HaveEnded ended x.0 x.1.closed) (λ i. (sym adds.ends i, sym adds.progress i)) log.closed;
}

-- and where they are the front of a log, of that one
cut_with_clock : {S : Type 0} (got : S → List (List ℕ)) (ended : S → Bool) (old new : Roamer S) (clock : Clock) (wrote : List ℕ) → AddsClock old clock new → (roamer_progress old).latest < clock.tick → IsCutLogOfEnds got ended old wrote → IsCutLogOfEnds got ended new wrote
cut_with_clock {S} got ended old new clock wrote adds later cut =
    let plan : plan_of_roamer old ≡ plan_of_roamer new = λ i. plan_of (sym adds.messages i) (sym adds.first i).tick in
    let latest = cut.latest in
    let more = later_log (wrote ++ cut.rest) cut.taken (roamer_messages old) (roamer_version old) (roamer_clocks old) (roamer_batch old) clock cut.log (omega (arith, latest, later)) in
    let Says = CutSays got ended cut.taken (plan_of_roamer new, ends_of new, (roamer_progress new).latest) in
    let said : Says cut.log.blocks =
    subst (λ (x : Plan × List S × ℕ). CutSays got ended cut.taken (x.0, x.1, x.2) cut.log.blocks) (λ i. (plan i, sym adds.ends i, (sym adds.progress i).latest)) (cut.latest, cut.closed) in
    let (log, said_now) = same_said_log Says (wrote ++ cut.rest) cut.taken (roamer_messages old) (roamer_messages new) (roamer_version old) (roamer_version new) (roamer_clocks old ++ clock ∷ []) (roamer_clocks new) (roamer_batch old) (roamer_batch new) (sym adds.messages) (sym adds.version) (sym adds.clocks) (sym adds.batch)
    (more.0, subst Says (sym more.2) said) in
    record {
      taken = cut.taken;
      frames = subst (λ (x : Plan × List S). FramesWereTaken x.0 got x.1 cut.taken) (λ i. (plan i, sym adds.ends i)) cut.frames;
      rest = cut.rest;
      log = log;
      latest = said_now.0;
      closed = said_now.1;
    }

-- no call has reached it
pub clock_added : {S : Type 0} (got : S → List (List ℕ)) (ended : S → Bool) (old new : Roamer S) (clock : Clock) → AddsClock old clock new → (roamer_progress old).latest < clock.tick → (wrote : List ℕ) → RoamerStandsFor got ended old wrote → RoamerStandsFor got ended new wrote
clock_added got ended old new clock adds later wrote stood =
    let at : is_begun old ≡ is_begun new = sym adds.begun in
    record {
      nothing = λ unset. stood.nothing (at ∙ unset);
      untaken = λ unset. subst (All (λ end. got end ≡ [])) (sym adds.ends) (stood.untaken (at ∙ unset));
      undefined = λ unset. ap (λ (o : LogProgress). o.defined) adds.progress ∙ stood.undefined (at ∙ unset);
      unclosed = λ unset writer. ap (λ (o : LogProgress). get_or o.closed writer false) adds.progress ∙ stood.unclosed (at ∙ unset) writer;
      first_clock = λ unset. ap (λ (o : LogProgress). o.written) adds.progress ∙ stood.first_clock (at ∙ unset);
      no_stamp = λ unset. ap (λ (o : LogProgress). o.latest) adds.progress ∙ stood.no_stamp (at ∙ unset);
      lawful = λ now unfaulted. log_with_clock got ended old new clock wrote adds later (stood.lawful (at ∙ now) (sym adds.faulted ∙ unfaulted));
      cut = λ now faulted. cut_with_clock got ended old new clock wrote adds later (stood.cut (at ∙ now) (sym adds.faulted ∙ faulted));
    }

-- the first clock stays
pub first_stays : (clocks more : List Clock) (first clock : Clock) → slice_get clocks 0 ≡ Some first → more ≡ clocks ++ clock ∷ [] → slice_get more 0 ≡ Some first
first_stays clocks more first clock there is =
    ap (λ (l : List Clock). slice_get l 0) is ∙ sym (front_get clocks (clock ∷ []) 0 (slice_get_within clocks 0 first there)) ∙ there
