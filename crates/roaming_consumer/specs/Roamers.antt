-- What a roamer keeps, and the bytes for which it stands.
use Rattle.std.specs.Prelude.{◌≡◌, ◌+◌, ◌<◌, ◌≤◌, ℕ, Bool, true, false, List, [], ◌∷◌, ◌++◌, get_or, All, Some, slice_get, slice_set, length, max}
use Rattle.std.specs.List.{AllZip}
use Rattle.nl_io.specs.Count.{Rose}
use Rattle.nl_io.specs.Content.{Told, with_end}
use Rattle.checkpoint_io.specs.declared.header.Header.{Header}
use Rattle.checkpoint_io.specs.Versions.{has_clocks, most_body}
use Rattle.checkpoint_io.specs.Blocks.{all_records}
use Rattle.checkpoint_io.specs.Logs.{greatest_stamp, LogOf}
use Rattle.checkpoint_io.specs.Validity.{IsClosed}
use Rattle.log_dictionary.specs.declared.clock.Clock.{Clock}
use Rattle.log_dictionary.specs.declared.message.Message.{Message}
use Rattle.log_dictionary.specs.Clocks.{FollowsClocks}
use Rattle.arg_records.specs.declared.call.Call.{Call}
use Rattle.ring_core.specs.Plans.{Plan, plan_of, frames_of, AreFramesOf, BeginsWith}
use Rattle.roaming_consumer.specs.declared.draft.Draft.{Draft}
use Rattle.roaming_consumer.specs.declared.roamer.Roamer.{Roamer}
use Rattle.roaming_consumer.specs.Growth.{LogProgress, due_clocks, IsLogSoFar}

-- the ends of the writers, by their numbers
abbrev pub ends_of : {S : Type 0} → Roamer S → List S
ends_of roamer = roamer.ends.items

abbrev pub roamer_messages : {S : Type 0} → Roamer S → List Message
roamer_messages roamer = roamer.dictionary.now

-- the version of the log
abbrev pub roamer_version : {S : Type 0} → Roamer S → ℕ
roamer_version roamer = roamer.version

-- the clocks that were told so far, and the first of them, which the header has
abbrev pub roamer_clocks : {S : Type 0} → Roamer S → List Clock
roamer_clocks roamer = roamer.clocks

abbrev pub roamer_clock : {S : Type 0} → Roamer S → Clock
roamer_clock roamer = roamer.clock

-- the most bytes of an extent's body
abbrev pub roamer_room : {S : Type 0} → Roamer S → ℕ
roamer_room roamer = most_body roamer.version

-- the most frames of a visit
abbrev pub roamer_batch : {S : Type 0} → Roamer S → ℕ
roamer_batch roamer = roamer.batch

-- what is kept of the log
abbrev pub roamer_progress : {S : Type 0} → Roamer S → LogProgress
roamer_progress roamer = record {
  defined = roamer.defined;
  closed = roamer.closed.items;
  written = roamer.written;
  latest = roamer.latest;
}

-- whether the close mark of the writer was written
abbrev pub is_marked : {S : Type 0} → Roamer S → ℕ → Bool
is_marked roamer writer = get_or (roamer_progress roamer).closed writer false

-- each writer's close mark was written
abbrev pub AreMarked : {S : Type 0} → Roamer S → Type 0
AreMarked roamer = (writer : ℕ) → writer < length (ends_of roamer) → is_marked roamer writer ≡ true

-- the same close marks were written
abbrev pub KeepsMarks : {S : Type 0} → Roamer S → Roamer S → Type 0
KeepsMarks old new = (writer : ℕ) → is_marked new writer ≡ is_marked old writer

-- whether the header was to be written
abbrev pub is_begun : {S : Type 0} → Roamer S → Bool
is_begun roamer = roamer.begun

-- whether a call answered that a write failed
abbrev pub is_faulted : {S : Type 0} → Roamer S → Bool
is_faulted roamer = roamer.faulted

-- what is kept of the log behind the extent of a draft, and the preface that it wants
abbrev pub behind_draft : {S : Type 0} → Roamer S → Draft → LogProgress
behind_draft roamer draft = record (roamer_progress roamer) {
  defined = max (roamer_progress roamer).defined draft.ids;
  written = (roamer_progress roamer).written
      + length (due_clocks (roamer_clocks roamer) (roamer_progress roamer).written draft.last);
  latest = max (roamer_progress roamer).latest draft.last;
}

-- what the roamer's ends are to agree on
abbrev pub plan_of_roamer : {S : Type 0} → Roamer S → Plan
plan_of_roamer roamer = plan_of (roamer_messages roamer) (roamer_clock roamer).tick

-- each end has the plan of the roamer
abbrev pub ArePlanned : {S : Type 0} → (S → Plan) → Roamer S → Type 0
ArePlanned plan roamer = All (λ end. plan end ≡ plan_of_roamer roamer) (ends_of roamer)

-- the same dictionary, version, clocks and batch
pub record IsSameRun {S : Type 0} (old new : Roamer S) : Type 0 where
  pub messages : roamer_messages new ≡ roamer_messages old
  pub version : roamer_version new ≡ roamer_version old
  pub clocks : roamer_clocks new ≡ roamer_clocks old
  pub clock : roamer_clock new ≡ roamer_clock old
  pub batch : roamer_batch new ≡ roamer_batch old

-- One of the ends took a step, and all others are as they were.
pub record ChangesOne {S : Type 0} (ends ends_after : List S) (writer : ℕ) (Step : S → S → Type 0) : Type 0 where
  pub before : S
  pub after : S
  pub was : slice_get ends writer ≡ Some before
  pub now : ends_after ≡ slice_set ends writer after
  pub step : Step before after

-- of each end the frames that were taken are those of the calls of one list
abbrev pub FramesAreTaken : {S : Type 0} → Plan → (S → List (List ℕ)) → List S → List (List Call) → Type 0
FramesAreTaken plan got ends taken = AllZip (λ end calls. AreFramesOf plan (got end) calls) ends taken

-- the frames begin with those of the calls, which are lawful
pub record BeginWithFramesOf (plan : Plan) (frames : List (List ℕ)) (calls : List Call) : Type 0 where
  pub front : BeginsWith frames (frames_of calls)
  pub lawful : AreFramesOf plan (frames_of calls) calls

-- of each end the first frames that were taken are those of the calls of one list
abbrev pub FramesWereTaken : {S : Type 0} → Plan → (S → List (List ℕ)) → List S → List (List Call) → Type 0
FramesWereTaken plan got ends taken = AllZip (λ end calls. BeginWithFramesOf plan (got end) calls) ends taken

-- a writer whose close mark was written has ended
abbrev pub HaveEnded : {S : Type 0} → (S → Bool) → List S → List Bool → Type 0
HaveEnded {S} ended ends closed = (writer : ℕ) (end : S) → slice_get ends writer ≡ Some end
    → get_or closed writer false ≡ true
    → ended end ≡ true

-- The bytes are the log of the calls whose frames were taken from the ends, with a close mark of each writer that was
-- closed, and this is kept of it.
pub record IsLogOfEnds {S : Type 0} (got : S → List (List ℕ)) (ended : S → Bool) (roamer : Roamer S)
    (progress : LogProgress) (wrote : List ℕ) : Type 0 where
  pub taken : List (List Call)
  pub frames : FramesAreTaken (plan_of_roamer roamer) got (ends_of roamer) taken
  pub log : IsLogSoFar wrote taken (roamer_messages roamer) (roamer_version roamer) (roamer_clocks roamer)
      (roamer_batch roamer) progress
  pub closed : HaveEnded ended (ends_of roamer) progress.closed

-- The bytes are the front of a log. It is that of the first calls whose frames were taken from the ends, of which none has
-- a stamp above the greatest one that is kept. A writer whose close mark is in it has ended, and all calls whose frames
-- were taken of it are there.
pub record IsCutLogOfEnds {S : Type 0} (got : S → List (List ℕ)) (ended : S → Bool) (roamer : Roamer S)
    (wrote : List ℕ) : Type 0 where
  pub taken : List (List Call)
  pub frames : FramesWereTaken (plan_of_roamer roamer) got (ends_of roamer) taken
  pub rest : List ℕ
  pub log : LogOf (wrote ++ rest) taken (roamer_messages roamer) (roamer_version roamer) (roamer_clocks roamer)
      (roamer_batch roamer)
  pub latest : greatest_stamp (all_records log.blocks) ≤ (roamer_progress roamer).latest
  pub closed : (writer : ℕ) (end : S) → slice_get (ends_of roamer) writer ≡ Some end → IsClosed writer log.blocks
      → (ended end ≡ true) × AreFramesOf (plan_of_roamer roamer) (got end) (get_or taken writer [])

-- The bytes are the log of the calls whose frames were taken from the ends, and the close mark of each writer is in it.
pub record IsClosedLogOfEnds {S : Type 0} (got : S → List (List ℕ)) (roamer : Roamer S) (wrote : List ℕ) : Type 0 where
  pub taken : List (List Call)
  pub frames : FramesAreTaken (plan_of_roamer roamer) got (ends_of roamer) taken
  pub log : LogOf wrote taken (roamer_messages roamer) (roamer_version roamer) (roamer_clocks roamer)
      (roamer_batch roamer)
  pub closed : (writer : ℕ) → writer < length taken → IsClosed writer log.blocks

-- The roamer's calls have put these bytes. Before the header there are none, and nothing was taken, defined or closed,
-- nor any clock written but the first, which the header is to have;
-- from then on and until a write fails they are the log of what was taken. Once one has failed they stay the front of a
-- log of what was taken by then, the frames that were to be written among it.
pub record RoamerStandsFor {S : Type 0} (got : S → List (List ℕ)) (ended : S → Bool) (roamer : Roamer S)
    (wrote : List ℕ) : Type 0 where
  pub nothing : is_begun roamer ≡ false → wrote ≡ []
  pub untaken : is_begun roamer ≡ false → All (λ end. got end ≡ []) (ends_of roamer)
  pub undefined : is_begun roamer ≡ false → (roamer_progress roamer).defined ≡ 0
  pub unclosed : is_begun roamer ≡ false → (writer : ℕ) → get_or (roamer_progress roamer).closed writer false ≡ false
  pub first_clock : is_begun roamer ≡ false → (roamer_progress roamer).written ≡ 1
  pub no_stamp : is_begun roamer ≡ false → (roamer_progress roamer).latest ≡ 0
  pub lawful : is_begun roamer ≡ true → is_faulted roamer ≡ false
      → IsLogOfEnds got ended roamer (roamer_progress roamer) wrote
  pub cut : is_begun roamer ≡ true → is_faulted roamer ≡ true → IsCutLogOfEnds got ended roamer wrote

-- what is told of an end from which so many frames were taken, and of which the last answer was that all had ended or not
pub record EndAfterTaking {S : Type 0} (ended : S → Bool) (loads : S → ℕ) (pair : S → List ℕ) (plan : S → Plan)
    (frames : ℕ)
    (all : Bool) (before after : S) : Type 0 where
  pub none : frames ≡ 0 → ended after ≡ all
  pub looked : frames ≡ 0 → all ≡ false → Rose (loads before) (loads after)
  pub stays_ended : ended before ≡ true → (frames ≡ 0) × (all ≡ true)
  pub loads_never_fall : loads before ≤ loads after
  pub same_pair : pair after ≡ pair before
  pub same_plan : plan after ≡ plan before

-- all but the ends is as it was
pub record KeepsLog {S : Type 0} (old new : Roamer S) : Type 0 where
  pub same_run : IsSameRun old new
  pub progress : roamer_progress new ≡ roamer_progress old
  pub begun : is_begun new ≡ is_begun old
  pub faulted : is_faulted new ≡ is_faulted old

-- the header of the roamer's log
abbrev pub roamer_header : {S : Type 0} → Roamer S → Header
roamer_header roamer = record {
  version = roamer_version roamer;
  writers = length (ends_of roamer);
  clock = roamer_clock roamer;
}

-- The sink took some bytes. Where the roamer stood for others, it stands for them with these behind them.
pub record AppendsToLog {S : Type 0} (got : S → List (List ℕ)) (ended : S → Bool) (old new : Roamer S)
    (put put_after : Told) : Type 0 where
  pub bytes : List ℕ
  pub put_is : put_after ≡ with_end bytes put
  pub stands : (wrote : List ℕ) → RoamerStandsFor got ended old wrote → RoamerStandsFor got ended new (wrote ++ bytes)

-- ---- a clock that is told

-- the clock may follow those that were told: the log may have more than one, and it follows the last one
pub record MayTakeClock {S : Type 0} (roamer : Roamer S) (clock : Clock) : Type 0 where
  pub version_has : has_clocks (roamer_version roamer) ≡ true
  pub follows : FollowsClocks (roamer_clocks roamer) clock

-- the clock was told, and all else is as it was
pub record AddsClock {S : Type 0} (old : Roamer S) (clock : Clock) (new : Roamer S) : Type 0 where
  pub clocks : roamer_clocks new ≡ roamer_clocks old ++ clock ∷ []
  pub first : roamer_clock new ≡ roamer_clock old
  pub messages : roamer_messages new ≡ roamer_messages old
  pub version : roamer_version new ≡ roamer_version old
  pub batch : roamer_batch new ≡ roamer_batch old
  pub ends : ends_of new ≡ ends_of old
  pub progress : roamer_progress new ≡ roamer_progress old
  pub begun : is_begun new ≡ is_begun old
  pub faulted : is_faulted new ≡ is_faulted old
