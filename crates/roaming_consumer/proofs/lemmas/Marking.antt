-- Close marks, from call to call.
use Rattle.std.proofs.Common.{◌≡◌, ℕ, ◌<◌, Bool, true, false, List, length, get_or, refl, sym, ap, subst, ◌∙◌, arith}
use Rattle.std.specs.Prelude.{slice_set, Result, Ok}
use Rattle.std.proofs.lemmas.Bool.{both_ways}
use Rattle.std.proofs.lemmas.List.{get_or-set_same, get_or-set_other}
use Rattle.log_dictionary.specs.declared.clock.Clock.{Clock}
use Rattle.log_dictionary.specs.declared.message.Message.{Message}
use Rattle.arg_records.specs.declared.call.Call.{Call}
use Rattle.checkpoint_io.specs.Blocks.{Block}
use Rattle.checkpoint_io.specs.Validity.{IsClosed}
use Rattle.checkpoint_io.specs.Logs.{LogOf}
use Rattle.roaming_consumer.specs.declared.visit.Visit.{Visit}
use Rattle.roaming_consumer.specs.declared.visit.Visit.TheVariants.{Ended}
use Rattle.roaming_consumer.specs.declared.visit.SinkFault.{SinkFault}
use Rattle.roaming_consumer.specs.declared.roamer.Roamer.{Roamer}
use Rattle.roaming_consumer.specs.Roamers.{ends_of, roamer_progress, is_begun, is_faulted, plan_of_roamer, is_marked, AreMarked, IsClosedLogOfEnds, RoamerStandsFor}
use Rattle.roaming_consumer.specs.Visits.{Marks}
use Rattle.roaming_consumer.proofs.Standing.{taken_length}

-- no mark was written, and the answer is that the writer has ended only where its mark stands
pub marks_stay : {S : Type 0} (outcome : Result Visit SinkFault) (writer : ℕ) (old new : Roamer S) → (roamer_progress new).closed ≡ (roamer_progress old).closed → (is_faulted old ≡ false → outcome ≡ Ok Ended → is_marked old writer ≡ true) → Marks outcome writer old new
marks_stay outcome writer old new same stands =
    let each : (other : ℕ) → is_marked new other ≡ is_marked old other = λ other. ap (λ (l : List Bool). get_or l other false) same in
    record {
      others = λ other differs. each other;
      kept = λ marked. each writer ∙ marked;
      written = λ unfaulted is. each writer ∙ stands unfaulted is;
      new_where = λ unmarked marked. absurd (both_ways (is_marked old writer) unmarked (sym (each writer) ∙ marked));
    }

-- the mark was written
pub mark_written : {S : Type 0} (writer : ℕ) (old new : Roamer S) → (roamer_progress new).closed ≡ slice_set (roamer_progress old).closed writer true → writer < length (roamer_progress old).closed → is_faulted old ≡ false → Marks (Ok Ended) writer old new
mark_written writer old new is within unfaulted =
    let here : is_marked new writer ≡ true = ap (λ (l : List Bool). get_or l writer false) is ∙ get_or-set_same (roamer_progress old).closed writer true false within in
    record {
      others = λ other differs. ap (λ (l : List Bool). get_or l other false) is ∙ get_or-set_other (roamer_progress old).closed writer other true false differs;
      kept = λ marked. here;
      written = λ right ended. here;
      new_where = λ unmarked marked. (unfaulted, refl);
    }

-- where each writer is marked, its close mark is in the log
pub closed_log : {S : Type 0} (got : S → List (List ℕ)) (ended : S → Bool) (roamer : Roamer S) (wrote : List ℕ) → RoamerStandsFor got ended roamer wrote → is_begun roamer ≡ true → is_faulted roamer ≡ false → AreMarked roamer → IsClosedLogOfEnds got roamer wrote
closed_log got ended roamer wrote stood now unfaulted marked =
    let log = stood.lawful now unfaulted in
    let size = taken_length (plan_of_roamer roamer) got (ends_of roamer) log.taken log.frames in
    record {
      taken = log.taken;
      frames = log.frames;
      log = log.log.log;
      closed = λ writer within. sym (log.log.closed writer within) ∙ marked writer (omega (arith, size, within));
    }

-- the log of messages, of a version, clocks and a batch, with what is said of its blocks
abbrev pub SaidLog : (List Block → Type 0) → List ℕ → List (List Call) → List Message × ℕ × List Clock × ℕ → Type 0
SaidLog Says bytes taken (messages, version, clocks, batch) = (log : LogOf bytes taken messages version clocks batch) × Says log.blocks

-- the same with what its close marks say of their writers
abbrev pub MarkedLog : (ℕ → Type 0) → List ℕ → List (List Call) → List Message × ℕ × List Clock × ℕ → Type 0
MarkedLog Says bytes taken run = SaidLog (λ blocks. (writer : ℕ) → IsClosed writer blocks → Says writer) bytes taken run

-- the log of other messages, of another version, other clocks and another batch, which are the same
pub same_said_log : (Says : List Block → Type 0) (bytes : List ℕ) (taken : List (List Call)) (messages names : List Message) (version release : ℕ) (clocks watches : List Clock) (batch size : ℕ) → messages ≡ names → version ≡ release → clocks ≡ watches → batch ≡ size
    → SaidLog Says bytes taken (messages, version, clocks, batch) → SaidLog Says bytes taken (names, release, watches, size)
same_said_log Says bytes taken messages names version release clocks watches batch size same_messages same_version same_clocks same_batch =
    subst (SaidLog Says bytes taken) (λ i. (same_messages i, same_version i, same_clocks i, same_batch i))

pub same_marked_log : (Says : ℕ → Type 0) (bytes : List ℕ) (taken : List (List Call)) (messages names : List Message) (version release : ℕ) (clocks watches : List Clock) (batch size : ℕ) → messages ≡ names → version ≡ release → clocks ≡ watches → batch ≡ size
    → MarkedLog Says bytes taken (messages, version, clocks, batch) → MarkedLog Says bytes taken (names, release, watches, size)
same_marked_log Says = same_said_log (λ blocks. (writer : ℕ) → IsClosed writer blocks → Says writer)
