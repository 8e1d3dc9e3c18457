-- No visit finds too little room.
use Rattle.std.proofs.Common.{◌≡◌, ℕ, ◌+◌, ◌<◌, ◌≤◌, true, false, List, [], ◌++◌, length, take, Some, ap, ◌∙◌, inl, inr, length-drop, arith}
use Rattle.std.specs.Prelude.{Result, Ok, Err, OnOk, OnErr}
use Rattle.std.specs.Result.{is_err}
use Rattle.std.proofs.lemmas.List.{length-append, length-take}
use Rattle.std.proofs.lemmas.Option.{same_Some}
use Rattle.nl_io.specs.Count.{Rose}
use Rattle.nl_io.specs.Content.{PutsFront}
use Rattle.log_ends.specs.declared.part_end.PartEnd.{PartEnd}
use Rattle.log_ends.specs.PartEnds.{part_frames, is_part_over}
use Rattle.checkpoint_io.specs.declared.header.Header.{Header}
use Rattle.checkpoint_io.specs.Blocks.{header_bytes, close_bytes}
use Rattle.checkpoint_io.proofs.lemmas.BlockLaws.{le_length, length-header_bytes}
use Rattle.roaming_consumer.specs.declared.roamer.Roamer.{Roamer}
use Rattle.roaming_consumer.specs.declared.visit.Visit.{Visit}
use Rattle.roaming_consumer.specs.declared.visit.SinkFault.{SinkFault}
use Rattle.roaming_consumer.specs.Roamers.{ends_of, is_faulted, roamer_messages, roamer_version, ChangesOne}
use Rattle.roaming_consumer.specs.Sinks.{Sends}
use Rattle.roaming_consumer.specs.Visits.{VisitStops}
use Rattle.log_ends.specs.declared.backlog.Backlog.{Backlog}
use Rattle.log_ends.specs.Backlogs.{held_back, room_len, IsSameRoom}
use Rattle.checkpoint_io.specs.Versions.{writer_len, header_len}
use Rattle.checkpoint_io.proofs.lemmas.VersionLaws.{few_len}
use Rattle.log_ends.specs.Rooms.{visit_len}
use Rattle.log_ends.proofs.Bounds.{visit_fits}
use Rattle.log_ends.proofs.Backs.{all_given}

-- where it refused bytes it is full
full_back : (backlog : Backlog) → 1 ≤ backlog.refused → backlog.given ≡ 0 → length (held_back backlog) ≡ room_len backlog
full_back backlog refused ungiven =
    omega (arith, length-drop backlog.given (take backlog.end backlog.room.items), length-take backlog.end backlog.room.items, backlog.filled refused, backlog.room.ok.0)

-- where nothing waits all is free
pub all_free : (backlog : Backlog) → held_back backlog ≡ [] → (backlog.end ≡ 0) × (backlog.given ≡ 0)
all_free backlog none =
    let same = all_given backlog.room.items backlog.given backlog.end backlog.within.0 (omega (arith, backlog.within.1, backlog.room.ok.0)) none in
    (backlog.freed same, same ∙ backlog.freed same)

-- bytes were to be put for which there is room, so that none were refused
roomy_puts : (bytes : List ℕ) (old new : Backlog) → held_back old ≡ [] → old.refused ≡ 0 → IsSameRoom old new → PutsFront bytes (Some (held_back old)) (Some (held_back new)) → length bytes < room_len old → Rose old.refused new.refused → ⊥
roomy_puts bytes old new none unrefused same (n, within, puts) fits rose =
    let refused : 1 ≤ new.refused = omega (arith, rose, unrefused) in
    let full = full_back new refused (same.given ∙ (all_free old none).1) in
    let put = ap length (same_Some (held_back new) (held_back old ++ take n bytes) puts) in
    omega (arith, full, put, length-append (held_back old) (take n bytes), length-take n bytes, ap length none, same.room, fits)

-- no visit fails
pub visit_succeeds : (old new : Roamer PartEnd) (backlog backlog_after : Backlog) (writer : ℕ) (outcome : Result Visit SinkFault) → held_back backlog ≡ [] → backlog.refused ≡ 0 → visit_len (roamer_messages old) < room_len backlog → IsSameRoom backlog backlog_after
    → OnErr outcome (Rose backlog.refused backlog_after.refused)
    → OnErr outcome (ChangesOne (ends_of old) (ends_of new) writer (VisitStops part_frames is_part_over old writer (Some (held_back backlog)) (Some (held_back backlog_after))))
    → OnErr outcome ⊥
visit_succeeds old new backlog backlog_after writer (Ok visit) none unrefused roomy same rose stops = tt
visit_succeeds old new backlog backlog_after writer (Err fault) none unrefused roomy same rose stops =
    elim stops.step [
      | inl extent ↦
          let few = visit_fits old _ _ extent.preface extent.extent extent.standing extent.spelled in
          roomy_puts (extent.preface ++ extent.extent) backlog backlog_after none unrefused same extent.puts (omega (arith, few, roomy)) rose
      | inr mark ↦
          let version = roamer_version old in
          let long : length (close_bytes version writer) ≡ 1 + writer_len version = omega (arith, le_length (writer_len version) writer) in
          roomy_puts (close_bytes version writer) backlog backlog_after none unrefused same mark.puts (omega (arith, long, few_len version, roomy)) rose
    ]

pub stays_unfaulted : (old new : Roamer PartEnd) (outcome : Result Visit SinkFault) → OnErr outcome ⊥ → OnOk outcome (is_faulted new ≡ is_faulted old) → is_faulted old ≡ false → is_faulted new ≡ false
stays_unfaulted old new (Ok visit) never same before = same ∙ before
stays_unfaulted old new (Err fault) never same before = absurd never

pub stays_unrefused : (backlog backlog_after : Backlog) (outcome : Result Visit SinkFault) → OnErr outcome ⊥ → OnOk outcome (backlog_after.refused ≡ backlog.refused) → backlog.refused ≡ 0 → backlog_after.refused ≡ 0
stays_unrefused backlog backlog_after (Ok visit) never same before = same ∙ before
stays_unrefused backlog backlog_after (Err fault) never same before = absurd never

-- nor does the header
pub header_succeeds : (backlog backlog_after : Backlog) (header : Header) (outcome : Result (Unit {0}) SinkFault) → held_back backlog ≡ [] → backlog.refused ≡ 0 → header_len header.version < room_len backlog → IsSameRoom backlog backlog_after
    → Sends outcome (header_bytes header) (Some (held_back backlog)) (Some (held_back backlog_after)) backlog.refused backlog_after.refused
    → OnErr outcome ⊥
header_succeeds backlog backlog_after header (Ok done) none unrefused roomy same sends = tt
header_succeeds backlog backlog_after header (Err fault) none unrefused roomy same sends =
    roomy_puts (header_bytes header) backlog backlog_after none unrefused same sends.err (omega (arith, length-header_bytes header, roomy)) sends.cause

pub no_error : (outcome : Result (Unit {0}) SinkFault) → OnErr outcome ⊥ → is_err outcome ≡ true → ⊥
no_error (Ok done) never is = absurd cc
no_error (Err fault) never is = never

pub header_unfaulted : (old new : Roamer PartEnd) (backlog backlog_after : Backlog) (outcome : Result (Unit {0}) SinkFault) → OnErr outcome ⊥ → OnOk outcome (is_faulted new ≡ is_faulted old) → OnOk outcome (backlog_after.refused ≡ backlog.refused) → is_faulted old ≡ false → backlog.refused ≡ 0
    → (is_faulted new ≡ false) × (backlog_after.refused ≡ 0)
header_unfaulted old new backlog backlog_after (Ok done) never same same_count before none = (same ∙ before, same_count ∙ none)
header_unfaulted old new backlog backlog_after (Err fault) never same same_count before none = absurd never
