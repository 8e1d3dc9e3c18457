-- What one visit does.
use Rattle.std.proofs.Common.{◌≡◌, ℕ, Bool, true, false, List, [], ◌++◌, length, Some, refl, sym, ap, subst, ◌∙◌, inl, inr, arith}
use Rattle.std.specs.Prelude.{◌⊎◌, Result, Ok, IsErr, All, slice_get, slice_set, if◌then◌else◌}
use Rattle.std.proofs.lemmas.Bool.Decides.{eqb_tells}
use Rattle.std.proofs.lemmas.List.{length-append, append-nil}
use Rattle.std.proofs.lemmas.List.Elements.{All-set}
use Rattle.std.proofs.lemmas.Option.{same_Some}
use Rattle.ring_core.specs.Plans.{BeginsWith}
use Rattle.roaming_consumer.specs.declared.roamer.Roamer.{Roamer}
use Rattle.roaming_consumer.specs.declared.visit.Visit.{Visit}
use Rattle.roaming_consumer.specs.declared.visit.Visit.TheVariants as visits
use Rattle.roaming_consumer.specs.declared.visit.SinkFault.{SinkFault}
use Rattle.nl_io.specs.Content.{with_end}
use Rattle.checkpoint_io.specs.Blocks.{close_bytes}
use Rattle.roaming_consumer.specs.Roamers.{ends_of, roamer_version, is_marked, is_faulted, IsSameRun, ChangesOne, AppendsToLog}
use Rattle.roaming_consumer.specs.Visits.{VisitTells, KeepsRing, Marks, IsWritten, VisitWrites}
use Rattle.log_ends.specs.declared.consumer.ConsumerEnd.{ConsumerEnd}
use Rattle.log_ends.specs.declared.part_end.PartEnd.{PartEnd}
use Rattle.log_ends.specs.PartEnds.{part_frames, is_part_over, part_numbers}
use Rattle.log_ends.specs.declared.backlog.Backlog.{Backlog}
use Rattle.log_ends.specs.Backlogs.{held_back}
use Rattle.log_ends.specs.Consumers.{HasPut, waiting, EndGoesOn}
use Rattle.log_ends.proofs.Lists.{of_place}
use Rattle.log_ends.specs.Rounds.{VisitAnswers, IsSamePart, IsVisited}

abbrev loads : PartEnd → ℕ
loads end = end.out.loads

abbrev Tells : Visit → PartEnd → PartEnd → Type 0
Tells = VisitTells part_frames is_part_over loads

abbrev Keeps : PartEnd → PartEnd → Type 0
Keeps = KeepsRing is_part_over loads part_numbers (λ (end : PartEnd). end.out.plan)

-- frames came behind those that were taken
came_behind : (visit : Visit) (before after : PartEnd) → Tells visit before after → BeginsWith (part_frames after) (part_frames before)
came_behind (visits.Wrote n) before after (some, came) = (came.0, came.1)
came_behind visits.Idle before after tells = ([], tells.0 ∙ sym (append-nil (part_frames before)))
came_behind visits.Ended before after tells = ([], tells.0 ∙ sym (append-nil (part_frames before)))
came_behind (visits.Discarded n) before after (some, came) = (came.0, came.1)

abbrev code : Bool → ℕ
code held = if held then 1 else 0

same_code : (one other : Bool) → code one ≡ code other → one ≡ other
same_code true true same = refl
same_code true false same = absurd cc
same_code false true same = absurd cc
same_code false false same = refl

same_hold : (before after : PartEnd) → Keeps before after → after.held ≡ before.held
same_hold before after keeps = same_code after.held before.held (cc keeps.same_pair)

-- whether the part is being ended is what it was, of each end
pub held_after : (ending : Bool) (ends ends_after : List PartEnd) (writer : ℕ) (before after : PartEnd) → All (λ (end : PartEnd). end.held ≡ ending) ends → slice_get ends writer ≡ Some before → ends_after ≡ slice_set ends writer after → Keeps before after → All (λ (end : PartEnd). end.held ≡ ending) ends_after
held_after ending ends ends_after writer before after all was now keeps =
    let held : PartEnd → Type 0 = λ end. end.held ≡ ending in
    subst (All held) (sym now) (All-set held ends writer after (same_hold before after keeps ∙ of_place held ends writer before all was) all)

goes_on : (visit : Visit) (before after : PartEnd) → Tells visit before after → Keeps before after → EndGoesOn before after
goes_on visit before after tells keeps = record {
  same_ring = cc keeps.same_pair;
  same_part = cc keeps.same_pair;
  same_hold = same_hold before after keeps;
  same_plan = keeps.same_plan;
  loads_never_fall = keeps.loads_never_fall;
  front = came_behind visit before after tells;
}

answers : (visit : Visit) (old new : Roamer PartEnd) (backlog backlog_after : Backlog) (writer : ℕ) (before after first last : PartEnd) → held_back backlog ≡ [] → IsWritten visit → Tells visit before after
    → VisitWrites part_frames is_part_over loads old writer (Some (held_back backlog)) (Some (held_back backlog_after)) visit first last
    → VisitAnswers visit before after (held_back backlog_after)
answers (visits.Wrote n) old new backlog backlog_after writer before after first last none_yet written tells writes =
    λ none.
    let put = ap length (same_Some _ _ writes.puts) in
    let joined = ap length writes.spelled.joined in
    omega (arith, ap length none, put, length-append (held_back backlog) (writes.preface ++ writes.extent), length-append writes.preface writes.extent, joined)
answers visits.Idle old new backlog backlog_after writer before after first last none_yet written tells writes = (
  record { none = tells.0; looked = inr tells.2 },
  tells.1,
  same_Some (held_back backlog_after) (held_back backlog) writes ∙ none_yet,
)
answers visits.Ended old new backlog backlog_after writer before after first last none_yet written tells writes = (record { none = tells.0; looked = inl tells.1 }, tells.1)
answers (visits.Discarded n) old new backlog backlog_after writer before after first last none_yet written tells writes = absurd written

pub stands_after : (old new : Roamer PartEnd) (backlog backlog_after : Backlog) → held_back backlog ≡ [] → AppendsToLog part_frames is_part_over old new (Some (held_back backlog)) (Some (held_back backlog_after))
    → (wrote : List ℕ) → HasPut old wrote → HasPut new (wrote ++ held_back backlog_after)
stands_after old new backlog backlog_after none appends wrote stands =
    let same : held_back backlog_after ≡ appends.bytes = same_Some _ _ appends.put_is ∙ ap (λ (front : List ℕ). front ++ appends.bytes) none in
    subst (λ (bytes : List ℕ). HasPut new (wrote ++ bytes)) (sym same) (appends.stands wrote stands)

marks_kept : (old new : Roamer PartEnd) (writer : ℕ) (outcome : Result Visit SinkFault) → Marks outcome writer old new → (other : ℕ) → is_marked old other ≡ true → is_marked new other ≡ true
marks_kept old new writer outcome marks other marked =
    elim (eqb_tells other writer) [
      | inl same ↦ subst (λ (w : ℕ). is_marked new w ≡ true) (sym same.1) (marks.kept (subst (λ (w : ℕ). is_marked old w ≡ true) same.1 marked))
      | inr apart ↦ marks.others other apart.1 ∙ marked
    ]

-- where no more frames go into the part, it is told as ended
pub again_ended : (ends : List PartEnd) (writer : ℕ) (visit : Visit) (Unmarked : Type 0)
    → ((end : PartEnd) → slice_get ends writer ≡ Some end → is_part_over end ≡ true → (◌≡◌ {A = Result Visit SinkFault} (Ok visit) (Ok visits.Ended)) ⊎ (IsErr {T = Visit} {E = SinkFault} (Ok visit) × Unmarked))
    → (end : PartEnd) → slice_get ends writer ≡ Some end → is_part_over end ≡ true → visit ≡ visits.Ended
again_ended ends writer visit Unmarked again end there over = elim (again end there over) [ inl is ↦ cc is | inr failed ↦ absurd (cc failed.0) ]

-- the mark of a writer that had none waits
mark_waits : (old new : ConsumerEnd) (writer : ℕ) (visit : Visit) (before after : PartEnd) → waiting old ≡ []
    → VisitWrites part_frames is_part_over loads old.roamer writer (Some (held_back old.backlog)) (Some (held_back new.backlog)) visit before after
    → visit ≡ visits.Ended → waiting new ≡ (if is_marked old.roamer writer then [] else close_bytes (roamer_version old.roamer) writer)
mark_waits old new writer (visits.Wrote n) before after none writes is = absurd cc
mark_waits old new writer visits.Idle before after none writes is = absurd cc
mark_waits old new writer (visits.Discarded n) before after none writes is = absurd cc
mark_waits old new writer visits.Ended before after none writes is =
    by_mark (is_faulted old.roamer) (is_marked old.roamer writer) (held_back old.backlog) (held_back new.backlog) (close_bytes (roamer_version old.roamer) writer) old.unfaulted none writes
  where
    by_mark : (faulted marked : Bool) (back back_after mark : List ℕ) → faulted ≡ false → back ≡ [] → Some back_after ≡ (if faulted then Some back else if marked then Some back else with_end mark (Some back)) → back_after ≡ (if marked then [] else mark)
    by_mark true marked back back_after mark unfaulted none puts = absurd cc
    by_mark false true back back_after mark unfaulted none puts = same_Some back_after back puts ∙ none
    by_mark false false back back_after mark unfaulted none puts = same_Some back_after (back ++ mark) puts ∙ ap (λ (front : List ℕ). front ++ mark) none

pub visited : (old new : ConsumerEnd) (writer : ℕ) (visit : Visit) → waiting old ≡ []
    → ChangesOne (ends_of old.roamer) (ends_of new.roamer) writer (λ before after. Tells visit before after × Keeps before after)
    → IsWritten visit
    → Marks (Ok visit) writer old.roamer new.roamer
    → ChangesOne (ends_of old.roamer) (ends_of new.roamer) writer (VisitWrites part_frames is_part_over loads old.roamer writer (Some (held_back old.backlog)) (Some (held_back new.backlog)) visit)
    → AppendsToLog part_frames is_part_over old.roamer new.roamer (Some (held_back old.backlog)) (Some (held_back new.backlog))
    → IsSameRun old.roamer new.roamer
    → ((end : PartEnd) → slice_get (ends_of old.roamer) writer ≡ Some end → is_part_over end ≡ true → visit ≡ visits.Ended)
    → new.writers ≡ old.writers → new.next ≡ old.next → new.over ≡ old.over → IsSamePart old new
    → IsVisited old writer visit new
visited old new writer visit none changes written marks writes appends same_run again same_writers same_next same_over same_part = record {
  before = changes.before;
  after = changes.after;
  was = changes.was;
  now = changes.now;
  goes_on = goes_on visit changes.before changes.after changes.step.0 changes.step.1;
  answers = answers visit old.roamer new.roamer old.backlog new.backlog writer changes.before changes.after writes.before writes.after none written changes.step.0 writes.step;
  stands = stands_after old.roamer new.roamer old.backlog new.backlog none appends;
  again = again changes.before changes.was;
  marked = λ is. marks.written old.unfaulted (ap Ok is);
  mark = mark_waits old new writer visit writes.before writes.after none writes.step;
  others = marks.others;
  kept = marks_kept old.roamer new.roamer writer (Ok visit) marks;
  same_run = same_run;
  same_place = (same_writers, same_next);
  same_over = same_over;
  same_part = same_part;
}
