-- What rounds of visits do.
use Rattle.std.proofs.Common.{◌≡◌, ◌≢◌, ℕ, ◌+◌, ◌<◌, ◌≤◌, Bool, true, false, true≢false, List, [], ◌++◌, length, map, Some, refl, sym, ap, subst, ◌∙◌, append_assoc, inl, inr, ⊎_elim, arith}
use Rattle.std.specs.Prelude.{◌⊎◌, Result, Ok, Err, OnOk, OnErr, slice_get, slice_set}
use Rattle.std.proofs.Math.Seq.{map-set_same}
use Rattle.std.proofs.lemmas.Bool.{cases_lt}
use Rattle.std.proofs.lemmas.List.{append-nil, length-map}
use Rattle.std.proofs.lemmas.Option.{get_or_from_slice_get}
use Rattle.nl_io.specs.Count.{Rose}
use Rattle.nl_io.specs.Content.{Told, with_end}
use Rattle.nl_io.proofs.lemmas.Contents.{with_end-none, with_end-both}
use Rattle.ring_core.specs.Plans.{Plan}
use Rattle.roaming_consumer.specs.declared.roamer.Roamer.{Roamer}
use Rattle.roaming_consumer.specs.declared.visit.Visit.{Visit}
use Rattle.roaming_consumer.specs.declared.visit.Visit.TheVariants.{Ended}
use Rattle.roaming_consumer.specs.declared.visit.SinkFault.{SinkFault}
use Rattle.roaming_consumer.specs.Roamers.{ends_of, is_begun, is_faulted, is_marked, ArePlanned, IsSameRun, ChangesOne, RoamerStandsFor, AppendsToLog}
use Rattle.roaming_consumer.specs.Visits.{VisitTells, KeepsRing, Marks}
use Rattle.roaming_consumer.proofs.lemmas.OnePlace.{get_set_other, get_set_same}
use Rattle.trace_session.specs.Rounds.{Roams, IsOverUpTo}

-- ---- what the sink was given

adds_none : {S : Type 0} (got : S → List (List ℕ)) (ended : S → Bool) (roamer : Roamer S) (put : Told) → AppendsToLog got ended roamer roamer put put
adds_none got ended roamer put = record {
  bytes = [];
  put_is = with_end-none [] put;
  stands = λ wrote was. subst (RoamerStandsFor got ended roamer) (sym (append-nil wrote)) was;
}

adds_then : {S : Type 0} {got : S → List (List ℕ)} {ended : S → Bool} {old mid new : Roamer S} {put put_mid put_new : Told} → AppendsToLog got ended old mid put put_mid → AppendsToLog got ended mid new put_mid put_new → AppendsToLog got ended old new put put_new
adds_then {got = got} {ended = ended} {new = new} {put = put} first second = record {
  bytes = first.bytes ++ second.bytes;
  put_is = second.put_is ∙ ap (with_end second.bytes) first.put_is ∙ with_end-both first.bytes second.bytes put;
  stands = λ wrote was. subst (RoamerStandsFor got ended new) (append_assoc wrote first.bytes second.bytes) (second.stands (wrote ++ first.bytes) (first.stands wrote was));
}

-- ---- visits

-- none
pub roams_none : {S : Type 0} (got : S → List (List ℕ)) (ended : S → Bool) (pair : S → List ℕ) (plan : S → Plan) (roamer : Roamer S) (put : Told) (faults : ℕ) → ArePlanned plan roamer → is_begun roamer ≡ true → Roams got ended pair plan roamer roamer put put faults faults
roams_none got ended pair plan roamer put faults planned begun = record {
  adds = adds_none got ended roamer put;
  same_run = record { messages = refl; version = refl; clocks = refl; clock = refl; batch = refl };
  same_rings = refl;
  planned = planned;
  begun = begun;
  count = omega arith;
  unfaulted = λ fine. (fine, refl);
  faulted = λ failed. inl failed;
}

-- some, and then others
pub roams_then : {S : Type 0} {got : S → List (List ℕ)} {ended : S → Bool} {pair : S → List ℕ} {plan : S → Plan} {old mid new : Roamer S} {put put_mid put_new : Told} {faults faults_mid faults_new : ℕ} → Roams got ended pair plan old mid put put_mid faults faults_mid
    → Roams got ended pair plan mid new put_mid put_new faults_mid faults_new → Roams got ended pair plan old new put put_new faults faults_new
roams_then {old = old} {faults = faults} {faults_mid = faults_mid} {faults_new = faults_new} first second = record {
  adds = adds_then first.adds second.adds;
  same_run = record {
    messages = second.same_run.messages ∙ first.same_run.messages;
    version = second.same_run.version ∙ first.same_run.version;
    clocks = second.same_run.clocks ∙ first.same_run.clocks;
    clock = second.same_run.clock ∙ first.same_run.clock;
    batch = second.same_run.batch ∙ first.same_run.batch;
  };
  same_rings = second.same_rings ∙ first.same_rings;
  planned = second.planned;
  begun = second.begun;
  count = omega (arith, first.count, second.count);
  unfaulted = λ fine.
      let later = second.unfaulted fine in
      let sooner = first.unfaulted later.0 in
      (sooner.0, later.1 ∙ sooner.1);
  faulted = λ failed.
      elim (second.faulted failed) as (λ _. (is_faulted old ≡ true) ⊎ Rose faults faults_new) [
        | inl was ↦
            elim (first.faulted was) as (λ _. (is_faulted old ≡ true) ⊎ Rose faults faults_new) [
              | inl before ↦ inl before
              | inr rose ↦ inr (omega (arith, rose, second.count))
            ]
        | inr rose ↦ inr (omega (arith, first.count, rose))
      ];
}

no_fault : (r : Result Visit SinkFault) (old new : Bool) (faults faults_new : ℕ) → OnOk r (faults_new ≡ faults) → OnOk r (new ≡ old) → OnErr r ((old ≡ false) × (new ≡ true)) → new ≡ false → (old ≡ false) × (faults_new ≡ faults)
no_fault (Ok visit) old new faults faults_new counted ok err fine = (sym ok ∙ fine, counted)
no_fault (Err fault) old new faults faults_new counted ok err fine = absurd (true≢false (sym err.1 ∙ fine))

a_fault : (r : Result Visit SinkFault) (old new : Bool) (faults faults_new : ℕ) → OnErr r (Rose faults faults_new) → OnOk r (new ≡ old) → OnErr r ((old ≡ false) × (new ≡ true)) → new ≡ true → (old ≡ true) ⊎ Rose faults faults_new
a_fault (Ok visit) old new faults faults_new cause ok err failed = inl (sym ok ∙ failed)
a_fault (Err fault) old new faults faults_new cause ok err failed = inr cause

-- the end that took a step is that of the same ring
rings_still : {S : Type 0} (pair : S → List ℕ) (ends : List S) (writer : ℕ) (before after : S) → slice_get ends writer ≡ Some before → pair after ≡ pair before → map pair (slice_set ends writer after) ≡ map pair ends
rings_still pair ends writer before after was same =
    map-set_same pair ends writer after before (same ∙ ap pair (sym (get_or_from_slice_get ends writer before before was)))

-- one
pub roams_visit : {S : Type 0} (got : S → List (List ℕ)) (ended : S → Bool) (pair : S → List ℕ) (plan : S → Plan) (r : Result Visit SinkFault) (old new : Roamer S) (writer : ℕ) (Step : S → S → Type 0) (put put_new : Told) (faults faults_new : ℕ)
    → ChangesOne (ends_of old) (ends_of new) writer Step → ((before after : S) → Step before after → pair after ≡ pair before) → AppendsToLog got ended old new put put_new → OnOk r (faults_new ≡ faults) → OnErr r (Rose faults faults_new) → faults ≤ faults_new
    → OnOk r (is_faulted new ≡ is_faulted old) → OnErr r ((is_faulted old ≡ false) × (is_faulted new ≡ true)) → is_begun new ≡ true → IsSameRun old new → ArePlanned plan new → Roams got ended pair plan old new put put_new faults faults_new
roams_visit got ended pair plan r old new writer Step put put_new faults faults_new one still adds counted cause count ok err begun same_run planned = record {
  adds = adds;
  same_run = same_run;
  same_rings = ap (map pair) one.now ∙ rings_still pair (ends_of old) writer one.before one.after one.was (still one.before one.after one.step);
  planned = planned;
  begun = begun;
  count = count;
  unfaulted = no_fault r (is_faulted old) (is_faulted new) faults faults_new counted ok err;
  faulted = a_fault r (is_faulted old) (is_faulted new) faults faults_new cause ok err;
}

-- ---- writers that have ended

pub over_none : {S : Type 0} (ended : S → Bool) (roamer : Roamer S) → IsOverUpTo ended 0 roamer
over_none ended roamer = record {
  ends = λ writer end below there. absurd (omega (arith, below));
  marked = λ fine writer below. absurd (omega (arith, below));
}

-- of all below the next number: of those below this one, and of this one
below_next : (P : ℕ → Type 0) (n : ℕ) → ((k : ℕ) → k < n → P k) → P n → (k : ℕ) → k < n + 1 → P k
below_next P n others here k below =
    ⊎_elim
    (λ (less : k < n). others k less)
    (λ (not : n ≤ k). let same : n ≡ k = omega (arith, not, below) in subst P same here)
    (cases_lt k n)

-- the writer of this number has ended too
pub over_more : {S : Type 0} (got : S → List (List ℕ)) (ended : S → Bool) (loads : S → ℕ) (pair : S → List ℕ) (plan : S → Plan) (visit : Visit) (old new : Roamer S) (writer : ℕ) → visit ≡ Ended
    → ChangesOne (ends_of old) (ends_of new) writer (λ before after. VisitTells got ended loads visit before after × KeepsRing ended loads pair plan before after) → Marks (Ok visit) writer old new
    → is_faulted new ≡ is_faulted old → IsOverUpTo ended writer old → IsOverUpTo ended (writer + 1) new
over_more {S} got ended loads pair plan visit old new writer is one marks same before =
    let told = subst (λ (v : Visit). VisitTells got ended loads v one.before one.after) is one.step.0 in
    record {
      ends = λ place end below there.
          let at : slice_get (slice_set (ends_of old) writer one.after) place ≡ Some end = ap (λ (ends : List S). slice_get ends place) (sym one.now) ∙ there in
          ⊎_elim
          (λ (less : place < writer).
          let differs : place ≢ writer = omega (arith, less) in
          before.ends place end less (sym (get_set_other (ends_of old) writer place one.after differs) ∙ at))
          (λ (not : writer ≤ place).
          let here : place ≡ writer = omega (arith, not, below) in
          let found = get_set_same (ends_of old) writer one.after end (ap (λ (n : ℕ). slice_get (slice_set (ends_of old) writer one.after) n) (sym here) ∙ at) in
          ap ended (sym found) ∙ told.1)
          (cases_lt place writer);
      marked = λ fine.
          let was = sym same ∙ fine in
          below_next (λ (place : ℕ). is_marked new place ≡ true) writer
          (λ place less. let differs : place ≢ writer = omega (arith, less) in marks.others place differs ∙ before.marked was place less)
          (marks.written was (ap Ok is));
    }

-- ---- counts

-- there are as many rings as before
pub as_many : {S : Type 0} (pair : S → List ℕ) (ends ends_new : List S) → map pair ends_new ≡ map pair ends → length ends_new ≡ length ends
as_many pair ends ends_new same = omega (arith, ap length same, length-map ends pair, length-map ends_new pair)
