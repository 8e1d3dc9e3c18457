-- The ends of a roamer, where a part of the log ends or begins.
use Rattle.std.proofs.Common.{◌≡◌, ℕ, Bool, List, [], ◌++◌, ◌≤◌, length, get_or, false, refl, sym, ap, subst, ◌∙◌, arith}
use Rattle.std.specs.Prelude.{All, take, drop}
use Rattle.std.proofs.lemmas.List.{take_at}
use Rattle.std.specs.List.{AllZip}
use Rattle.checkpoint_io.specs.Blocks.{all_records}
use Rattle.checkpoint_io.specs.Logs.{greatest_stamp}
use Rattle.ring_core.specs.Plans.{Plan, AreFramesOf}
use Rattle.roaming_consumer.specs.declared.roamer.Roamer.{Roamer}
use Rattle.roaming_consumer.specs.Growth.{LogProgress}
use Rattle.roaming_consumer.specs.Parting.{IsStopped}
use Rattle.roaming_consumer.specs.Roamers.{ends_of, roamer_messages, roamer_version, roamer_clocks, roamer_batch, roamer_progress, is_begun, plan_of_roamer, ArePlanned, KeepsLog, BeginWithFramesOf, IsLogOfEnds, IsCutLogOfEnds, RoamerStandsFor}
use Rattle.roaming_consumer.proofs.lemmas.OnePlace.{all_across, zip_across, beside}
use Rattle.roaming_consumer.proofs.lemmas.Marking.{same_said_log}
use Rattle.roaming_consumer.proofs.Standing.{same_log, same_plan}
use Rattle.roaming_consumer.proofs.Additions.{CutSays}

-- what was lent of the ends is what they are afterwards
pub written_back : {S : Type 0} (R : S → S → Type 0) (ends lent now : List S) (len : ℕ) → lent ≡ ends → length now ≡ length lent → length lent ≡ len → AllZip R lent now → AllZip R ends (take len (now ++ drop (length now) ends))
written_back {S} R ends lent now len same long size all =
    subst (λ (pair : List S × List S). AllZip R pair.0 pair.1) (λ i. (same i, sym (take_at now (drop (length now) ends) len (omega (arith, long, size))) i)) all

-- each end has the plan that it had
pub planned_across : {S : Type 0} (R : S → S → Type 0) (plan : S → Plan) (old : Roamer S) (ends : List S) → ((before after : S) → R before after → plan after ≡ plan before) → AllZip R (ends_of old) ends → ArePlanned plan old → All (λ end. plan end ≡ plan_of_roamer old) ends
planned_across R plan old ends keeps each planned =
    all_across R (λ end. plan end ≡ plan_of_roamer old) (λ end. plan end ≡ plan_of_roamer old) (λ before after is was. keeps before after is ∙ was) (ends_of old) ends each planned

held_log : {S : Type 0} (got : S → List (List ℕ)) (ended : S → Bool) (plan : S → Plan) (old new : Roamer S) (wrote : List ℕ) → AllZip (IsStopped got ended plan) (ends_of old) (ends_of new) → KeepsLog old new → IsLogOfEnds got ended old (roamer_progress old) wrote → IsLogOfEnds got ended new (roamer_progress new) wrote
held_log got ended plan old new wrote held keeps log = record {
  taken = log.taken;
  frames =
      zip_across (IsStopped got ended plan) (λ end calls. AreFramesOf (plan_of_roamer old) (got end) calls) (λ end calls. AreFramesOf (plan_of_roamer new) (got end) calls)
      (λ before after calls is. subst (λ (x : Plan × List (List ℕ)). AreFramesOf x.0 x.1 calls) (λ i. (same_plan old new keeps.same_run i, sym is.same_got i)))
      (ends_of old) (ends_of new) log.taken held log.frames;
  log = same_log old new wrote wrote log.taken (roamer_progress old) (roamer_progress new) keeps.same_run refl (sym keeps.progress) log.log;
  closed = λ writer end there marked. (beside (IsStopped got ended plan) (ends_of old) (ends_of new) writer end held there).2.over;
}

held_cut : {S : Type 0} (got : S → List (List ℕ)) (ended : S → Bool) (plan : S → Plan) (old new : Roamer S) (wrote : List ℕ) → AllZip (IsStopped got ended plan) (ends_of old) (ends_of new) → KeepsLog old new → IsCutLogOfEnds got ended old wrote → IsCutLogOfEnds got ended new wrote
held_cut got ended plan old new wrote held keeps cut =
    let run = keeps.same_run in
    let Says = CutSays got ended cut.taken (plan_of_roamer new, ends_of new, (roamer_progress new).latest) in
    let said_before : Says cut.log.blocks = (
      subst (λ (n : ℕ). greatest_stamp (all_records cut.log.blocks) ≤ n) (λ i. (sym keeps.progress i).latest) cut.latest,
      λ writer end there is.
          let found = beside (IsStopped got ended plan) (ends_of old) (ends_of new) writer end held there in (
            found.2.over,
            subst (λ (x : Plan × List (List ℕ)). AreFramesOf x.0 x.1 (get_or cut.taken writer [])) (λ i. (same_plan old new run i, sym found.2.same_got i)) (cut.closed writer found.0 found.1 is).1,
          ),
    ) in
    let (log, said) = same_said_log Says (wrote ++ cut.rest) cut.taken (roamer_messages old) (roamer_messages new) (roamer_version old) (roamer_version new) (roamer_clocks old) (roamer_clocks new) (roamer_batch old) (roamer_batch new) (sym run.messages) (sym run.version) (sym run.clocks) (sym run.batch)
    (cut.log, said_before) in
    record {
      taken = cut.taken;
      frames =
          zip_across (IsStopped got ended plan) (λ end calls. BeginWithFramesOf (plan_of_roamer old) (got end) calls) (λ end calls. BeginWithFramesOf (plan_of_roamer new) (got end) calls)
          (λ before after calls is. subst (λ (x : Plan × List (List ℕ)). BeginWithFramesOf x.0 x.1 calls) (λ i. (same_plan old new run i, sym is.same_got i)))
          (ends_of old) (ends_of new) cut.taken held cut.frames;
      rest = cut.rest;
      log = log;
      latest = said.0;
      closed = said.1;
    }

-- what a roamer stands for stays where its ends give no frame any more
pub held_stands : {S : Type 0} (got : S → List (List ℕ)) (ended : S → Bool) (plan : S → Plan) (old new : Roamer S) → AllZip (IsStopped got ended plan) (ends_of old) (ends_of new) → KeepsLog old new → (wrote : List ℕ) → RoamerStandsFor got ended old wrote → RoamerStandsFor got ended new wrote
held_stands got ended plan old new held keeps wrote stood =
    let at : is_begun old ≡ is_begun new = sym keeps.begun in
    record {
      nothing = λ unset. stood.nothing (at ∙ unset);
      untaken = λ unset. all_across (IsStopped got ended plan) (λ end. got end ≡ []) (λ end. got end ≡ []) (λ before after is none. is.same_got ∙ none) (ends_of old) (ends_of new) held (stood.untaken (at ∙ unset));
      undefined = λ unset. ap (λ (o : LogProgress). o.defined) keeps.progress ∙ stood.undefined (at ∙ unset);
      unclosed = λ unset writer. ap (λ (o : LogProgress). get_or o.closed writer false) keeps.progress ∙ stood.unclosed (at ∙ unset) writer;
      first_clock = λ unset. ap (λ (o : LogProgress). o.written) keeps.progress ∙ stood.first_clock (at ∙ unset);
      no_stamp = λ unset. ap (λ (o : LogProgress). o.latest) keeps.progress ∙ stood.no_stamp (at ∙ unset);
      lawful = λ now unfaulted. held_log got ended plan old new wrote held keeps (stood.lawful (at ∙ now) (sym keeps.faulted ∙ unfaulted));
      cut = λ now faulted. held_cut got ended plan old new wrote held keeps (stood.cut (at ∙ now) (sym keeps.faulted ∙ faulted));
    }
