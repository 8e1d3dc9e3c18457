-- Finishing writers one after the other.
use Rattle.std.proofs.Common.{◌≡◌, ℕ, ◌+◌, ◌<◌, ◌≤◌, List, length, Some, refl, sym, ap, subst, ◌∙◌, inl, inr, arith}
use Rattle.std.specs.List.{AllZip}
use Rattle.std.proofs.Math.ListN.{set, length-set}
use Rattle.std.proofs.lemmas.Bool.Decides.{eqb_tells}
use Rattle.std.proofs.lemmas.Option.{same_Some, slice_get_within}
use Rattle.log_ends.proofs.Lists.{get_set, by_place}
use Rattle.std.specs.Prelude.{slice_get}
use Rattle.roaming_consumer.proofs.lemmas.OnePlace.{get_set_other}
use Rattle.log_ends.specs.declared.writer.WriterEnd.{WriterEnd}
use Rattle.log_ends.specs.Writers.{IsFinishedFrom}

-- those in front of this place are finished, and all others are as they were
pub record IsFinishing (upto : ℕ) (before now : List WriterEnd) : Type 0 where
  pub same_len : length before ≡ length now
  pub finished : (place : ℕ) (x y : WriterEnd) → place < upto → slice_get before place ≡ Some x → slice_get now place ≡ Some y → IsFinishedFrom x y
  pub others : (place : ℕ) → upto ≤ place → slice_get now place ≡ slice_get before place

pub finishing_none : (writers : List WriterEnd) → IsFinishing 0 writers writers
finishing_none writers = record {
  same_len = refl;
  finished = λ place x y below was now. absurd (omega arith);
  others = λ place from. refl;
}

pub finishing_one : (upto : ℕ) (before now : List WriterEnd) (old new : WriterEnd) → IsFinishing upto before now → slice_get now upto ≡ Some old → IsFinishedFrom old new → IsFinishing (upto + 1) before (set now upto new)
finishing_one upto before now old new finishing here is = record {
  same_len = finishing.same_len ∙ sym (length-set now upto new);
  finished = λ place x y below was is_now.
      elim (eqb_tells place upto) [
        | inl same ↦
            let first : old ≡ x = same_Some old x (sym here ∙ sym (ap (slice_get now) same.1) ∙ finishing.others place (omega (arith, same.1)) ∙ was) in
            let last : new ≡ y = same_Some new y (sym (get_set now upto old new here) ∙ sym (ap (slice_get (set now upto new)) same.1) ∙ is_now) in
            subst (λ (pair : WriterEnd × WriterEnd). IsFinishedFrom pair.0 pair.1) (λ i. (first i, last i)) is
        | inr apart ↦ finishing.finished place x y (omega (arith, apart.1)) was (sym (get_set_other now upto place new apart.1) ∙ is_now)
      ];
  others = λ place from. get_set_other now upto place new (λ same. omega (arith, same)) ∙ finishing.others place (omega arith);
}

pub all_finished : (upto : ℕ) (before now : List WriterEnd) → length before ≤ upto → IsFinishing upto before now → AllZip IsFinishedFrom before now
all_finished upto before now all finishing =
    by_place IsFinishedFrom before now finishing.same_len (λ place x y was is. finishing.finished place x y (omega (arith, slice_get_within before place x was)) was is)
