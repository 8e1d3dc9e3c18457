-- What a session came to, on its way to the output.
use Rattle.std.proofs.Common.{◌≡◌, ℕ, List, [], ◌∷◌, ◌++◌, refl, sym, ap, append_assoc, append-nil, arith, ◌∙◌}
use Rattle.std.specs.List.{flat_map}
use Rattle.std.specs.Prelude.{length}
use Rattle.nl_io.specs.Content.{Told}
use Rattle.nl_io.specs.TextWriters.{Carries, IsCutOff}
use Rattle.nl_io.proofs.lemmas.TextWriters.{carries_held, carries_more, cut_more}
use Rattle.trace_session.specs.declared.drops.Dropped.{Dropped}
use Rattle.session_commands.specs.Headline.{drop_line, counts_line, outcome_text}

-- the lines on the drops in front of those that are left are put or held back
pub record DropsCarried (drops left : List Dropped) (was is : Told) (held : List ℕ) : Type 0 where
  pub text : List ℕ
  pub carries : Carries text was is held
  pub joined : flat_map drop_line drops ≡ text ++ flat_map drop_line left

-- the whole text goes on behind the lines so far
goes_on : (drops left : List Dropped) (was is : Told) (held : List ℕ) (accepted filtered : ℕ)
    → (so_far : DropsCarried drops left was is held)
    → outcome_text drops accepted filtered
    ≡ so_far.text ++ (flat_map drop_line left ++ counts_line accepted (length drops) filtered)
goes_on drops left was is held accepted filtered so_far =
    ap (λ (text : List ℕ). text ++ counts_line accepted (length drops) filtered) so_far.joined
    ∙ append_assoc so_far.text (flat_map drop_line left) (counts_line accepted (length drops) filtered)

-- nothing was put yet
pub none_carried : (drops left : List Dropped) (was : Told) (held : List ℕ) → held ≡ [] → left ≡ drops
    → DropsCarried drops left was was held
none_carried drops left was held none all =
    record { text = []; carries = carries_held [] held was none; joined = ap (flat_map drop_line) (sym all) }

-- one line more
pub drop_carried : (drops left others : List Dropped) (drop : Dropped) (was mid is : Told) (held now : List ℕ)
    → left ≡ drop ∷ others → DropsCarried drops left was mid held → Carries (held ++ drop_line drop) mid is now
    → DropsCarried drops others was is now
drop_carried drops left others drop was mid is held now next so_far more = record {
  text = so_far.text ++ drop_line drop;
  carries =
      carries_more (so_far.text ++ drop_line drop) so_far.text (drop_line drop) held now was mid is refl so_far.carries more;
  joined =
      so_far.joined
      ∙ ap (λ (l : List Dropped). so_far.text ++ flat_map drop_line l) next
      ∙ sym (append_assoc so_far.text (drop_line drop) (flat_map drop_line others));
}

-- a line was cut off
pub drop_cut : (drops left others : List Dropped) (drop : Dropped) (accepted filtered : ℕ) (was mid is : Told)
    (held : List ℕ) (before between after : ℕ) → left ≡ drop ∷ others → DropsCarried drops left was mid held
    → between ≡ before → IsCutOff (held ++ drop_line drop) mid is between after
    → IsCutOff (outcome_text drops accepted filtered) was is before after
drop_cut drops left others drop accepted filtered was mid is held before between after next so_far same cut =
    let rest = flat_map drop_line others ++ counts_line accepted (length drops) filtered in
    cut_more (outcome_text drops accepted filtered) so_far.text (drop_line drop) rest held was mid is before between after
    (goes_on drops left was mid held accepted filtered so_far
    ∙ ap (λ (l : List Dropped). so_far.text ++ (flat_map drop_line l ++ counts_line accepted (length drops) filtered)) next
    ∙ ap (λ (text : List ℕ). so_far.text ++ text)
    (append_assoc (drop_line drop) (flat_map drop_line others) (counts_line accepted (length drops) filtered))
    ∙ sym (append_assoc so_far.text (drop_line drop) rest))
    so_far.carries same cut

none_left : (left : List Dropped) → length left ≡ 0 → left ≡ []
none_left [] none = refl
none_left (drop ∷ left) none = absurd (omega arith)

-- the lines on all drops are put or held back
all_drops : (drops left : List Dropped) (was is : Told) (held : List ℕ) (accepted dropped filtered : ℕ) → length left ≡ 0
    → dropped ≡ length drops → (so_far : DropsCarried drops left was is held)
    → outcome_text drops accepted filtered ≡ so_far.text ++ counts_line accepted dropped filtered
all_drops drops left was is held accepted dropped filtered none many so_far =
    goes_on drops left was is held accepted filtered so_far
    ∙ (λ i. so_far.text ++ (flat_map drop_line (none_left left none i) ++ counts_line accepted (sym many i) filtered))

-- the counts were cut off
pub counts_cut : (drops left : List Dropped) (accepted dropped filtered : ℕ) (was mid is : Told) (held : List ℕ)
    (before between after : ℕ) → length left ≡ 0 → dropped ≡ length drops → DropsCarried drops left was mid held
    → between ≡ before → IsCutOff (held ++ counts_line accepted dropped filtered) mid is between after
    → IsCutOff (outcome_text drops accepted filtered) was is before after
counts_cut drops left accepted dropped filtered was mid is held before between after none many so_far same cut =
    cut_more (outcome_text drops accepted filtered) so_far.text (counts_line accepted dropped filtered) [] held was mid is
    before between after
    (all_drops drops left was mid held accepted dropped filtered none many so_far
    ∙ sym (append-nil (so_far.text ++ counts_line accepted dropped filtered)))
    so_far.carries same cut

-- the whole text is put or held back
pub outcome_carried : (drops left : List Dropped) (accepted dropped filtered : ℕ) (was mid is : Told)
    (held now : List ℕ) → length left ≡ 0 → dropped ≡ length drops → DropsCarried drops left was mid held
    → Carries (held ++ counts_line accepted dropped filtered) mid is now
    → Carries (outcome_text drops accepted filtered) was is now
outcome_carried drops left accepted dropped filtered was mid is held now none many so_far more =
    carries_more (outcome_text drops accepted filtered) so_far.text (counts_line accepted dropped filtered) held now was mid
    is (all_drops drops left was mid held accepted dropped filtered none many so_far) so_far.carries more
