-- An answer that is right is the only one, where no two things are right of a text.
use Rattle.std.proofs.Common.{◌≡◌, ◌⊎◌, ℕ, Result, Ok, Err, MatchResult, ap, ◌∙◌, inl, inr}
use Rattle.trace_text.specs.declared.cause.TraceCause.{TraceCause}
use Rattle.trace_text.specs.declared.reading.TraceFault.{TraceFault}
use Rattle.trace_text.specs.declared.reading.TraceFault.TheVariants.{ReadFault, Refused, NoMemory}
use Rattle.trace_text.specs.TraceReading.{IsAnswerTo, IsNoAnswer, IsOnlyAnswerTo}

-- one value is right of a text, or it is refused at one line from one cause
pub record AreApart {A : Type 0} (IsRight : A → Type 0) (IsRefused : ℕ → TraceCause → Type 0) : Type 0 where
  pub one_value : (a b : A) → IsRight a → IsRight b → a ≡ b
  pub not_both : (a : A) (line : ℕ) (cause : TraceCause) → IsRight a → ¬ (IsRefused line cause)
  pub one_refusal : (i j : ℕ) (a b : TraceCause) → IsRefused i a → IsRefused j b → (i ≡ j) × (a ≡ b)

module _ {A : Type 0} (IsRight : A → Type 0) (IsRefused : ℕ → TraceCause → Type 0) (apart : AreApart IsRight IsRefused) where
  only_right : (r : Result A TraceFault) → IsAnswerTo IsRight IsRefused r → (value : A) → IsRight value → MatchResult r (λ found. found ≡ value) IsNoAnswer
  only_right (Ok found) answer value is = apart.one_value found value answer is
  only_right (Err (Refused line cause)) answer value is = apart.not_both value line cause is answer
  only_right (Err ReadFault) answer value is = tt
  only_right (Err NoMemory) answer value is = tt

  only_refusal : (r : Result A TraceFault) → IsAnswerTo IsRight IsRefused r → (line : ℕ) (cause : TraceCause) → IsRefused line cause → MatchResult r (λ _. ⊥) (λ fault. (fault ≡ Refused line cause) ⊎ IsNoAnswer fault)
  only_refusal (Ok found) answer line cause refused = apart.not_both found line cause answer refused
  only_refusal (Err (Refused i a)) answer line cause refused =
      let same = apart.one_refusal i line a cause answer refused in
      inl (ap (λ (n : ℕ). Refused n a) same.0 ∙ ap (Refused line) same.1)
  only_refusal (Err ReadFault) answer line cause refused = inr tt
  only_refusal (Err NoMemory) answer line cause refused = inr tt

  pub only_one : (r : Result A TraceFault) → IsAnswerTo IsRight IsRefused r → IsOnlyAnswerTo IsRight IsRefused r
  only_one r answer = record { right = only_right r answer; refusal = only_refusal r answer }
