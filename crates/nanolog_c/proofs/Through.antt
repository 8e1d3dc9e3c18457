-- What a call does to the end that a handle holds, which was taken out for it and put back.
use Rattle.std.proofs.Common.{◌≡◌, sym, subst, subst₂, Option, None, Some}
use Rattle.std.specs.Prelude.{MatchOption}
use Rattle.log_ends.specs.declared.end.End.{End}
use Rattle.log_ends.specs.Slots.{OnEnd, IsAnswered}

-- there is an answer, and what is so of it
pub answered : {A : Type 0} (answer : Option A) (Is : Option A → Type 0) (P : A → Type 0) → Is answer → IsAnswered answer P → (outcome : A) × Is (Some outcome) × P outcome
answered (Some outcome) Is P is holds = (outcome, is, holds)
answered None Is P is holds = absurd holds

-- the same where three things are so of it
pub answered_thrice : {A : Type 0} (answer : Option A) (I J K : Option A → Type 0) (P : A → Type 0) → I answer → J answer → K answer → IsAnswered answer P
    → (outcome : A) × I (Some outcome) × J (Some outcome) × K (Some outcome) × P outcome
answered_thrice (Some outcome) I J K P i j k holds = (outcome, i, j, k, holds)
answered_thrice None I J K P i j k holds = absurd holds

-- there is none
pub unanswered : {A : Type 0} (answer : Option A) (Is : Option A → Type 0) → Is answer → answer ≡ None → Is None
unanswered answer Is is none = subst Is none is

-- where an end of the kind was held, this step was made of it; else what was held is what was put back, and this holds
abbrev Stepped : {A : Type 0} → (A → End) → Option End → Option End → (A → A → Type 0) → Type 0 → Option A → Type 0
Stepped {A} make out back Step Other held =
    MatchOption held ((back ≡ out) × Other) (λ old. (new : A) × (back ≡ Some (make new)) × Step old new)

pub through : {A : Type 0} (make : A → End) (held_in : Option End → Option A) (out back before after : Option End) (Step Step' : A → A → Type 0) (Other Other' : Type 0)
    → out ≡ before → after ≡ back → ((old new : A) → Step old new → Step' old new) → (Other → Other')
    → OnEnd make held_in out back Step Other → OnEnd make held_in before after Step' Other'
through {A} make held_in out back before after Step Step' Other Other' was is step other on =
    subst₂ (λ b a. OnEnd make held_in b a Step' Other') was (sym is) (stepped (held_in out) on)
  where
    stepped : (held : Option A) → Stepped make out back Step Other held → Stepped make out back Step' Other' held
    stepped (Some old) on = (on.0, on.1, step old on.0 on.2)
    stepped None on = (on.0, other on.1)
