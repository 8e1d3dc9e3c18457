-- What workplaces' workers work on, and their turns.
use Rattle.std.proofs.Common.{◌≡◌, ℕ, zero, suc, ◌+◌, ◌<◌, ◌≤◌, List, [], ◌∷◌, get_or, length, refl, sym, subst, arith}
use Rattle.std.specs.Prelude.{slice_set}
use Rattle.std.specs.List.{AllZip}
use Rattle.std.proofs.Math.Seq.{map-set_same}
use Rattle.trace_session.specs.declared.workplace.Workplace.{Workplace}
use Rattle.trace_session.specs.Workers.{Work, work_of, IsSameWork}
use Rattle.trace_session.specs.Workplaces.{worker_of, works_at}

-- where the worker of one workplace works on as it did, all do
pub works_still : {S G : Type 0} (pair : S → List ℕ) (words : S → ℕ) (workplaces : List (Workplace S G)) (place : ℕ) (default new : Workplace S G) → IsSameWork pair words (worker_of (get_or workplaces place default)) (worker_of new)
    → works_at pair words (slice_set workplaces place new) ≡ works_at pair words workplaces
works_still {S} {G} pair words workplaces place default new same =
    let work : Workplace S G → Work = λ workplace. work_of pair words (worker_of workplace) in
    map-set_same work workplaces place new default same

-- ---- turns, one after the other

-- the first so many of a list were turned, each once, and the others are as they were
abbrev pub TurnedUpTo : {X : Type 0} → (X → X → Type 0) → ℕ → List X → List X → Type 0
TurnedUpTo R zero old now = now ≡ old
TurnedUpTo R (suc n) [] [] = Unit {0}
TurnedUpTo R (suc n) (x ∷ old) (y ∷ now) = R x y × TurnedUpTo R n old now
TurnedUpTo R (suc n) old now = ⊥

one_turned : {X : Type 0} (R : X → X → Type 0) (n : ℕ) (old now : List X) (default new : X) → n < length now → TurnedUpTo R n old now → R (get_or now n default) new
    → TurnedUpTo R (suc n) old (slice_set now n new)
one_turned R zero old [] default new within turned is = absurd (omega (arith, within))
one_turned R zero old (y ∷ now) default new within turned is = subst (λ l. TurnedUpTo R (suc zero) l (new ∷ now)) turned (is, refl)
one_turned R (suc n) [] [] default new within turned is = absurd (omega (arith, within))
one_turned R (suc n) [] (y ∷ now) default new within turned is = absurd turned
one_turned R (suc n) (x ∷ old) [] default new within turned is = absurd turned
one_turned R (suc n) (x ∷ old) (y ∷ now) default new within turned is = (turned.0, one_turned R n old now default new (omega (arith, within)) turned.1 is)

pub turned_more : {X : Type 0} (R : X → X → Type 0) (n : ℕ) (old now : List X) (default new : X) → n < length now → TurnedUpTo R n old now → R (get_or now n default) new
    → TurnedUpTo R (n + 1) old (slice_set now n new)
turned_more R n old now default new within turned is =
    let next : suc n ≡ n + 1 = omega arith in
    subst (λ m. TurnedUpTo R m old (slice_set now n new)) next (one_turned R n old now default new within turned is)

pub turned_all : {X : Type 0} (R : X → X → Type 0) (n : ℕ) (old now : List X) → length old ≤ n → TurnedUpTo R n old now → AllZip R old now
turned_all R zero [] now all turned = subst (AllZip R []) (sym turned) tt
turned_all R zero (x ∷ old) now all turned = absurd (omega (arith, all))
turned_all R (suc n) [] [] all turned = tt
turned_all R (suc n) [] (y ∷ now) all turned = absurd turned
turned_all R (suc n) (x ∷ old) [] all turned = absurd turned
turned_all R (suc n) (x ∷ old) (y ∷ now) all turned = (turned.0, turned_all R n old now (omega (arith, all)) turned.1)
