-- What is known of tests, and of lists that are joined.
use Rattle.std.proofs.Common.{◌≡◌, Bool, true, false, ◌||◌, List, [], ◌∷◌, ◌++◌, refl, sym}

pub not_true : {b : Bool} → ¬ (b ≡ true) → b ≡ false
not_true {b = true} none = absurd (none refl)
not_true {b = false} none = refl

pub or_true : (b : Bool) {c : Bool} → c ≡ true → (b || c) ≡ true
or_true true is = refl
or_true false is = is

pub or_false : (b : Bool) {c : Bool} → c ≡ false → b ≡ (b || c)
or_false true is = refl
or_false false is = sym is

pub either_false : (a b : Bool) → (a || b) ≡ false → (a ≡ false) × (b ≡ false)
either_false true b none = cc
either_false false b none = (refl, none)

pub no_parts : {X : Type 0} (xs ys : List X) → xs ++ ys ≡ [] → ys ≡ []
no_parts [] ys none = none
no_parts (x ∷ xs) ys none = cc
