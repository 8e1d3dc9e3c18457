-- What comparisons answer, and two of them one after the other.
use Rattle.std.proofs.Common.{◌≡◌, ℕ, ◌<◌, ◌≤◌, Bool, true, false, cond, eqb, ltb, refl, sym, ap, ◌∙◌, arith}
use Rattle.std.specs.Cmp.{nat_cmp_is}
use Rattle.std.specs.declared.cmp.Ordering.{Ordering}
use Rattle.std.specs.declared.cmp.Ordering.TheVariants.{Less, Equal, Greater}
use Rattle.std.specs.Ordering.{is_lt, nat_cmp, ordering_reverse, ordering_then}
use Rattle.std.proofs.lemmas.Bool.Decides.{nat_tests}

-- ---- numbers

pub nat_cmp-less : (x y : ℕ) → x < y → nat_cmp x y ≡ Less
nat_cmp-less x y h = sym (nat_cmp_is x y Less h)

pub nat_cmp-equal : (x y : ℕ) → x ≡ y → nat_cmp x y ≡ Equal
nat_cmp-equal x y h = sym (nat_cmp_is x y Equal h)

-- a number that is at least the other isn't less
pub not_less : (x y : ℕ) → x ≤ y → is_lt (nat_cmp y x) ≡ false
not_less x y h = at (ltb y x) (eqb y x) (grind (arith, nat_tests))
  where
    at : (less same : Bool) → less ≡ false → is_lt (cond less Less (cond same Equal Greater)) ≡ false
    at true same none = absurd cc
    at false true none = refl
    at false false none = refl

-- ---- any comparison

-- what is neither less nor greater is equal
pub neither : (a b : Ordering) → a ≡ ordering_reverse b → is_lt a ≡ false → is_lt b ≡ false → a ≡ Equal
neither a Less is there back = absurd cc
neither a Equal is there back = is
neither a Greater is there back = let less : true ≡ false = sym (ap is_lt is) ∙ there in absurd cc

-- ---- one comparison, and then another

pub then_equal : (a b : Ordering) → ordering_then a b ≡ Equal → (a ≡ Equal) × (b ≡ Equal)
then_equal Less b same = absurd cc
then_equal Equal b same = (refl, same)
then_equal Greater b same = absurd cc

-- what isn't less by either isn't less by both
pub none_less : (a b : Ordering) → is_lt a ≡ false → is_lt b ≡ false → is_lt (ordering_then a b) ≡ false
none_less Less b first second = first
none_less Equal b first second = second
none_less Greater b first second = refl

-- what isn't less by three isn't less by the first two
pub front_not_less : (a b c : Ordering) → is_lt (ordering_then a (ordering_then b c)) ≡ false → is_lt (ordering_then a b) ≡ false
front_not_less Less b c none = none
front_not_less Equal Less c none = none
front_not_less Equal Equal c none = refl
front_not_less Equal Greater c none = refl
front_not_less Greater b c none = refl
