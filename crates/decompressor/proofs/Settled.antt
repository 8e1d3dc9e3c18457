-- Which calls of a log are settled.
use Rattle.std.proofs.Common.{◌≡◌, ℕ, zero, suc, ◌+◌, ◌<◌, ◌≤◌, Bool, true, false, not, ◌&&◌, ◌||◌, cond, List, [], ◌∷◌, ◌++◌, refl, ap, sym, subst, ◌∙◌, inl, inr, arith}
use Rattle.std.specs.Prelude.{filter}
use Rattle.std.specs.List.{AllByRecursion, list_any, list_all, range_with_len}
use Rattle.std.proofs.lemmas.Bool.Decides.{eqb_tells}
use Rattle.std.proofs.lemmas.List.Folds.{list_any-append}
use Rattle.log_dictionary.specs.Calls.{LogCall}
use Rattle.checkpoint_io.specs.declared.header.Header.{Header}
use Rattle.checkpoint_io.specs.Blocks.{Block}
use Rattle.stamp_merge.proofs.lemmas.Ordering.{NoneBefore}
use Rattle.direct_printf.specs.Lines.{call_before}
use Rattle.direct_printf.proofs.lemmas.Sorting.{call_order}
use Rattle.decompressor.specs.Decompression.{CallsOf}
use Rattle.decompressor.specs.Settling.{reaches, closed_by, is_settled}
use Rattle.decompressor.proofs.Tests.{not_true, or_true}
use Rattle.decompressor.proofs.Rising.{none_further}

-- ---- tests of lists

pub not_false : (b : Bool) → not b ≡ true → b ≡ false
not_false true h = absurd cc
not_false false h = refl

open_is : (b : Bool) → b ≡ false → not b ≡ true
open_is b is = ap not is

both_true : (a b : Bool) → (a && b) ≡ true → (a ≡ true) × (b ≡ true)
both_true true b h = (refl, h)
both_true false b h = absurd cc

module _ {X : Type 0} (f g : X → Bool) where
  -- where each element that passes one test passes the other, so does some element
  pub any_as : (xs : List X) → ((x : X) → f x ≡ true → g x ≡ true) → list_any f xs ≡ true → list_any g xs ≡ true
  any_as [] each some = some
  any_as (x ∷ xs) each some = at (f x) refl some (any_as xs each)
    where
      at : (b : Bool) → f x ≡ b → (b || list_any f xs) ≡ true → (list_any f xs ≡ true → list_any g xs ≡ true) → list_any g (x ∷ xs) ≡ true
      at true here any rest = ap (λ (b : Bool). b || list_any g xs) (each x here)
      at false other any rest = or_true (g x) (rest any)

module _ (f test : ℕ → Bool) where
  abbrev tested : ℕ → ℕ → List ℕ
  tested from n = filter test (range_with_len from n)

  all_of : (from n : ℕ) → ((k : ℕ) → from ≤ k → k < from + n → test k ≡ true → f k ≡ true) → list_all f (tested from n) ≡ true
  all_of from zero each = refl
  all_of from (suc n) each = at (test from) refl (all_of (from + 1) n (λ k low high. each k (omega (arith, low)) (omega (arith, high))))
    where
      at : (b : Bool) → test from ≡ b → list_all f (tested (from + 1) n) ≡ true → list_all f (cond b (from ∷ tested (from + 1) n) (tested (from + 1) n)) ≡ true
      at true here rest = λ i. each from (omega arith) (omega arith) here i && rest i
      at false other rest = rest

  one_of : (from n : ℕ) → list_all f (tested from n) ≡ true → (k : ℕ) → from ≤ k → k < from + n → test k ≡ true → f k ≡ true
  one_of from zero all k low high passes = absurd (omega (arith, low, high))
  one_of from (suc n) all k low high passes = at (test from) refl all (λ every below. one_of (from + 1) n every k below (omega (arith, high)) passes)
    where
      at : (b : Bool) → test from ≡ b → list_all f (cond b (from ∷ tested (from + 1) n) (tested (from + 1) n)) ≡ true → (list_all f (tested (from + 1) n) ≡ true → from + 1 ≤ k → f k ≡ true) → f k ≡ true
      at true here every later =
          let parts = both_true (f from) (list_all f (tested (from + 1) n)) every in
          elim (eqb_tells from k) [
            | inl same ↦ subst (λ (j : ℕ). f j ≡ true) same.1 parts.0
            | inr apart ↦ later parts.1 (omega (arith, low, apart.1))
          ]
      at false other every later =
          later every (elim (eqb_tells from k) [
            | inl same ↦ let wrong : true ≡ false = sym passes ∙ ap test (sym same.1) ∙ other in absurd cc
            | inr apart ↦ omega (arith, low, apart.1)
          ])

-- ---- calls that are reached

-- a call that doesn't stand after one that is reached is reached
pub reaches_upto : (calls : List LogCall) (call first : LogCall) → call_before call first ≡ false → reaches calls call ≡ true → reaches calls first ≡ true
reaches_upto calls call first upto so =
    any_as (λ other. not (call_before other call)) (λ other. not (call_before other first)) calls
    (λ other later. ap not (call_order.chain other call first (not_false (call_before other call) later) upto)) so

pub reaches_more : (calls more : List LogCall) (call : LogCall) → reaches calls call ≡ true → reaches (calls ++ more) call ≡ true
reaches_more calls more call so =
    list_any-append (λ other. not (call_before other call)) calls more
    ∙ ap (λ (b : Bool). b || list_any (λ other. not (call_before other call)) more) so

-- a call that isn't before it is there
pub reaches_at : (front back : List LogCall) (call other : LogCall) → call_before other call ≡ false → reaches (front ++ other ∷ back) call ≡ true
reaches_at [] back call other later = ap (λ (b : Bool). not b || reaches back call) later
reaches_at (first ∷ front) back call other later = at (call_before first call) (reaches_at front back call other later)
  where
    at : (b : Bool) → reaches (front ++ other ∷ back) call ≡ true → (not b || reaches (front ++ other ∷ back) call) ≡ true
    at true rest = rest
    at false rest = refl

-- where each call is before it, it isn't reached
pub not_reached : (calls : List LogCall) (call : LogCall) → AllByRecursion (λ other. call_before other call ≡ true) calls → reaches calls call ≡ false
not_reached [] call none = refl
not_reached (other ∷ calls) call none = ap (λ (b : Bool). not b || reaches calls call) none.0 ∙ not_reached calls call none.1

-- what comes before none of the calls doesn't come before one that they reach
pub behind_reached : (calls more : List LogCall) (call : LogCall) → reaches calls call ≡ true → AllByRecursion (λ other. NoneBefore call_before other more) calls → NoneBefore call_before call more
behind_reached [] more call so all = absurd cc
behind_reached (other ∷ calls) more call so all = at (call_before other call) refl so (λ rest. behind_reached calls more call rest all.1)
  where
    at : (b : Bool) → call_before other call ≡ b → (not b || reaches calls call) ≡ true → (reaches calls call ≡ true → NoneBefore call_before call more) → NoneBefore call_before call more
    at true earlier rest others = others rest
    at false later rest others = none_further call_before call_order call other more later all.0

-- ---- settled calls

module _ (header : Header) (blocks : List Block) where
  -- each writer that isn't closed has a call that is this one or stands after it
  abbrev pub IsReached : (ℕ → Bool) → LogCall → Type 0
  IsReached closed call = (writer : ℕ) → writer < header.writers → closed writer ≡ false → reaches (CallsOf blocks writer) call ≡ true

  pub settled_if : (call : LogCall) → IsReached (closed_by blocks) call → is_settled header blocks call ≡ true
  settled_if call reached =
      all_of (λ writer. reaches (CallsOf blocks writer) call) (λ writer. not (closed_by blocks writer)) 0 header.writers
      (λ k low high passes. reached k (omega (arith, high)) (not_false (closed_by blocks k) passes))

  pub reached_if : (call : LogCall) → is_settled header blocks call ≡ true → IsReached (closed_by blocks) call
  reached_if call settled writer known is_open =
      one_of (λ w. reaches (CallsOf blocks w) call) (λ w. not (closed_by blocks w)) 0 header.writers settled writer (omega arith) (omega (arith, known)) (open_is (closed_by blocks writer) is_open)

  -- a writer that isn't closed and has nothing there holds a call back
  pub held_back : (call : LogCall) (writer : ℕ) → writer < header.writers → closed_by blocks writer ≡ false → reaches (CallsOf blocks writer) call ≡ false → is_settled header blocks call ≡ false
  held_back call writer known is_open none = not_true (λ is. let wrong : true ≡ false = sym (reached_if call is writer known is_open) ∙ none in cc)

  -- so a call that doesn't stand after one that is settled is settled
  pub settled_upto : (call first : LogCall) → call_before call first ≡ false → is_settled header blocks call ≡ true → is_settled header blocks first ≡ true
  settled_upto call first upto settled =
      settled_if first (λ writer known is_open. reaches_upto (CallsOf blocks writer) call first upto (reached_if call settled writer known is_open))
