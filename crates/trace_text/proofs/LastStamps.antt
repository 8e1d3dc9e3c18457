-- The stamp of the last of some calls.
use Rattle.std.proofs.Common.{◌≡◌, ℕ, suc, ◌-◌, List, [], ◌∷◌, length, Option, Some, None, refl, ap, ◌∙◌, arith}
use Rattle.std.specs.Prelude.{slice_get}
use Rattle.arg_records.specs.declared.call.Call.{Call}
use Rattle.trace_text.specs.CallReading.{last_stamp}

one_less : (first second : Call) (calls : List Call) → slice_get (first ∷ second ∷ calls) (length (first ∷ second ∷ calls) - 1) ≡ slice_get (second ∷ calls) (length (second ∷ calls) - 1)
one_less first second calls = let e : length (first ∷ second ∷ calls) - 1 ≡ suc (length (second ∷ calls) - 1) = omega arith in ap (slice_get (first ∷ second ∷ calls)) e

-- it is that of the call at the last place
pub last_stamp_is : (least : ℕ) (calls : List Call) (call : Call) → Some call ≡ slice_get calls (length calls - 1) → call.stamp ≡ last_stamp least calls
last_stamp_is least [] call e = absurd cc
last_stamp_is least (first ∷ []) call e = let same : call ≡ first = cc in ap (λ (c : Call). c.stamp) same
last_stamp_is least (first ∷ second ∷ calls) call e = last_stamp_is first.stamp (second ∷ calls) call (e ∙ one_less first second calls)

some_last : (first : Call) (calls : List Call) → ◌≡◌ {A = Option Call} None (slice_get (first ∷ calls) (length (first ∷ calls) - 1)) → ⊥
some_last first [] e = absurd cc
some_last first (second ∷ calls) e = some_last second calls (e ∙ one_less first second calls)

-- where there is none no call was made
pub no_last_stamp : (least : ℕ) (calls : List Call) → ◌≡◌ {A = Option Call} None (slice_get calls (length calls - 1)) → least ≡ last_stamp least calls
no_last_stamp least [] e = refl
no_last_stamp least (first ∷ calls) e = absurd (some_last first calls e)
