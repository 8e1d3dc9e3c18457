-- The first field of bytes.
use Rattle.std.proofs.Common.{◌≡◌, ◌≢◌, ℕ, zero, suc, ◌<◌, ◌≤◌, false, eqb, List, [], ◌∷◌, length, get_or, take, drop, refl, sym, ap, ◌∙◌, arith, eq-eqb, Option, Some, None, All}
use Rattle.std.specs.Option.{option_map, IfSome, IfNone}
use Rattle.std.proofs.lemmas.List.{get_or_at, length-append}
use denote.Ref.{Bor}
use Rattle.log_dictionary.specs.Fields.{IsFirstSplit, split_at_first}
use Rattle.log_dictionary.proofs.lemmas.Splits.{split_again, split_takes}
use Rattle.std.proofs.lemmas.Bool.{ne_eqb}
use Rattle.log_dictionary.specs.Fields.{put_front, first_field}

-- the first field ends at the first space, or with the bytes
pub first_field_is : (bytes : List ℕ) (at : ℕ) → at ≤ length bytes → ((k : ℕ) → k < at → get_or bytes k 0 ≢ 32) → (at < length bytes → get_or bytes at 0 ≡ 32) → ◌≡◌ {A = List ℕ × List ℕ} (take at bytes, drop at bytes) (first_field bytes)
first_field_is [] zero within before space = refl
first_field_is [] (suc at) within before space = absurd (omega (arith, within))
first_field_is (b ∷ bytes) zero within before space = let mark : b ≡ 32 = space (omega arith) in rw (eq-eqb b 32 mark) refl
first_field_is (b ∷ bytes) (suc at) within before space =
    let other : eqb b 32 ≡ false = ne_eqb b 32 (before 0 (omega arith)) in
    let inner = first_field_is bytes at (omega (arith, within)) (λ k h. before (suc k) (omega (arith, h))) (λ h. space (omega (arith, h))) in
    rw other (ap (put_front b) inner)

-- ---- parts round a separator

unsplit : (separator : ℕ) (bytes : List ℕ) (o : Option (List ℕ × List ℕ)) → split_at_first separator bytes ≡ o → All (λ byte. byte ≢ separator) bytes → split_at_first separator bytes ≡ None
unsplit separator bytes None e all = e
unsplit separator bytes (Some parts) e all =
    let is = split_takes separator bytes parts.0 parts.1 e in
    let within : length parts.0 < length bytes = omega (arith, ap length is.parts, length-append parts.0 (separator ∷ parts.1)) in
    absurd (all (length parts.0) 0 within (ap (λ (l : List ℕ). get_or l (length parts.0) 0) is.parts ∙ get_or_at parts.0 separator parts.1 0 (length parts.0) refl))

-- where no separator stands bytes aren't parted
pub not_parted : (separator : ℕ) (bytes : List ℕ) → All (λ byte. byte ≢ separator) bytes → split_at_first separator bytes ≡ None
not_parted separator bytes all = unsplit separator bytes (split_at_first separator bytes) refl all

-- a split is that at the first separator
pub parted : (separator : ℕ) (bytes front back : List ℕ) → IsFirstSplit separator bytes front back → split_at_first separator bytes ≡ Some (front, back)
parted separator bytes front back is = ap (split_at_first separator) is.parts ∙ split_again separator front back is.first

-- references to the parts
pub parts_are : (separator : ℕ) (bytes : List ℕ) (r : Option (Bor (List ℕ) × Bor (List ℕ))) → IfSome r (λ parts. IsFirstSplit separator bytes parts.0.now parts.1.now) → IfNone r (All (λ byte. byte ≢ separator) bytes) → option_map {U = List ℕ × List ℕ} (λ parts. (parts.0.now, parts.1.now)) r ≡ split_at_first separator bytes
parts_are separator bytes None some none = sym (not_parted separator bytes none)
parts_are separator bytes (Some parts) some none = sym (parted separator bytes parts.0.now parts.1.now some)
