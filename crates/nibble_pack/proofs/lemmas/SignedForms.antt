-- What the codes of signed numbers spell.
use Rattle.std.proofs.Common.{◌≡◌, ◌↔◌, inl, inr, ℕ, ◌+◌, ◌*◌, ◌^◌, ◌<◌, ◌≤◌, List, length, take, refl, sym, ap, subst, ◌∙◌, arith}
use Rattle.std.proofs.lemmas.Bool.{cases_lt}
use Rattle.std.proofs.lemmas.Int.{of_z-to_z, to_z-of_z}
use Rattle.std.specs.Prelude.{All, ℤ, pos, negsuc, FitsSigned}
use Rattle.std.specs.Int.{w64, cast_signed, cast_unsigned, bytes_low_first}
use Rattle.nibble_pack.specs.Bytes.{number_of_bytes}
use Rattle.nibble_pack.specs.Packing.{unsigned, signed, IsLeastCount, IsWide, small, negative, wide, Packed, byte_count, IsNotShortest}
use Rattle.nibble_pack.proofs.lemmas.PackingLaws.{same_number, wide_number, signed_count-low, signed_count-high}
use Rattle.nibble_pack.proofs.lemmas.Counts.{pow256, pow-mono}
use Rattle.nibble_pack.proofs.lemmas.Fronts.{read_spells}

-- codes up to 7 are those of unsigned numbers
pub signed_from_unsigned : (n code : ℕ) (bytes : List ℕ) → code ≤ 7 → Packed unsigned (pos n) code bytes → (n < 2 ^ 56) × Packed signed (pos n) code bytes
signed_from_unsigned n code bytes low (m, is, packs) =
    let same : m ≡ n = cc in
    let least : IsLeastCount code n = subst (IsLeastCount code) same packs.count in
    let more = pow256 code in
    let most = pow-mono (8 * code) 56 (omega arith) in
    let held = least.holds in
    let below : n < 2 ^ 56 = omega arith in
    (below, small n refl below least (subst (λ (k : ℕ). bytes ≡ bytes_low_first 0 code k) same packs.spelled))

pub unsigned_from_signed : (z : ℤ) (code : ℕ) (bytes : List ℕ) → code ≤ 7 → Packed signed z code bytes → (n : ℕ) × (z ≡ pos n) × Packed unsigned (pos n) code bytes
unsigned_from_signed z code bytes low (small n is below least spelled) = (n, is, (n, refl, record { fits = omega arith; count = least; spelled = spelled }))
unsigned_from_signed z code bytes low (negative n count is below least of_code spelled) = absurd (omega arith)
unsigned_from_signed z code bytes low (wide is of_code spelled) = absurd (omega arith)

-- codes from 9 on are those of -z - 1, and 9
pub signed_from_count : (n code count : ℕ) (bytes : List ℕ) → code ≡ 9 + count → count ≤ 6 → Packed unsigned (pos n) count bytes → (n < 2 ^ 48) × Packed signed (negsuc n) code bytes
signed_from_count n code count bytes is_code low (m, is, packs) =
    let same : m ≡ n = cc in
    let least : IsLeastCount count n = subst (IsLeastCount count) same packs.count in
    let more = pow256 count in
    let most = pow-mono (8 * count) 48 (omega arith) in
    let held = least.holds in
    let below : n < 2 ^ 48 = omega arith in
    (below, negative n count refl below least is_code (subst (λ (k : ℕ). bytes ≡ bytes_low_first 0 count k) same packs.spelled))

pub count_from_signed : (z : ℤ) (code count : ℕ) (bytes : List ℕ) → code ≡ 9 + count → Packed signed z code bytes → (n : ℕ) × (z ≡ negsuc n) × Packed unsigned (pos n) count bytes
count_from_signed z code count bytes is_code (small n is below least spelled) = let low = least.least 7 (omega arith) in absurd (omega arith)
count_from_signed z code count bytes is_code (negative n other is below least of_code spelled) =
    let same : other ≡ count = omega arith in
    (n, is, (n, refl, record { fits = omega arith; count = subst (λ (k : ℕ). IsLeastCount k n) same least; spelled = subst (λ (k : ℕ). bytes ≡ bytes_low_first 0 k n) same spelled }))
count_from_signed z code count bytes is_code (wide is of_code spelled) = absurd (omega arith)

-- what eight bytes are in two's complement
pub reads_wide : (bytes : List ℕ) (m : ℕ) → All (λ b. b < 256) bytes → 8 ≤ length bytes → m ≡ number_of_bytes (take 8 bytes) → IsWide (cast_signed w64 m) → Packed signed (cast_signed w64 m) 8 (take 8 bytes)
reads_wide bytes m are_bytes stand is is_wide =
    let spells = read_spells bytes 8 m are_bytes (omega arith) stand is in
    let fits = spells.0 in
    wide is_wide refl (spells.1 ∙ ap (bytes_low_first 0 8) (sym (of_z-to_z w64 m (omega arith))))

pub wide_in_range : (z : ℤ) → IsWide z → FitsSigned w64 z
wide_in_range (pos n) h = record { sfits = omega arith }
wide_in_range (negsuc n) h = record { sfits = omega arith }

-- another number is none of code 8
pub reads_no_wide : (bytes : List ℕ) (m : ℕ) → All (λ b. b < 256) bytes → 8 ≤ length bytes → m ≡ number_of_bytes (take 8 bytes) → ¬ IsWide (cast_signed w64 m) → (z : ℤ) → ¬ Packed signed z 8 (take 8 bytes)
reads_no_wide bytes m are_bytes stand is narrow z (small n z_is below least spelled) = let low = least.least 7 (omega arith) in absurd (omega arith)
reads_no_wide bytes m are_bytes stand is narrow z (negative n count z_is below least of_code spelled) = absurd (omega arith)
reads_no_wide bytes m are_bytes stand is narrow z (wide z_is of_code spelled) =
    let spells = read_spells bytes 8 m are_bytes (omega arith) stand is in
    let held = spells.0 in
    let z_below = wide_number z z_is in
    let same : m ≡ cast_unsigned w64 z = same_number 8 m (cast_unsigned w64 z) (omega arith) (omega arith) (sym spells.1 ∙ spelled) in
    let back : cast_signed w64 m ≡ z = ap (cast_signed w64) same ∙ to_z-of_z w64 z (wide_in_range z z_is) in
    narrow (subst IsWide (sym back) z_is)

-- ---- where nothing is spelled

-- at codes up to 7, as at the same unsigned code
pub no_spelling_low : (code : ℕ) (bytes : List ℕ) → code ≤ 7 → IsNotShortest unsigned code bytes ↔ IsNotShortest signed code bytes
no_spelling_low code bytes low =
    let count : byte_count signed code ≡ code = signed_count-low code (omega arith) in (
      (λ no. (
        omega arith,
        omega (arith, no.1),
        λ z packed.
            let back = unsigned_from_signed z code (take code bytes) low (subst (λ (k : ℕ). Packed signed z code (take k bytes)) count packed) in
            no.2 (pos back.0) back.2,
      )),
      (λ no. (
        omega arith,
        omega (arith, no.1),
        λ z packed.
            no.2 (pos packed.0) (subst (λ (k : ℕ). Packed signed (pos packed.0) code (take k bytes)) (sym count)
            (signed_from_unsigned packed.0 code (take code bytes) low (packed.0, refl, packed.2)).1),
      )),
    )

-- at codes from 9 on, as at the unsigned code that is 9 less
pub no_spelling_high : (code count : ℕ) (bytes : List ℕ) → code ≡ 9 + count → count ≤ 6 → IsNotShortest unsigned count bytes ↔ IsNotShortest signed code bytes
no_spelling_high code count bytes is_code low =
    let same : byte_count signed code ≡ count = signed_count-high code count is_code in (
      (λ no. (
        omega arith,
        omega (arith, no.1),
        λ z packed.
            let back = count_from_signed z code count (take count bytes) is_code (subst (λ (k : ℕ). Packed signed z code (take k bytes)) same packed) in
            no.2 (pos back.0) back.2,
      )),
      (λ no. (
        omega arith,
        omega (arith, no.1),
        λ z packed.
            no.2 (negsuc packed.0) (subst (λ (k : ℕ). Packed signed (negsuc packed.0) code (take k bytes)) (sym same)
            (signed_from_count packed.0 code count (take count bytes) is_code low (packed.0, refl, packed.2)).1),
      )),
    )

-- ---- packing

small_below : (n : ℕ) → (IsWide (pos n) → ⊥) → n < 2 ^ 63 → n < 2 ^ 56
small_below n narrow fits = elim (cases_lt n (2 ^ 56)) [
  | inl below ↦ below
  | inr above ↦ absurd (narrow (above, fits))
]

negative_below : (n : ℕ) → (IsWide (negsuc n) → ⊥) → n < 2 ^ 63 → n < 2 ^ 48
negative_below n narrow fits = elim (cases_lt n (2 ^ 48)) [
  | inl below ↦ below
  | inr above ↦ absurd (narrow (above, fits))
]

-- a number from 0 up that is not wide has its unsigned form
pub packs_small : (v : ℤ) (n code : ℕ) (bytes : List ℕ) → v ≡ pos n → ¬ IsWide v → n < 2 ^ 63 → Packed unsigned (pos n) code bytes → Packed signed v code bytes
packs_small v n code bytes is narrow fits (m, same, packs) =
    let not_wide : IsWide (pos n) → ⊥ = λ w. narrow (subst IsWide (sym is) w) in
    let below : n < 2 ^ 56 = small_below n not_wide fits in
    let number : m ≡ n = cc in
    small n is below (subst (IsLeastCount code) number packs.count) (subst (λ (k : ℕ). bytes ≡ bytes_low_first 0 code k) number packs.spelled)

-- a negative one that is not wide has the unsigned form of -v - 1, with 9 added to the code
pub packs_negative : (v : ℤ) (n count : ℕ) (bytes : List ℕ) → v ≡ negsuc n → ¬ IsWide v → n < 2 ^ 63 → Packed unsigned (pos n) count bytes → (count ≤ 6) × Packed signed v (9 + count) bytes
packs_negative v n count bytes is narrow fits (m, same, packs) =
    let not_wide : IsWide (negsuc n) → ⊥ = λ w. narrow (subst IsWide (sym is) w) in
    let below : n < 2 ^ 48 = negative_below n not_wide fits in
    let number : m ≡ n = cc in
    let least : IsLeastCount count n = subst (IsLeastCount count) number packs.count in
    (least.least 6 (omega arith), negative n count is below least refl (subst (λ (k : ℕ). bytes ≡ bytes_low_first 0 count k) number packs.spelled))
