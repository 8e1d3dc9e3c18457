-- What the first bytes spell.
use Rattle.std.proofs.Common.{◌≡◌, ℕ, ◌+◌, ◌-◌, ◌*◌, ◌/◌, ◌%◌, ◌^◌, ◌<◌, ◌≤◌, List, [], ◌∷◌, ◌++◌, length, take, drop, replicate, refl, sym, ap, subst, ◌∙◌, mul_assoc, mul_comm, arith}
use Rattle.std.proofs.Math.Nat.{pow-succ'}
use Rattle.std.proofs.lemmas.List.{length-append, length-take-le, length-replicate, take-append-drop, take_at, drop_at}
use Rattle.std.proofs.lemmas.List.Elements.{All-take}
use Rattle.std.proofs.lemmas.Nat.{mod-mul-add, shr_high}
use Rattle.std.specs.Prelude.{All, ℤ, pos}
use Rattle.std.specs.Int.{w64, to_le_bytes, from_le_bytes, bytes_low_first}
use Rattle.nibble_pack.specs.Packing.{Kind, unsigned, byte_count, IsLeastCount, Packed}
use Rattle.nibble_pack.proofs.lemmas.PackingLaws.{same_number, same_value, Packed-length, Packed-take}
use Rattle.nibble_pack.specs.Bytes.{AreBytes, number_of_bytes, length-bytes_low_first, number_of_bytes-lt, low_first-number_of_bytes, bytes_low_first-zeros, number_of_bytes-zeros, from_le_bytes-number}
use Rattle.nibble_pack.proofs.lemmas.Counts.{pow256}

-- ---- writing

-- the bytes of a number that fewer than 8 bytes hold
spelled_whole : (n count : ℕ) → n < 256 ^ count → count ≤ 8 → to_le_bytes w64 n ≡ bytes_low_first 0 count n ++ replicate (8 - count) 0
spelled_whole n count h most = bytes_low_first-zeros count (8 - count) 8 n (omega arith) h

pub spelled_front : (n count : ℕ) → n < 256 ^ count → count ≤ 8 → take count (to_le_bytes w64 n) ≡ bytes_low_first 0 count n
spelled_front n count h most = ap (take count) (spelled_whole n count h most) ∙ take_at (bytes_low_first 0 count n) (replicate (8 - count) 0) count (length-bytes_low_first 0 count n)

pub spelled_rest : (n count : ℕ) → n < 256 ^ count → count ≤ 8 → drop count (to_le_bytes w64 n) ≡ replicate (8 - count) 0
spelled_rest n count h most = ap (drop count) (spelled_whole n count h most) ∙ drop_at (bytes_low_first 0 count n) (replicate (8 - count) 0) count (length-bytes_low_first 0 count n)

-- ---- reading

-- bytes that others follow
pub number_of_bytes-append : (xs ys : List ℕ) → number_of_bytes (xs ++ ys) ≡ number_of_bytes xs + 256 ^ length xs * number_of_bytes ys
number_of_bytes-append [] ys = omega arith
number_of_bytes-append (x ∷ xs) ys =
    omega (arith, number_of_bytes-append xs ys, ap (λ (p : ℕ). p * number_of_bytes ys) (pow-succ' 256 (length xs)), mul_assoc 256 (256 ^ length xs) (number_of_bytes ys))

-- a number of bytes, cut behind `len` of them
pub record BytesCut (bytes : List ℕ) (len : ℕ) : Type 0 where
  pub whole : number_of_bytes bytes ≡ number_of_bytes (take len bytes) + 2 ^ (8 * len) * number_of_bytes (drop len bytes)
  pub high : number_of_bytes bytes / 2 ^ (8 * len) * 2 ^ (8 * len) ≡ 2 ^ (8 * len) * number_of_bytes (drop len bytes)
  pub low : number_of_bytes bytes % 2 ^ (8 * len) ≡ number_of_bytes (take len bytes)

pub bytes_cut : (bytes : List ℕ) (len : ℕ) → AreBytes bytes → len ≤ length bytes → BytesCut bytes len
bytes_cut bytes len are within =
    let low : List ℕ = take len bytes in
    let high : ℕ = number_of_bytes (drop len bytes) in
    let long : length low ≡ len = length-take-le len bytes within in
    let power : 256 ^ length low ≡ 2 ^ (8 * len) = ap (λ (n : ℕ). 256 ^ n) long ∙ pow256 len in
    let cut : number_of_bytes bytes ≡ number_of_bytes low + 2 ^ (8 * len) * high =
    ap number_of_bytes (sym (take-append-drop len bytes)) ∙ number_of_bytes-append low (drop len bytes) ∙ ap (λ (p : ℕ). number_of_bytes low + p * high) power in
    let below : number_of_bytes low < 2 ^ (8 * len) = omega (arith, number_of_bytes-lt low (All-take (λ (b : ℕ). b < 256) len bytes are), power) in
    let turned : number_of_bytes bytes ≡ high * 2 ^ (8 * len) + number_of_bytes low = omega (arith, cut, mul_comm high (2 ^ (8 * len))) in
    record {
      whole = cut;
      high = ap (λ (n : ℕ). n / 2 ^ (8 * len) * 2 ^ (8 * len)) turned ∙ ap (λ (n : ℕ). n * 2 ^ (8 * len)) (shr_high high (8 * len) (number_of_bytes low) below) ∙ mul_comm high (2 ^ (8 * len));
      low = ap (λ (n : ℕ). n % 2 ^ (8 * len)) turned ∙ mod-mul-add high (2 ^ (8 * len)) (number_of_bytes low) below;
    }

-- bytes that zeros follow, as they are read
pub read_front : (front : List ℕ) (count : ℕ) → length front ≡ count → count ≤ 8 → from_le_bytes w64 (front ++ replicate (8 - count) 0) ≡ number_of_bytes front
read_front front count len most =
    from_le_bytes-number (front ++ replicate (8 - count) 0) (length-append front (replicate (8 - count) 0) ∙ omega (arith, length-replicate {A = ℕ} (8 - count) 0)) ∙ number_of_bytes-zeros front (8 - count)

-- the number that was read, with its bytes
pub read_spells : (bytes : List ℕ) (count n : ℕ) → All (λ b. b < 256) bytes → count ≤ 8 → count ≤ length bytes → n ≡ number_of_bytes (take count bytes)
    → (n < 256 ^ count) × (take count bytes ≡ bytes_low_first 0 count n)
read_spells bytes count n are_bytes most stand is =
    let len = length-take-le count bytes stand in
    let front_bytes : All (λ b. b < 256) (take count bytes) = All-take (λ (b : ℕ). b < 256) count bytes are_bytes in
    let below : number_of_bytes (take count bytes) < 256 ^ count = subst (λ (k : ℕ). number_of_bytes (take count bytes) < 256 ^ k) len (number_of_bytes-lt (take count bytes) front_bytes) in
    (omega arith, sym (low_first-number_of_bytes (take count bytes) front_bytes) ∙ (λ i. bytes_low_first 0 (len i) (sym is i)))

-- ---- least counts

-- all eight bytes of an unsigned number begin with its packed form
pub packs_unsigned : (n count : ℕ) (all : List ℕ) → n < 2 ^ 64 → IsLeastCount count n → all ≡ to_le_bytes w64 n → Packed unsigned (pos n) count (take count all)
packs_unsigned n count all fits least is =
    (n, refl, record { fits = fits; count = least; spelled = ap (take count) is ∙ spelled_front n count least.holds (least.least 8 (omega arith)) })

-- a number read from as many bytes as its least count
pub reads_unsigned : (bytes : List ℕ) (count n : ℕ) → All (λ b. b < 256) bytes → count ≤ 8 → count ≤ length bytes → n < 2 ^ 64 → n ≡ number_of_bytes (take count bytes)
    → IsLeastCount count n → Packed unsigned (pos n) count (take count bytes)
reads_unsigned bytes count n are_bytes most stand fits is least =
    (n, refl, record { fits = fits; count = least; spelled = (read_spells bytes count n are_bytes most stand is).1 })

-- a number read from another count of bytes
pub reads_no_unsigned : (bytes : List ℕ) (count n : ℕ) → All (λ b. b < 256) bytes → count ≤ 8 → count ≤ length bytes → n ≡ number_of_bytes (take count bytes)
    → ¬ IsLeastCount count n → (z : ℤ) → ¬ Packed unsigned z count (take count bytes)
reads_no_unsigned bytes count n are_bytes most stand is other z (m, z_is, packs) =
    let spells = read_spells bytes count n are_bytes most stand is in
    let same : n ≡ m = same_number count n m spells.0 packs.count.holds (sym spells.1 ∙ packs.spelled) in
    other (subst (IsLeastCount count) (sym same) packs.count)

-- ---- bytes in front of others

pub Packed-at_front : (kind : Kind) (z : ℤ) (code : ℕ) (bytes front rest : List ℕ) → Packed kind z code front → bytes ≡ front ++ rest → Packed kind z code (take (byte_count kind code) bytes)
Packed-at_front kind z code bytes front rest packed is =
    subst (Packed kind z code) (sym (ap (take (byte_count kind code)) is ∙ Packed-take kind z code front rest packed)) packed

-- the bytes of a packed form stand whole
pub Packed-stands : (kind : Kind) (z : ℤ) (code : ℕ) (bytes front rest : List ℕ) → Packed kind z code front → bytes ≡ front ++ rest → byte_count kind code ≤ length bytes
Packed-stands kind z code bytes front rest packed is =
    omega (arith, Packed-length kind z code front packed, ap length is ∙ length-append front rest)

-- two values in front of the same bytes
pub only_value : (kind : Kind) (v z : ℤ) (code : ℕ) (bytes front rest : List ℕ) → Packed kind v code front → bytes ≡ front ++ rest → Packed kind z code (take (byte_count kind code) bytes) → z ≡ v
only_value kind v z code bytes front rest packed is read = same_value kind z v code (take (byte_count kind code) bytes) read (Packed-at_front kind v code bytes front rest packed is)
