-- Each value has one packed form, and each packed form one value.
use Rattle.std.proofs.Common.{◌≡◌, inl, inr, ℕ, suc, ◌+◌, ◌^◌, ◌<◌, ◌≤◌, List, ◌++◌, length, take, sym, ap, subst, ◌∙◌, arith}
use Rattle.std.proofs.lemmas.Bool.{cases_lt}
use Rattle.std.proofs.lemmas.List.{take_at}
use Rattle.std.proofs.Math.Nat.{pow-le-pow_right}
use Rattle.std.specs.Prelude.{All, ℤ, pos, negsuc}
use Rattle.std.specs.Int.{w64, cast_unsigned, bytes_low_first}
use Rattle.nibble_pack.specs.Bytes.{number_of_bytes, length-bytes_low_first, bytes_low_first-below, number_of_bytes-low_first}
use Rattle.nibble_pack.specs.Packing.{Kind, unsigned, signed, IsCode, byte_count, IsLeastCount, IsWide, PacksSigned, small, negative}
use Rattle.nibble_pack.specs.Packing.{wide, Packed}

-- ---- one number in so many bytes

pub IsLeastCount-unique : (n a b : ℕ) → IsLeastCount a n → IsLeastCount b n → a ≡ b
IsLeastCount-unique n a b p q = let below = p.least b q.holds in let above = q.least a p.holds in omega arith

pub IsLeastCount-zero : IsLeastCount 0 0
IsLeastCount-zero = record { holds = omega arith; least = λ fewer h. omega arith }

-- a number that k bytes don't hold, and one more do
pub IsLeastCount-suc : (k n : ℕ) → 256 ^ k ≤ n → n < 256 ^ suc k → IsLeastCount (suc k) n
IsLeastCount-suc k n low high = record {
  holds = high;
  least = λ fewer h. elim (cases_lt k fewer) [
    | inl more ↦ more
    | inr no_more ↦ absurd (let powers = pow-le-pow_right {n = 256} (omega arith) {i = fewer} {j = k} no_more in omega arith)
  ];
}

-- bytes that hold a number determine it
pub same_number : (k m n : ℕ) → m < 256 ^ k → n < 256 ^ k → bytes_low_first 0 k m ≡ bytes_low_first 0 k n → m ≡ n
same_number k m n p q same =
    sym (number_of_bytes-low_first k m p) ∙ ap number_of_bytes same ∙ number_of_bytes-low_first k n q

same_least_number : (count m n : ℕ) (bytes : List ℕ) → IsLeastCount count m → IsLeastCount count n
    → bytes ≡ bytes_low_first 0 count m
    → bytes ≡ bytes_low_first 0 count n → m ≡ n
same_least_number count m n bytes p q first second = same_number count m n p.holds q.holds (sym first ∙ second)

-- ---- codes and their bytes

small_code : (n code : ℕ) → n < 2 ^ 56 → IsLeastCount code n → code ≤ 7
small_code n code below least = least.least 7 (omega arith)

negative_count : (n count : ℕ) → n < 2 ^ 48 → IsLeastCount count n → count ≤ 6
negative_count n count below least = least.least 6 (omega arith)

pub Packed-code : (kind : Kind) (z : ℤ) (code : ℕ) (bytes : List ℕ) → Packed kind z code bytes → IsCode kind code
Packed-code unsigned z code bytes (n, is, packs) = packs.count.least 8 (let fits = packs.fits in omega arith)
Packed-code signed z code bytes (small n is below least spelled) =
    let code_below = small_code n code below least in omega arith
Packed-code signed z code bytes (negative n count is below least of_code spelled) =
    let count_below = negative_count n count below least in omega arith
Packed-code signed z code bytes (wide is of_code spelled) = omega arith

pub signed_count-low : (code : ℕ) → code ≤ 8 → byte_count signed code ≡ code
signed_count-low code h = grind arith

pub signed_count-high : (code count : ℕ) → code ≡ 9 + count → byte_count signed code ≡ count
signed_count-high code count h = grind arith

pub Packed-length : (kind : Kind) (z : ℤ) (code : ℕ) (bytes : List ℕ) → Packed kind z code bytes
    → length bytes ≡ byte_count kind code
Packed-length unsigned z code bytes (n, is, packs) = ap length packs.spelled ∙ length-bytes_low_first 0 code n
Packed-length signed z code bytes (small n is below least spelled) =
    let code_below = small_code n code below least in
    ap length spelled ∙ length-bytes_low_first 0 code n ∙ sym (signed_count-low code (omega arith))
Packed-length signed z code bytes (negative n count is below least of_code spelled) =
    ap length spelled ∙ length-bytes_low_first 0 count n ∙ sym (signed_count-high code count of_code)
Packed-length signed z code bytes (wide is of_code spelled) =
    ap length spelled ∙ length-bytes_low_first 0 8 (cast_unsigned w64 z) ∙ sym (signed_count-low code (omega arith) ∙ of_code)

-- no code takes more than 8 bytes
pub byte_count-le : (kind : Kind) (code : ℕ) → IsCode kind code → byte_count kind code ≤ 8
byte_count-le unsigned code h = h
byte_count-le signed code h = grind arith

-- so a packed number has 8 bytes at most
pub Packed-short : (kind : Kind) (z : ℤ) (code : ℕ) (bytes : List ℕ) → Packed kind z code bytes → length bytes ≤ 8
Packed-short kind z code bytes packed =
    omega (arith, Packed-length kind z code bytes packed, byte_count-le kind code (Packed-code kind z code bytes packed))

-- every code has four bits
pub IsCode-lt : (kind : Kind) (code : ℕ) → IsCode kind code → code < 16
IsCode-lt unsigned code h = omega arith
IsCode-lt signed code h = omega arith

spelled_below : (bytes : List ℕ) (count n : ℕ) → bytes ≡ bytes_low_first 0 count n → All (λ b. b < 256) bytes
spelled_below bytes count n spelled =
    subst (λ (bs : List ℕ). All (λ b. b < 256) bs) (sym spelled) (bytes_low_first-below 0 count n)

pub Packed-bytes : (kind : Kind) (z : ℤ) (code : ℕ) (bytes : List ℕ) → Packed kind z code bytes
    → All (λ b. b < 256) bytes
Packed-bytes unsigned z code bytes (n, is, packs) = spelled_below bytes code n packs.spelled
Packed-bytes signed z code bytes (small n is below least spelled) = spelled_below bytes code n spelled
Packed-bytes signed z code bytes (negative n count is below least of_code spelled) = spelled_below bytes count n spelled
Packed-bytes signed z code bytes (wide is of_code spelled) = spelled_below bytes 8 (cast_unsigned w64 z) spelled

-- ---- one value

pub wide_number : (z : ℤ) → IsWide z → cast_unsigned w64 z < 2 ^ 64
wide_number (pos n) h = omega arith
wide_number (negsuc n) h = omega arith

same_wide : (a b : ℤ) → IsWide a → IsWide b → cast_unsigned w64 a ≡ cast_unsigned w64 b → a ≡ b
same_wide (pos m) (pos n) p q e = ap pos e
same_wide (pos m) (negsuc n) p q e = absurd (omega arith)
same_wide (negsuc m) (pos n) p q e = absurd (omega arith)
same_wide (negsuc m) (negsuc n) p q e = ap negsuc (omega arith)

same_signed : (a b : ℤ) (code : ℕ) (bytes : List ℕ) → PacksSigned a code bytes → PacksSigned b code bytes → a ≡ b
same_signed a b code bytes (small m a_is m_below m_least m_spelled) (small n b_is n_below n_least n_spelled) =
    a_is ∙ ap pos (same_least_number code m n bytes m_least n_least m_spelled n_spelled) ∙ sym b_is
same_signed a b code bytes (small m a_is m_below m_least m_spelled) (negative n count b_is n_below n_least of_code n_spelled) =
    let low = small_code m code m_below m_least in absurd (omega arith)
same_signed a b code bytes (small m a_is m_below m_least m_spelled) (wide b_is of_code b_spelled) =
    let low = small_code m code m_below m_least in absurd (omega arith)
same_signed a b code bytes (negative m count a_is m_below m_least of_code m_spelled) (small n b_is n_below n_least n_spelled) =
    let low = small_code n code n_below n_least in absurd (omega arith)
same_signed a b code bytes (negative m count a_is m_below m_least of_code m_spelled) (negative n other b_is n_below n_least of_other n_spelled) =
    let same : other ≡ count = omega arith in
    let least : IsLeastCount count n = subst (λ (k : ℕ). IsLeastCount k n) same n_least in
    let spelled : bytes ≡ bytes_low_first 0 count n = n_spelled ∙ ap (λ (k : ℕ). bytes_low_first 0 k n) same in
    a_is ∙ ap negsuc (same_least_number count m n bytes m_least least m_spelled spelled) ∙ sym b_is
same_signed a b code bytes (negative m count a_is m_below m_least of_code m_spelled) (wide b_is of_wide b_spelled) =
    absurd (omega arith)
same_signed a b code bytes (wide a_is of_code a_spelled) (small n b_is n_below n_least n_spelled) =
    let low = small_code n code n_below n_least in absurd (omega arith)
same_signed a b code bytes (wide a_is of_code a_spelled) (negative n count b_is n_below n_least of_other n_spelled) =
    absurd (omega arith)
same_signed a b code bytes (wide a_is of_code a_spelled) (wide b_is of_other b_spelled) =
    let below_a = wide_number a a_is in
    let below_b = wide_number b b_is in
    same_wide a b a_is b_is (same_number 8 (cast_unsigned w64 a) (cast_unsigned w64 b) (omega arith) (omega arith) (sym a_spelled ∙ b_spelled))

-- a code with its bytes is of one value
pub same_value : (kind : Kind) (a b : ℤ) (code : ℕ) (bytes : List ℕ) → Packed kind a code bytes
    → Packed kind b code bytes → a ≡ b
same_value unsigned a b code bytes (m, a_is, p) (n, b_is, q) = a_is
    ∙ ap pos (same_least_number code m n bytes p.count q.count p.spelled q.spelled) ∙ sym b_is
same_value signed a b code bytes p q = same_signed a b code bytes p q

-- ---- one pair

same_spelling : (a b m n : ℕ) (xs ys : List ℕ) → m ≡ n → IsLeastCount a m → IsLeastCount b n
    → xs ≡ bytes_low_first 0 a m
    → ys ≡ bytes_low_first 0 b n → (a ≡ b) × (xs ≡ ys)
same_spelling a b m n xs ys same p q first second =
    let count : a ≡ b = IsLeastCount-unique n a b (subst (λ (k : ℕ). IsLeastCount a k) same p) q in
    (count, first ∙ (λ i. bytes_low_first 0 (count i) (same i)) ∙ sym second)

not_wide : (n : ℕ) → n < 2 ^ 56 → IsWide (pos n) → ⊥
not_wide n h w = omega arith

not_wide_below : (n : ℕ) → n < 2 ^ 48 → IsWide (negsuc n) → ⊥
not_wide_below n h w = omega arith

same_signed_pair : (z : ℤ) (a b : ℕ) (xs ys : List ℕ) → PacksSigned z a xs → PacksSigned z b ys → (a ≡ b) × (xs ≡ ys)
same_signed_pair z a b xs ys (small m z_is m_below m_least m_spelled) (small n z_too n_below n_least n_spelled) =
    let same : pos m ≡ pos n = sym z_is ∙ z_too in
    same_spelling a b m n xs ys (cc) m_least n_least m_spelled n_spelled
same_signed_pair z a b xs ys (small m z_is m_below m_least m_spelled) (negative n count z_too n_below n_least of_code n_spelled) =
    let same : pos m ≡ negsuc n = sym z_is ∙ z_too in cc
same_signed_pair z a b xs ys (small m z_is m_below m_least m_spelled) (wide is of_code spelled) =
    absurd (not_wide m m_below (subst IsWide z_is is))
same_signed_pair z a b xs ys (negative m count z_is m_below m_least of_code m_spelled) (small n z_too n_below n_least n_spelled) =
    let same : negsuc m ≡ pos n = sym z_is ∙ z_too in cc
same_signed_pair z a b xs ys (negative m count z_is m_below m_least of_code m_spelled) (negative n other z_too n_below n_least of_other n_spelled) =
    let same : negsuc m ≡ negsuc n = sym z_is ∙ z_too in
    let both = same_spelling count other m n xs ys (cc) m_least n_least m_spelled n_spelled in
    (of_code ∙ ap (λ (k : ℕ). 9 + k) both.0 ∙ sym of_other, both.1)
same_signed_pair z a b xs ys (negative m count z_is m_below m_least of_code m_spelled) (wide is of_other spelled) =
    absurd (not_wide_below m m_below (subst IsWide z_is is))
same_signed_pair z a b xs ys (wide is of_code spelled) (small n z_too n_below n_least n_spelled) =
    absurd (not_wide n n_below (subst IsWide z_too is))
same_signed_pair z a b xs ys (wide is of_code spelled) (negative n count z_too n_below n_least of_other n_spelled) =
    absurd (not_wide_below n n_below (subst IsWide z_too is))
same_signed_pair z a b xs ys (wide is of_code spelled) (wide is_too of_other spelled_too) =
    (of_code ∙ sym of_other, spelled ∙ sym spelled_too)

-- a value has one code with its bytes
pub same_pair : (kind : Kind) (z : ℤ) (a b : ℕ) (xs ys : List ℕ) → Packed kind z a xs → Packed kind z b ys
    → (a ≡ b) × (xs ≡ ys)
same_pair unsigned z a b xs ys (m, z_is, p) (n, z_too, q) =
    let same : pos m ≡ pos n = sym z_is ∙ z_too in
    same_spelling a b m n xs ys (cc) p.count q.count p.spelled q.spelled
same_pair signed z a b xs ys p q = same_signed_pair z a b xs ys p q

-- ---- in front of other bytes

-- the bytes of a code are read off the front
pub Packed-take : (kind : Kind) (z : ℤ) (code : ℕ) (bytes rest : List ℕ) → Packed kind z code bytes
    → take (byte_count kind code) (bytes ++ rest) ≡ bytes
Packed-take kind z code bytes rest p = take_at bytes rest (byte_count kind code) (Packed-length kind z code bytes p)

-- bytes begin with one spelling at most
pub same_front : (kind : Kind) (a b : ℤ) (code : ℕ) (xs ys r s : List ℕ) → Packed kind a code xs → Packed kind b code ys
    → xs ++ r ≡ ys ++ s → (xs ≡ ys) × (a ≡ b)
same_front kind a b code xs ys r s p q same =
    let front : xs ≡ ys = sym (Packed-take kind a code xs r p) ∙ ap (take (byte_count kind code)) same ∙ Packed-take kind b code ys s q in
    (front, same_value kind a b code ys (subst (Packed kind a code) front p) q)
