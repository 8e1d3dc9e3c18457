-- Numbers as bytes, the lowest first.
use Rattle.std.proofs.Common.{◌≡◌, ℕ, zero, suc, ◌+◌, ◌*◌, ◌/◌, ◌%◌, ◌^◌, ◌<◌, List, [], ◌∷◌, ◌++◌, length, drop, replicate, refl, sym, ap, subst, ◌∙◌}
use Rattle.std.proofs.Common.{arith}
use Rattle.std.specs.Prelude.{All}
use Rattle.std.specs.Int.{w64, byte_at, bytes_low_first, from_le_bytes}
use Rattle.std.proofs.lemmas.List.{drop_at}
use Rattle.std.proofs.lemmas.List.Elements.{All-nil, All-cons, All-head, All-tail, All-drop}
use Rattle.std.proofs.Math.Nat.{div-div-eq-div-mul, pow-succ'}

-- each number is one of a byte
abbrev pub AreBytes : List ℕ → Type 0
AreBytes bytes = All (λ byte. byte < 256) bytes

-- what follows in bytes is bytes
pub back_bytes : (bytes front back : List ℕ) → bytes ≡ front ++ back → AreBytes bytes → AreBytes back
back_bytes bytes front back is small =
    subst AreBytes (ap (drop (length front)) is ∙ drop_at front back (length front) refl)
    (All-drop (λ byte. byte < 256) (length front) bytes small)

-- the number that bytes represent
abbrev pub number_of_bytes : List ℕ → ℕ
number_of_bytes [] = 0
number_of_bytes (b ∷ bytes) = b + 256 * number_of_bytes bytes

pub length-bytes_low_first : (i k n : ℕ) → length (bytes_low_first i k n) ≡ k
length-bytes_low_first i zero n = refl
length-bytes_low_first i (suc k) n = ap suc (length-bytes_low_first (suc i) k n)

byte_at-suc : (i n : ℕ) → byte_at (suc i) n ≡ byte_at i (n / 256)
byte_at-suc zero n = refl
byte_at-suc (suc i) n =
    ap (λ (m : ℕ). m % 256) (ap (λ (p : ℕ). n / p) (pow-succ' 256 (suc i)) ∙ sym (div-div-eq-div-mul n 256 (256 ^ suc i)))

byte_at-lt : (i n : ℕ) → byte_at i n < 256
byte_at-lt zero n = omega arith
byte_at-lt (suc i) n = omega arith

bytes_low_first-from_suc : (i k n : ℕ) → bytes_low_first (suc i) k n ≡ bytes_low_first i k (n / 256)
bytes_low_first-from_suc i zero n = refl
bytes_low_first-from_suc i (suc k) n = λ t. byte_at-suc i n t ∷ bytes_low_first-from_suc (suc i) k n t

-- the lowest byte, and then those of the rest
pub bytes_low_first-suc : (k n : ℕ) → bytes_low_first 0 (suc k) n ≡ n % 256 ∷ bytes_low_first 0 k (n / 256)
bytes_low_first-suc k n = ap (λ (bytes : List ℕ). n % 256 ∷ bytes) (bytes_low_first-from_suc 0 k n)

-- enough bytes represent the number
pub number_of_bytes-low_first : (k n : ℕ) → n < 256 ^ k → number_of_bytes (bytes_low_first 0 k n) ≡ n
number_of_bytes-low_first zero n h = omega arith
number_of_bytes-low_first (suc k) n h =
    let power = pow-succ' 256 k in
    ap number_of_bytes (bytes_low_first-suc k n) ∙ omega (arith, number_of_bytes-low_first k (n / 256) (omega arith))

-- as many bytes hold it
pub number_of_bytes-lt : (bytes : List ℕ) → AreBytes bytes → number_of_bytes bytes < 256 ^ length bytes
number_of_bytes-lt [] h = omega arith
number_of_bytes-lt (b ∷ bytes) h =
    let byte = All-head (λ (b : ℕ). b < 256) b bytes h in
    let rest = number_of_bytes-lt bytes (All-tail (λ (b : ℕ). b < 256) b bytes h) in
    omega (arith, pow-succ' 256 (length bytes))

-- bytes spell the number that they represent
pub low_first-number_of_bytes : (bytes : List ℕ) → AreBytes bytes
    → bytes_low_first 0 (length bytes) (number_of_bytes bytes) ≡ bytes
low_first-number_of_bytes [] h = refl
low_first-number_of_bytes (b ∷ bytes) h =
    let byte = All-head (λ (b : ℕ). b < 256) b bytes h in
    let rest = low_first-number_of_bytes bytes (All-tail (λ (b : ℕ). b < 256) b bytes h) in
    let n : ℕ = b + 256 * number_of_bytes bytes in
    let first : n % 256 ≡ b = omega arith in
    let others : n / 256 ≡ number_of_bytes bytes = omega arith in
    bytes_low_first-suc (length bytes) n ∙ (λ t. first t ∷ bytes_low_first 0 (length bytes) (others t)) ∙ ap (λ (r : List ℕ). b ∷ r) rest

-- as many bytes represent a number in one way
pub number_of_bytes-unique : (xs ys : List ℕ) → length xs ≡ length ys → AreBytes xs → AreBytes ys
    → number_of_bytes xs ≡ number_of_bytes ys → xs ≡ ys
number_of_bytes-unique xs ys same left right e =
    sym (low_first-number_of_bytes xs left) ∙ (λ t. bytes_low_first 0 (same t) (e t)) ∙ low_first-number_of_bytes ys right

pub bytes_low_first-below : (i k n : ℕ) → AreBytes (bytes_low_first i k n)
bytes_low_first-below i zero n = All-nil (λ (b : ℕ). b < 256)
bytes_low_first-below i (suc k) n =
    All-cons (λ (b : ℕ). b < 256) (byte_at i n) (bytes_low_first (suc i) k n) (byte_at-lt i n) (bytes_low_first-below (suc i) k n)

bytes_low_first-of_zero : (m : ℕ) → bytes_low_first 0 m 0 ≡ replicate m 0
bytes_low_first-of_zero zero = refl
bytes_low_first-of_zero (suc m) = bytes_low_first-suc m 0 ∙ ap (λ (r : List ℕ). 0 ∷ r) (bytes_low_first-of_zero m)

-- where fewer bytes hold the number, the others are 0
pub bytes_low_first-zeros : (k m t n : ℕ) → t ≡ k + m → n < 256 ^ k
    → bytes_low_first 0 t n ≡ bytes_low_first 0 k n ++ replicate m 0
bytes_low_first-zeros zero m t n e h =
    let none : n ≡ 0 = omega arith in
    let same : t ≡ m = omega arith in
    rw (none, same) (bytes_low_first-of_zero m)
bytes_low_first-zeros (suc k) m zero n e h = absurd (omega arith)
bytes_low_first-zeros (suc k) m (suc t) n e h =
    let power = pow-succ' 256 k in
    let rest = bytes_low_first-zeros k m t (n / 256) (omega arith) (omega arith) in
    bytes_low_first-suc t n ∙ ap (λ (r : List ℕ). n % 256 ∷ r) rest
    ∙ ap (λ (r : List ℕ). r ++ replicate m 0) (sym (bytes_low_first-suc k n))

pub number_of_bytes-zeros : (bytes : List ℕ) (m : ℕ) → number_of_bytes (bytes ++ replicate m 0) ≡ number_of_bytes bytes
number_of_bytes-zeros [] zero = refl
number_of_bytes-zeros [] (suc m) = omega (arith, number_of_bytes-zeros [] m)
number_of_bytes-zeros (b ∷ bytes) m = omega (arith, number_of_bytes-zeros bytes m)

-- how eight bytes are read
pub from_le_bytes-number : (bytes : List ℕ) → length bytes ≡ 8 → from_le_bytes w64 bytes ≡ number_of_bytes bytes
from_le_bytes-number (a ∷ b ∷ c ∷ d ∷ e ∷ f ∷ g ∷ h ∷ []) is = omega arith
from_le_bytes-number _ is = absurd (omega arith)
