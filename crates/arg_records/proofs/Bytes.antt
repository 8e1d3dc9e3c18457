-- Bytes as words.
use Rattle.std.proofs.Common.{◌≡◌, ℕ, suc, ◌+◌, ◌-◌, ◌*◌, ◌^◌, ◌<◌, ◌≤◌, List, [], ◌∷◌, length, take, drop, get_or, refl, sym, ap, ◌∙◌, arith}
use Rattle.std.proofs.Math.Nat.{pow-le-pow_right, pow-succ'}
use Rattle.std.specs.Int.{w64, from_le_bytes}
use Rattle.std.proofs.lemmas.List.{length-take-le, at_drop_more}
use Rattle.nibble_pack.specs.Bytes.{number_of_bytes, from_le_bytes-number}
use Rattle.arg_records.specs.Frames.{words_of_bytes}

-- the number of the first eight bytes
pub eight : (bytes : List ℕ) → 8 ≤ length bytes → from_le_bytes w64 (take 8 bytes) ≡ number_of_bytes (take 8 bytes)
eight bytes long = from_le_bytes-number (take 8 bytes) (length-take-le 8 bytes long)

-- one byte more in front
pub word_grows : (bytes : List ℕ) (at word byte : ℕ) → 0 < at → at ≤ length bytes → word ≡ number_of_bytes (drop at bytes) → byte ≡ get_or bytes (at - 1) 0
    → word * 256 + byte ≡ number_of_bytes (drop (at - 1) bytes)
word_grows bytes at word byte some within is byte_is =
    let next : at - 1 + 1 ≡ at = omega (arith, some) in
    omega (arith, at_drop_more number_of_bytes bytes (at - 1) 0 (omega (arith, some, within)), ap (λ (k : ℕ). number_of_bytes (drop k bytes)) next, is, byte_is)

pub word_small : (len at word byte : ℕ) → 0 < at → at ≤ len → word < 256 ^ (len - at) → byte < 256 → word * 256 + byte < 256 ^ (len - (at - 1))
word_small len at word byte some within small byte_small =
    let steps : len - (at - 1) ≡ suc (len - at) = omega (arith, some, within) in
    omega (arith, small, byte_small, ap (λ (k : ℕ). 256 ^ k) steps, pow-succ' 256 (len - at))

-- fewer than seven bytes leave room for one more
pub word_fits : (len at word : ℕ) → 0 < at → at ≤ len → len < 8 → word < 256 ^ (len - at) → word * 256 + 255 < 18446744073709551616
word_fits len at word some within short small = omega (arith, small, pow-le-pow_right {n = 256} (omega arith) {i = len - at} {j = 6} (omega (arith, some, within, short)))

-- eight bytes are the first word
pub first_bytes : (bytes : List ℕ) → 8 ≤ length bytes → words_of_bytes bytes ≡ number_of_bytes (take 8 bytes) ∷ words_of_bytes (drop 8 bytes)
first_bytes [] long = absurd omega arith
first_bytes (a ∷ []) long = absurd omega arith
first_bytes (a ∷ b ∷ []) long = absurd omega arith
first_bytes (a ∷ b ∷ c ∷ []) long = absurd omega arith
first_bytes (a ∷ b ∷ c ∷ d ∷ []) long = absurd omega arith
first_bytes (a ∷ b ∷ c ∷ d ∷ e ∷ []) long = absurd omega arith
first_bytes (a ∷ b ∷ c ∷ d ∷ e ∷ f ∷ []) long = absurd omega arith
first_bytes (a ∷ b ∷ c ∷ d ∷ e ∷ f ∷ g ∷ []) long = absurd omega arith
first_bytes (a ∷ b ∷ c ∷ d ∷ e ∷ f ∷ g ∷ h ∷ bytes) long = refl

pub first_word : (bytes front back : List ℕ) (word : ℕ) → 8 ≤ length bytes → front ≡ take 8 bytes → back ≡ drop 8 bytes → word ≡ from_le_bytes w64 front → words_of_bytes bytes ≡ word ∷ words_of_bytes back
first_word bytes front back word long front_is back_is is =
    first_bytes bytes long ∙ ap (λ (w : ℕ). w ∷ words_of_bytes (drop 8 bytes)) (sym (is ∙ ap (from_le_bytes w64) front_is ∙ eight bytes long))
    ∙ ap (λ (b : List ℕ). word ∷ words_of_bytes b) (sym back_is)

-- fewer are the only word
pub only_word : (bytes : List ℕ) → length bytes < 8 → 0 < length bytes → words_of_bytes bytes ≡ number_of_bytes bytes ∷ []
only_word [] short some = absurd omega arith
only_word (a ∷ []) short some = refl
only_word (a ∷ b ∷ []) short some = refl
only_word (a ∷ b ∷ c ∷ []) short some = refl
only_word (a ∷ b ∷ c ∷ d ∷ []) short some = refl
only_word (a ∷ b ∷ c ∷ d ∷ e ∷ []) short some = refl
only_word (a ∷ b ∷ c ∷ d ∷ e ∷ f ∷ []) short some = refl
only_word (a ∷ b ∷ c ∷ d ∷ e ∷ f ∷ g ∷ []) short some = refl
only_word (a ∷ b ∷ c ∷ d ∷ e ∷ f ∷ g ∷ h ∷ bytes) short some = absurd omega arith
