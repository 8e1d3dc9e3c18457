-- The words of a text, and the bytes of words.
use Rattle.std.proofs.Common.{◌≡◌, ◌≢◌, inl, inr, ℕ, ◌+◌, ◌-◌, ◌*◌, ◌^◌, ◌<◌, ◌≤◌, List, [], ◌∷◌, ◌++◌, length, take, drop, min, replicate, refl, sym, ap, ◌∙◌, arith}
use Rattle.std.specs.Prelude.{All}
use Rattle.std.specs.Int.{w64, to_le_bytes}
use Rattle.std.proofs.Math.Seq.{take-append-add}
use Rattle.std.proofs.lemmas.Bool.{cases_lt}
use Rattle.std.proofs.lemmas.List.{length-append, length-replicate, length-take-le, length-drop, append-nil, take-append-drop, take_all, drop_all, take_at, drop_at, take-append-le, drop-append-le, drop-drop}
use Rattle.std.proofs.lemmas.List.Elements.{All-nil, All-head, All-tail, All-same, All-append, All-take, All-drop, All-replicate}
use Rattle.nibble_pack.specs.Bytes.{number_of_bytes, number_of_bytes-low_first, number_of_bytes-zeros, bytes_low_first-below}
use Rattle.arg_records.specs.Frames.{words_of_bytes}
use Rattle.arg_records.specs.Reading.{bytes_of_words, IsPadded}
use Rattle.arg_records.proofs.Bytes.{first_bytes, only_word}
use Rattle.arg_records.proofs.lemmas.Lengths.{length-words_of_bytes}
use Rattle.arg_records.proofs.Unique.{bytes_same}

-- ---- the bytes of words

pub bytes_below : (words : List ℕ) → All (λ b. b < 256) (bytes_of_words words)
bytes_below [] = All-nil (λ (b : ℕ). b < 256)
bytes_below (word ∷ words) = All-append (λ (b : ℕ). b < 256) (to_le_bytes w64 word) (bytes_of_words words) (bytes_low_first-below 0 8 word) (bytes_below words)

pub length-bytes_of_words : (words : List ℕ) → length (bytes_of_words words) ≡ 8 * length words
length-bytes_of_words [] = refl
length-bytes_of_words (word ∷ words) = omega (arith, length-bytes_of_words words)

number_again : (word : ℕ) → word < 2 ^ 64 → number_of_bytes (to_le_bytes w64 word) ≡ word
number_again word below = number_of_bytes-low_first 8 word (omega (arith, below))

-- the bytes of words are these words
pub words_again : (words : List ℕ) → All (λ w. w < 2 ^ 64) words → words_of_bytes (bytes_of_words words) ≡ words
words_again [] below = refl
words_again (word ∷ words) below =
    ap (λ (n : ℕ). n ∷ words_of_bytes (bytes_of_words words)) (number_again word (All-head (λ (w : ℕ). w < 2 ^ 64) word words below))
    ∙ ap (λ (ws : List ℕ). word ∷ ws) (words_again words (All-tail (λ (w : ℕ). w < 2 ^ 64) word words below))

-- ---- zeros behind bytes

one_filled : (bytes : List ℕ) (zeros count : ℕ) → 0 < length bytes → length bytes < 8 → zeros < 8 → length bytes + zeros ≡ 8 * count → words_of_bytes (bytes ++ replicate zeros 0) ≡ words_of_bytes bytes
one_filled bytes zeros count some short few is =
    let all : List ℕ = bytes ++ replicate zeros 0 in
    let long : length all ≡ 8 = omega (arith, length-append bytes (replicate zeros 0), length-replicate {A = ℕ} zeros 0) in
    first_bytes all (omega arith)
    ∙ ap (λ (b : List ℕ). number_of_bytes b ∷ words_of_bytes (drop 8 all)) (take_all 8 all (omega arith))
    ∙ ap (λ (r : List ℕ). number_of_bytes all ∷ words_of_bytes r) (drop_all 8 all (omega arith))
    ∙ ap (λ (n : ℕ). n ∷ []) (number_of_bytes-zeros bytes zeros)
    ∙ sym (only_word bytes short some)

-- zeros that fill up the last word change no word
pub words_of_bytes-zeros : (bytes : List ℕ) (zeros count : ℕ) → zeros < 8 → length bytes + zeros ≡ 8 * count → words_of_bytes (bytes ++ replicate zeros 0) ≡ words_of_bytes bytes
words_of_bytes-zeros [] zeros count few is = let none : zeros ≡ 0 = omega arith in ap (λ (k : ℕ). words_of_bytes (replicate k 0)) none
words_of_bytes-zeros (a ∷ []) zeros count few is = one_filled (a ∷ []) zeros count (omega arith) (omega arith) few is
words_of_bytes-zeros (a ∷ b ∷ []) zeros count few is = one_filled (a ∷ b ∷ []) zeros count (omega arith) (omega arith) few is
words_of_bytes-zeros (a ∷ b ∷ c ∷ []) zeros count few is = one_filled (a ∷ b ∷ c ∷ []) zeros count (omega arith) (omega arith) few is
words_of_bytes-zeros (a ∷ b ∷ c ∷ d ∷ []) zeros count few is = one_filled (a ∷ b ∷ c ∷ d ∷ []) zeros count (omega arith) (omega arith) few is
words_of_bytes-zeros (a ∷ b ∷ c ∷ d ∷ e ∷ []) zeros count few is = one_filled (a ∷ b ∷ c ∷ d ∷ e ∷ []) zeros count (omega arith) (omega arith) few is
words_of_bytes-zeros (a ∷ b ∷ c ∷ d ∷ e ∷ f ∷ []) zeros count few is = one_filled (a ∷ b ∷ c ∷ d ∷ e ∷ f ∷ []) zeros count (omega arith) (omega arith) few is
words_of_bytes-zeros (a ∷ b ∷ c ∷ d ∷ e ∷ f ∷ g ∷ []) zeros count few is = one_filled (a ∷ b ∷ c ∷ d ∷ e ∷ f ∷ g ∷ []) zeros count (omega arith) (omega arith) few is
words_of_bytes-zeros (a ∷ b ∷ c ∷ d ∷ e ∷ f ∷ g ∷ h ∷ bytes) zeros count few is =
    ap (λ (ws : List ℕ). number_of_bytes (a ∷ b ∷ c ∷ d ∷ e ∷ f ∷ g ∷ h ∷ []) ∷ ws) (words_of_bytes-zeros bytes zeros (count - 1) few (omega arith))

all_zeros : (bytes : List ℕ) → All (λ b. b ≡ 0) bytes → bytes ≡ replicate (length bytes) 0
all_zeros [] are = refl
all_zeros (b ∷ bytes) are =
    ap (λ (n : ℕ). n ∷ bytes) (All-head (λ (b : ℕ). b ≡ 0) b bytes are) ∙ ap (λ (bs : List ℕ). 0 ∷ bs) (all_zeros bytes (All-tail (λ (b : ℕ). b ≡ 0) b bytes are))

-- ---- texts

-- words that have zeros behind so many bytes are the words of these bytes
pub padded_words : (words : List ℕ) (len : ℕ) → All (λ w. w < 2 ^ 64) words → len ≤ 8 * length words → 8 * length words < len + 8 → IsPadded len (bytes_of_words words) → words_of_bytes (take len (bytes_of_words words)) ≡ words
padded_words words len below within short padded =
    let bytes : List ℕ = bytes_of_words words in
    let long = length-bytes_of_words words in
    let front_long : length (take len bytes) ≡ len = length-take-le len bytes (omega arith) in
    let back_long = length-drop len bytes in
    let zeros = all_zeros (drop len bytes) padded.zeros in
    sym (words_of_bytes-zeros (take len bytes) (length (drop len bytes)) (length words) (omega arith) (omega arith))
    ∙ ap (λ (z : List ℕ). words_of_bytes (take len bytes ++ z)) (sym zeros)
    ∙ ap words_of_bytes (take-append-drop len bytes)
    ∙ words_again words below

filled_below : (bytes : List ℕ) (zeros : ℕ) → All (λ b. b < 256) bytes → All (λ b. b < 256) (bytes ++ replicate zeros 0)
filled_below bytes zeros below = All-append (λ (b : ℕ). b < 256) bytes (replicate zeros 0) below (All-replicate (λ (b : ℕ). b < 256) zeros 0 (omega arith))

-- the bytes of the words of bytes are these, and zeros
bytes_again : (bytes : List ℕ) (zeros : ℕ) → All (λ b. b < 256) bytes → All (λ w. w < 2 ^ 64) (words_of_bytes bytes) → zeros < 8 → length bytes + zeros ≡ 8 * length (words_of_bytes bytes) → bytes_of_words (words_of_bytes bytes) ≡ bytes ++ replicate zeros 0
bytes_again bytes zeros below words_below few is =
    let words : List ℕ = words_of_bytes bytes in
    let all : List ℕ = bytes ++ replicate zeros 0 in
    let long = length-bytes_of_words words in
    let same : length (bytes_of_words words) ≡ length all = omega (arith, length-append bytes (replicate zeros 0), length-replicate {A = ℕ} zeros 0) in
    let e = words_again words words_below ∙ sym (words_of_bytes-zeros bytes zeros (length words) few is) in
    (bytes_same (length (bytes_of_words words)) (bytes_of_words words) all [] [] (omega arith) same (bytes_below words) (filled_below bytes zeros below) (ap (λ (ws : List ℕ). ws ++ []) e)).0

-- the words of a text have zeros behind its bytes
pub text_padded : (bytes : List ℕ) → All (λ b. b < 256) bytes → All (λ b. b ≢ 0) bytes → All (λ w. w < 2 ^ 64) (words_of_bytes bytes) → IsPadded (length bytes) (bytes_of_words (words_of_bytes bytes))
text_padded bytes below no_nul words_below =
    let many = length-words_of_bytes bytes in
    let zeros : ℕ = 8 * length (words_of_bytes bytes) - length bytes in
    let again = bytes_again bytes zeros below words_below (omega arith) (omega arith) in
    record {
      no_nul = All-same (λ (b : ℕ). b ≢ 0) _ bytes (ap (take (length bytes)) again ∙ take_at bytes (replicate zeros 0) (length bytes) refl) no_nul;
      zeros = All-same (λ (b : ℕ). b ≡ 0) _ (replicate zeros 0) (ap (drop (length bytes)) again ∙ drop_at bytes (replicate zeros 0) (length bytes) refl) (All-replicate (λ (b : ℕ). b ≡ 0) zeros 0 refl);
    }

-- ---- word by word

-- a number of bytes of two parts
pub take_both : (n k : ℕ) (xs ys : List ℕ) → length xs ≡ 8 → k ≡ min n 8 → take n (xs ++ ys) ≡ take k xs ++ take (n - k) ys
take_both n k xs ys long is =
    elim (cases_lt n 8) [
      | inl few ↦
          let all : k ≡ n = omega arith in
          let none : n - k ≡ 0 = omega arith in
          take-append-le n xs ys (omega arith) ∙ sym (ap (λ (j : ℕ). take k xs ++ take j ys) none ∙ ap (λ (j : ℕ). take j xs ++ []) all ∙ append-nil (take n xs))
      | inr many ↦
          let eight : n ≡ length xs + (n - 8) = omega arith in
          let front : xs ≡ take k xs = sym (take_all k xs (omega arith)) in
          let rest : n - 8 ≡ n - k = omega arith in
          ap (λ (j : ℕ). take j (xs ++ ys)) eight ∙ take-append-add xs ys (n - 8) ∙ (λ t. front t ++ take (rest t) ys)
    ]

drop_both : (n k : ℕ) (xs ys : List ℕ) → length xs ≡ 8 → k ≡ min n 8 → drop n (xs ++ ys) ≡ drop k xs ++ drop (n - k) ys
drop_both n k xs ys long is =
    elim (cases_lt n 8) [
      | inl few ↦
          let all : n ≡ k = omega arith in
          let none : 0 ≡ n - k = omega arith in
          drop-append-le n xs ys (omega arith) ∙ ap (λ (j : ℕ). drop j xs ++ ys) all ∙ ap (λ (j : ℕ). drop k xs ++ drop j ys) none
      | inr many ↦
          let eight : n ≡ 8 + (n - k) = omega arith in
          ap (λ (j : ℕ). drop j (xs ++ ys)) eight
          ∙ sym (drop-drop (n - k) 8 (xs ++ ys))
          ∙ ap (drop (n - k)) (drop_at xs ys 8 long)
          ∙ sym (ap (λ (front : List ℕ). front ++ drop (n - k) ys) (drop_all k xs (omega arith)))
    ]

front_all : (P : ℕ → Type 0) (xs ys : List ℕ) → All P (xs ++ ys) → All P xs
front_all P xs ys all = All-same P xs (take (length xs) (xs ++ ys)) (sym (take_at xs ys (length xs) refl)) (All-take P (length xs) (xs ++ ys) all)

back_all : (P : ℕ → Type 0) (xs ys : List ℕ) → All P (xs ++ ys) → All P ys
back_all P xs ys all = All-same P ys (drop (length xs) (xs ++ ys)) (sym (drop_at xs ys (length xs) refl)) (All-drop P (length xs) (xs ++ ys) all)

-- a first word, and others behind it
pub padded_both : (left count word : ℕ) (words : List ℕ) → count ≡ min left 8 → IsPadded count (to_le_bytes w64 word) → IsPadded (left - count) (bytes_of_words words) → IsPadded left (bytes_of_words (word ∷ words))
padded_both left count word words is here others =
    let bytes : List ℕ = to_le_bytes w64 word in
    let rest : List ℕ = bytes_of_words words in
    record {
      no_nul = All-same (λ (b : ℕ). b ≢ 0) _ _ (take_both left count bytes rest refl is) (All-append (λ (b : ℕ). b ≢ 0) (take count bytes) (take (left - count) rest) here.no_nul others.no_nul);
      zeros = All-same (λ (b : ℕ). b ≡ 0) _ _ (drop_both left count bytes rest refl is) (All-append (λ (b : ℕ). b ≡ 0) (drop count bytes) (drop (left - count) rest) here.zeros others.zeros);
    }

pub padded_parts : (left count word : ℕ) (words : List ℕ) → count ≡ min left 8 → IsPadded left (bytes_of_words (word ∷ words)) → IsPadded count (to_le_bytes w64 word) × IsPadded (left - count) (bytes_of_words words)
padded_parts left count word words is padded =
    let bytes : List ℕ = to_le_bytes w64 word in
    let rest : List ℕ = bytes_of_words words in
    let no_nul = All-same (λ (b : ℕ). b ≢ 0) (take count bytes ++ take (left - count) rest) (take left (bytes ++ rest)) (sym (take_both left count bytes rest refl is)) padded.no_nul in
    let zeros = All-same (λ (b : ℕ). b ≡ 0) (drop count bytes ++ drop (left - count) rest) (drop left (bytes ++ rest)) (sym (drop_both left count bytes rest refl is)) padded.zeros in (
      record { no_nul = front_all (λ (b : ℕ). b ≢ 0) _ _ no_nul; zeros = front_all (λ (b : ℕ). b ≡ 0) _ _ zeros },
      record { no_nul = back_all (λ (b : ℕ). b ≢ 0) (take count bytes) _ no_nul; zeros = back_all (λ (b : ℕ). b ≡ 0) (drop count bytes) _ zeros },
    )
