-- Words that are written over others, one run behind another.
use Rattle.std.proofs.Common.{◌≡◌, ℕ, ◌+◌, ◌<◌, ◌≤◌, List, [], ◌∷◌, ◌++◌, length, take, drop, sym, ap, ◌∙◌, append_assoc, arith}
use Rattle.std.proofs.Math.ListN.{set}
use Rattle.std.proofs.lemmas.List.{length-append, length-take-le, take-append-drop, take_at, drop_at, drop-drop, take_more_set, drop-set-lt}
use Rattle.arg_records.specs.Places.{with_words}

-- a word, and others behind it
pub word_first : (list : List ℕ) (at word : ℕ) (words : List ℕ) → at < length list → with_words (set list at word) (at + 1) words ≡ with_words list at (word ∷ words)
word_first list at word words within =
    let front = take_more_set list at word within in
    let back = drop-set-lt (at + 1 + length words) list at word (omega arith) in
    let place : at + 1 + length words ≡ at + length (word ∷ words) = omega arith in
    ap (λ (f : List ℕ). f ++ (words ++ drop (at + 1 + length words) (set list at word))) front
    ∙ ap (λ (b : List ℕ). (take at list ++ word ∷ []) ++ (words ++ b)) back
    ∙ ap (λ (k : ℕ). (take at list ++ word ∷ []) ++ (words ++ drop k list)) place
    ∙ append_assoc (take at list) (word ∷ []) (words ++ drop (at + length (word ∷ words)) list)

-- no words
pub no_words : (list : List ℕ) (at : ℕ) → with_words list at [] ≡ list
no_words list at = ap (λ (k : ℕ). take at list ++ drop k list) (omega arith) ∙ take-append-drop at list

behind : (list front rest : List ℕ) (at more : ℕ) → length front ≡ at → rest ≡ drop at list → drop (at + more) (front ++ rest) ≡ drop (at + more) list
behind list front rest at more len is =
    sym (drop-drop more at (front ++ rest)) ∙ ap (drop more) (drop_at front rest at len ∙ is) ∙ drop-drop more at list

-- words, and others behind them
pub words_first : (list : List ℕ) (at end : ℕ) (xs ys : List ℕ) → at + length xs ≡ end → at ≤ length list → with_words (with_words list at xs) end ys ≡ with_words list at (xs ++ ys)
words_first list at end xs ys is within =
    let front : List ℕ = take at list ++ xs in
    let rest : List ℕ = drop (at + length xs) list in
    let len : length front ≡ end = omega (arith, length-append (take at list) xs, length-take-le at list within) in
    let split : with_words list at xs ≡ front ++ rest = sym (append_assoc (take at list) xs rest) in
    let place : end + length ys ≡ at + length (xs ++ ys) = omega (arith, length-append xs ys) in
    ap (λ (l : List ℕ). with_words l end ys) split
    ∙ ap (λ (f : List ℕ). f ++ (ys ++ drop (end + length ys) (front ++ rest))) (take_at front rest end len)
    ∙ ap (λ (b : List ℕ). front ++ (ys ++ b)) (behind list front rest end (length ys) len (ap (λ (k : ℕ). drop k list) is))
    ∙ append_assoc (take at list) xs (ys ++ drop (end + length ys) list)
    ∙ ap (λ (b : List ℕ). take at list ++ b) (sym (append_assoc xs ys (drop (end + length ys) list)))
    ∙ ap (λ (k : ℕ). take at list ++ ((xs ++ ys) ++ drop k list)) place

-- one word alone
pub one_word : (list : List ℕ) (at word : ℕ) → at < length list → set list at word ≡ with_words list at (word ∷ [])
one_word list at word within = sym (no_words (set list at word) (at + 1)) ∙ word_first list at word [] within

-- the two words in front, written behind the others
pub front_last : (list words : List ℕ) (head stamp : ℕ) → 2 ≤ length list → set (set (with_words list 2 words) 0 head) 1 stamp ≡ with_words (set (set list 0 head) 1 stamp) 2 words
front_last [] words head stamp two = absurd omega arith
front_last (a ∷ []) words head stamp two = absurd omega arith
front_last (a ∷ b ∷ list) words head stamp two =
    ap (λ (back : List ℕ). head ∷ stamp ∷ (words ++ back)) (sym (drop-drop (length words) 2 (a ∷ b ∷ list)) ∙ drop-drop (length words) 2 (head ∷ stamp ∷ list))
