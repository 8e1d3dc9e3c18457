-- Bytes before the first place of others, passed one by one.
use Rattle.std.proofs.Common.{◌≡◌, ℕ, ◌+◌, ◌<◌, ◌≤◌, Bool, true, false, not, List, [], ◌∷◌, ◌++◌, length, take, drop, get_or, sym, ap, ◌∙◌, append_assoc, nat_eq, if◌then◌else◌}
use Rattle.std.specs.List.{starts_with, position_or_len}
use Rattle.std.proofs.lemmas.List.{take_more, drop_more, drop_all, take_all, append-nil}
use Rattle.std.proofs.lemmas.List.Sums.{prefix_len_is}
use Rattle.source_scan.specs.Items.{before_text, is_quote}

before-stop : (others : List ℕ) (byte : ℕ) (bytes : List ℕ) → starts_with nat_eq (byte ∷ bytes) others ≡ true → before_text others (byte ∷ bytes) ≡ []
unfolding before_text
before-stop others byte bytes here = ap (λ (b : Bool). if b then [] else byte ∷ before_text others bytes) here

before-go : (others : List ℕ) (byte : ℕ) (bytes : List ℕ) → starts_with nat_eq (byte ∷ bytes) others ≡ false → before_text others (byte ∷ bytes) ≡ byte ∷ before_text others bytes
unfolding before_text
before-go others byte bytes here = ap (λ (b : Bool). if b then [] else byte ∷ before_text others bytes) here

-- the others stand here
pub before-here : (others bytes : List ℕ) (i : ℕ) → i < length bytes → before_text others bytes ≡ take i bytes ++ before_text others (drop i bytes) → starts_with nat_eq (drop i bytes) others ≡ true → take i bytes ≡ before_text others bytes
before-here others bytes i within goes here =
    let front : drop i bytes ≡ get_or bytes i 0 ∷ drop (i + 1) bytes = drop_more bytes i 0 within in
    let stands = ap (λ (rest : List ℕ). starts_with nat_eq rest others) (sym front) ∙ here in
    sym (goes ∙ ap (λ (rest : List ℕ). take i bytes ++ before_text others rest) front ∙ ap (λ (more : List ℕ). take i bytes ++ more) (before-stop others (get_or bytes i 0) (drop (i + 1) bytes) stands) ∙ append-nil (take i bytes))

-- they don't stand here
pub before-more : (others bytes : List ℕ) (i : ℕ) → i < length bytes → before_text others bytes ≡ take i bytes ++ before_text others (drop i bytes) → starts_with nat_eq (drop i bytes) others ≡ false
    → before_text others bytes ≡ take (i + 1) bytes ++ before_text others (drop (i + 1) bytes)
before-more others bytes i within goes here =
    let front : drop i bytes ≡ get_or bytes i 0 ∷ drop (i + 1) bytes = drop_more bytes i 0 within in
    let stands = ap (λ (rest : List ℕ). starts_with nat_eq rest others) (sym front) ∙ here in
    let later : List ℕ = before_text others (drop (i + 1) bytes) in
    goes ∙ ap (λ (rest : List ℕ). take i bytes ++ before_text others rest) front ∙ ap (λ (more : List ℕ). take i bytes ++ more) (before-go others (get_or bytes i 0) (drop (i + 1) bytes) stands)
    ∙ sym (append_assoc (take i bytes) (get_or bytes i 0 ∷ []) later) ∙ ap (λ (more : List ℕ). more ++ later) (sym (take_more bytes i 0 within))

-- all bytes were passed
pub before-all : (others bytes : List ℕ) (i : ℕ) → length bytes ≤ i → before_text others bytes ≡ take i bytes ++ before_text others (drop i bytes) → bytes ≡ before_text others bytes
unfolding before_text
before-all others bytes i past goes = sym (goes ∙ ap (λ (more : List ℕ). take i bytes ++ before_text others more) (drop_all i bytes past) ∙ append-nil (take i bytes) ∙ take_all i bytes past)

-- the first quotation mark stands here, or there is none
pub quote-place : (bytes : List ℕ) (i : ℕ) → i ≤ length bytes → ((k : ℕ) → k < i → is_quote (get_or bytes k 0) ≡ false) → (i < length bytes → is_quote (get_or bytes i 0) ≡ true) → position_or_len is_quote bytes ≡ i
quote-place bytes i within none here = prefix_len_is (λ byte. not (is_quote byte)) bytes i 0 within (λ k below. ap not (none k below)) (λ below. ap not (here below))
