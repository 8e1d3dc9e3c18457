-- Bytes without splices, taken one by one.
use Rattle.std.proofs.Common.{◌≡◌, ◌↔◌, ℕ, ◌+◌, ◌<◌, ◌≤◌, Bool, true, false, ◌&&◌, List, [], ◌∷◌, ◌++◌, length, drop, get_or, refl, sym, ap, ◌∙◌, append_assoc, ◌==◌, if◌then◌else◌}
use Rattle.std.proofs.lemmas.List.{drop_more}
use Rattle.printf_grammar.proofs.lemmas.Shortening.{cons_parts}
use Rattle.source_tokens.proofs.lemmas.Passing.{back_of, first_and_back}
use Rattle.source_tokens.specs.Splices.{past_splices}
use Rattle.source_scan.specs.Texts.{unspliced}

-- the same where no splice stands at the front
abbrev pub from_front : List ℕ → List ℕ
from_front [] = []
from_front (byte ∷ behind) = byte ∷ unspliced behind

pub unspliced-past : (bytes : List ℕ) → unspliced bytes ≡ from_front (past_splices bytes)
unfolding past_splices unspliced
unspliced-past [] = refl
unspliced-past (first ∷ []) = refl
unspliced-past (first ∷ second ∷ []) =
    let is-lf : Bool = first == 92 && second == 10 in
    (elim is-lf as (λ b. (if b then [] else first ∷ unspliced (second ∷ [])) ≡ from_front (if b then [] else first ∷ second ∷ [])) [ true ↦ refl | false ↦ refl ])
unspliced-past (first ∷ second ∷ third ∷ rest) =
    let is-lf : Bool = first == 92 && second == 10 in
    let is-crlf : Bool = first == 92 && second == 13 && third == 10 in
    let bytes : List ℕ = first ∷ second ∷ third ∷ rest in
    (elim is-lf as (λ b. (if b then unspliced (third ∷ rest) else (if is-crlf then unspliced rest else first ∷ unspliced (second ∷ third ∷ rest))) ≡ from_front (if b then past_splices (third ∷ rest) else (if is-crlf then past_splices rest else bytes))) [
      | true ↦ unspliced-past (third ∷ rest)
      | false ↦ (elim is-crlf as (λ b. (if b then unspliced rest else first ∷ unspliced (second ∷ third ∷ rest)) ≡ from_front (if b then past_splices rest else bytes)) [ true ↦ unspliced-past rest | false ↦ refl ])
    ])

-- one byte more was taken
pub taken-more : (items bytes rest : List ℕ) → 1 ≤ length rest → items ++ from_front rest ≡ unspliced bytes → (items ++ get_or rest 0 0 ∷ []) ++ from_front (past_splices (back_of rest)) ≡ unspliced bytes
taken-more items bytes rest some goes =
    let front : from_front rest ≡ get_or rest 0 0 ∷ unspliced (back_of rest) = ap from_front (first_and_back rest some) in
    append_assoc items (get_or rest 0 0 ∷ []) (from_front (past_splices (back_of rest)))
    ∙ ap (λ (more : List ℕ). items ++ get_or rest 0 0 ∷ more) (sym (unspliced-past (back_of rest)))
    ∙ ap (λ (more : List ℕ). items ++ more) (sym front)
    ∙ goes

-- one letter more is the same
pub same-more : (bytes text rest : List ℕ) (i : ℕ) → i < length text → 1 ≤ length rest → get_or rest 0 0 ≡ get_or text i 0
    → (unspliced bytes ≡ text) ↔ (from_front rest ≡ drop i text) → (unspliced bytes ≡ text) ↔ (from_front (past_splices (back_of rest)) ≡ drop (i + 1) text)
same-more bytes text rest i within some same goes =
    let front : from_front rest ≡ get_or rest 0 0 ∷ unspliced (back_of rest) = ap from_front (first_and_back rest some) in
    let behind : unspliced (back_of rest) ≡ from_front (past_splices (back_of rest)) = unspliced-past (back_of rest) in
    let letters : drop i text ≡ get_or text i 0 ∷ drop (i + 1) text = drop_more text i 0 within in (
      λ whole. sym behind ∙ (cons_parts (get_or rest 0 0) (get_or text i 0) (unspliced (back_of rest)) (drop (i + 1) text) (sym front ∙ goes.0 whole ∙ letters)).1,
      λ later. goes.1 (front ∙ ap (λ (more : List ℕ). get_or rest 0 0 ∷ more) (behind ∙ later) ∙ ap (λ (byte : ℕ). byte ∷ drop (i + 1) text) same ∙ sym letters),
    )
