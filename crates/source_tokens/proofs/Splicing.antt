-- Splices at the front of bytes.
use Rattle.std.proofs.Common.{◌≡◌, ℕ, ◌≤◌, Bool, true, false, ◌&&◌, List, [], ◌∷◌, length, drop, refl, arith, ◌==◌, if◌then◌else◌}
use Rattle.std.proofs.lemmas.Grind.{common_steps}
use Rattle.source_tokens.specs.Splices.{splice_length, past_splices}

-- one splice may be passed before the others
pub past-step : (bytes : List ℕ) → past_splices (drop (splice_length bytes) bytes) ≡ past_splices bytes
unfolding past_splices
past-step [] = refl
past-step (first ∷ []) = refl
past-step (first ∷ second ∷ []) =
    let bytes : List ℕ = first ∷ second ∷ [] in
    let is-lf : Bool = first == 92 && second == 10 in
    (elim is-lf as (λ b. is-lf ≡ b → past_splices (drop (if b then 2 else 0) bytes) ≡ (if b then [] else bytes)) [ true ↦ λ e. refl | false ↦ λ e. rw e refl ]) refl
past-step (first ∷ second ∷ third ∷ rest) =
    let bytes : List ℕ = first ∷ second ∷ third ∷ rest in
    let is-lf : Bool = first == 92 && second == 10 in
    let is-crlf : Bool = first == 92 && second == 13 && third == 10 in
    (elim is-lf as (λ b. is-lf ≡ b → past_splices (drop (if b then 2 else (if is-crlf then 3 else 0)) bytes) ≡ (if b then past_splices (third ∷ rest) else (if is-crlf then past_splices rest else bytes))) [
      | true ↦ λ e. refl
      | false ↦ λ e. (elim is-crlf as (λ b. is-crlf ≡ b → past_splices (drop (if b then 3 else 0) bytes) ≡ (if b then past_splices rest else bytes)) [ true ↦ λ d. refl | false ↦ λ d. rw (e, d) refl ]) refl
    ]) refl

-- where no splice stands none is passed
pub past-none : (bytes : List ℕ) → splice_length bytes ≡ 0 → past_splices bytes ≡ bytes
unfolding past_splices
past-none [] none = refl
past-none (first ∷ []) none = refl
past-none (first ∷ second ∷ []) none = grind (arith, common_steps)
past-none (first ∷ second ∷ third ∷ rest) none = grind (arith, common_steps)

pub length-past : (bytes : List ℕ) → length (past_splices bytes) ≤ length bytes
unfolding past_splices
length-past [] = omega arith
length-past (first ∷ []) = omega arith
length-past (first ∷ second ∷ []) = grind (arith, common_steps)
length-past (first ∷ second ∷ third ∷ rest) = grind (arith, common_steps, length-past (third ∷ rest), length-past rest)
