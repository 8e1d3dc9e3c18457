-- The statements among tokens, found one by one.
use Rattle.std.proofs.Common.{◌≡◌, ℕ, zero, suc, ◌<◌, ◌≤◌, Bool, true, false, List, [], ◌∷◌, ◌++◌, length, drop, get_or, Option, refl, sym, subst, ap, ◌∙◌, append_assoc}
use Rattle.std.specs.Prelude.{MatchBool}
use Rattle.std.proofs.lemmas.List.{append-nil}
use Rattle.source_tokens.specs.declared.token.Token.{Token}
use Rattle.source_scan.specs.declared.found.Found.{Found}
use Rattle.source_scan.specs.Arguments.{closing_from}
use Rattle.source_scan.specs.Positions.{line_number_at}
use Rattle.source_scan.specs.Statements.{SourceText, in_force, begins, IsFoundIn, IsFoundAt, own_tokens, own_length, Finds}
use Rattle.source_scan.proofs.Fronts.{behind, front_and_behind, nothing}

-- the statements of the first tokens, however those of the others go on
abbrev pub FindsTo : SourceText → List Token → List Found → List Token → Type 0
FindsTo source tokens found rest = (more : List Found) → Finds source 0 rest more → Finds source 0 tokens (found ++ more)

-- the tokens of a statement are passed
own-passed : (source : SourceText) (own : ℕ) (tokens : List Token) (found : List Found) → Finds source 0 (drop own tokens) found → Finds source own tokens found
unfolding Finds
own-passed source zero tokens found later = later
own-passed source (suc own) [] found later = later
own-passed source (suc own) (token ∷ tokens) found later = own-passed source own tokens found later

behind-passed : (source : SourceText) (own : ℕ) (tokens : List Token) (found : List Found) → Finds source 0 (drop own (drop 1 tokens)) found → Finds source (suc own) tokens found
unfolding Finds
behind-passed source zero [] found later = later
behind-passed source (suc own) [] found later = later
behind-passed source own (token ∷ tokens) found later = own-passed source own tokens found later

pub other-front : (source : SourceText) (token : Token) (tokens : List Token) (found : List Found) → begins source.bytes token tokens ≡ false → Finds source 0 tokens found → Finds source 0 (token ∷ tokens) found
unfolding Finds
other-front source token tokens found none later =
    subst (λ (b : Bool). MatchBool b ((one : Found) × (others : List Found) × (found ≡ one ∷ others) × IsFoundAt source token (drop 1 tokens) (closing_from 0 (drop 1 tokens)) one × Finds source (own_length tokens) tokens others) (Finds source 0 tokens found)) (sym none) later

pub found-front : (source : SourceText) (token : Token) (tokens : List Token) (one : Found) (found : List Found) → begins source.bytes token tokens ≡ true → IsFoundAt source token (drop 1 tokens) (closing_from 0 (drop 1 tokens)) one
    → Finds source (own_length tokens) tokens found → Finds source 0 (token ∷ tokens) (one ∷ found)
unfolding Finds
found-front source token tokens one found is at later =
    subst (λ (b : Bool). MatchBool b ((first : Found) × (others : List Found) × (one ∷ found ≡ first ∷ others) × IsFoundAt source token (drop 1 tokens) (closing_from 0 (drop 1 tokens)) first × Finds source (own_length tokens) tokens others) (Finds source 0 tokens (one ∷ found))) (sym is)
    (one, found, refl, at, later)

-- no statement begins with the next token
pub finds-other : (source : SourceText) (tokens rest : List Token) (found : List Found) (d : Token) → 1 ≤ length rest → FindsTo source tokens found rest → begins source.bytes (get_or rest 0 d) (behind rest) ≡ false → FindsTo source tokens found (behind rest)
finds-other source tokens rest found d some goes none more later =
    goes more (subst (λ (list : List Token). Finds source 0 list more) (sym (front_and_behind rest d some)) (other-front source (get_or rest 0 d) (behind rest) more none later))

-- a statement begins with the next token
finds-one : (source : SourceText) (tokens rest : List Token) (found : List Found) (d : Token) (one : Found) → 1 ≤ length rest → FindsTo source tokens found rest → begins source.bytes (get_or rest 0 d) (behind rest) ≡ true
    → IsFoundAt source (get_or rest 0 d) (drop 1 (behind rest)) (closing_from 0 (drop 1 (behind rest))) one
    → FindsTo source tokens (found ++ one ∷ []) (drop (own_tokens (drop 1 (behind rest)) (closing_from 0 (drop 1 (behind rest)))) (drop 1 (behind rest)))
finds-one source tokens rest found d one some goes is at more later =
    let own = own_tokens (drop 1 (behind rest)) (closing_from 0 (drop 1 (behind rest))) in
    subst (Finds source 0 tokens) (sym (append_assoc found (one ∷ []) more))
    (goes (one ∷ more) (subst (λ (list : List Token). Finds source 0 list (one ∷ more)) (sym (front_and_behind rest d some)) (found-front source (get_or rest 0 d) (behind rest) one more is at (behind-passed source own (behind rest) more later))))

-- no token follows
pub finds-all : (source : SourceText) (tokens rest : List Token) (found : List Found) → length rest < 1 → FindsTo source tokens found rest → Finds source 0 tokens found
unfolding Finds
finds-all source tokens rest found none goes =
    subst (Finds source 0 tokens) (append-nil found) (goes [] (subst (λ (list : List Token). Finds source 0 list []) (sym (nothing rest none)) refl))

-- what stands there, where the name and the line are in force
pub found-in : (source : SourceText) (name : List ℕ) (line : ℕ) (token : Token) (inside : List Token) (closing : Option ℕ) (one : Found) → (in_force source token).name ≡ name → line_number_at source.bytes (in_force source token) token.start ≡ line
    → IsFoundIn source.bytes name line token inside closing one → IsFoundAt source token inside closing one
found-in source name line token inside closing one named numbered at =
    subst (λ (n : List ℕ). IsFoundIn source.bytes n (line_number_at source.bytes (in_force source token) token.start) token inside closing one) (sym named) (subst (λ (n : ℕ). IsFoundIn source.bytes name n token inside closing one) (sym numbered) at)

-- the same as code finds it
pub finds-next : (source : SourceText) (tokens rest : List Token) (found : List Found) (d : Token) (one : Found) (name : List ℕ) (line : ℕ) (inside after : List Token) (closing : Option ℕ) (own : ℕ) → 1 ≤ length rest → FindsTo source tokens found rest
    → begins source.bytes (get_or rest 0 d) (behind rest) ≡ true → inside ≡ drop 1 (behind rest) → closing ≡ closing_from 0 inside → (in_force source (get_or rest 0 d)).name ≡ name → line_number_at source.bytes (in_force source (get_or rest 0 d)) (get_or rest 0 d).start ≡ line → IsFoundIn source.bytes name line (get_or rest 0 d) inside closing one → own ≡ own_tokens inside closing → after ≡ drop own inside
    → FindsTo source tokens (found ++ one ∷ []) after
finds-next source tokens rest found d one name line inside after closing own some goes is inside_is closing_is named numbered at_here own_is after_is =
    let at : IsFoundAt source (get_or rest 0 d) inside closing one = found-in source name line (get_or rest 0 d) inside closing one named numbered at_here in
    let later : List Token = drop 1 (behind rest) in
    let closing_later : closing ≡ closing_from 0 later = closing_is ∙ ap (closing_from 0) inside_is in
    let at_later : IsFoundAt source (get_or rest 0 d) later (closing_from 0 later) one =
    subst (λ (list : List Token). IsFoundAt source (get_or rest 0 d) list (closing_from 0 later) one) inside_is (subst (λ (place : Option ℕ). IsFoundAt source (get_or rest 0 d) inside place one) closing_later at)
    in
    let after_later : after ≡ drop (own_tokens later (closing_from 0 later)) later =
    after_is ∙ ap (λ (n : ℕ). drop n inside) (own_is ∙ ap (own_tokens inside) closing_later) ∙ ap (λ (list : List Token). drop (own_tokens list (closing_from 0 later)) list) inside_is
    in
    subst (FindsTo source tokens (found ++ one ∷ [])) (sym after_later) (finds-one source tokens rest found d one some goes is at_later)
