-- Tokens of worked sources, in which no backslash stands.
use Rattle.std.proofs.Common.{◌≡◌, ℕ, zero, suc, ◌+◌, ◌<◌, ◌≤◌, Bool, true, false, not, ◌&&◌, ◌==◌, List, [], ◌∷◌, ◌++◌, length, take, get_or, refl, sym, subst, ap, ◌∙◌, inr, arith, eq-eqb}
use Rattle.std.specs.List.{list_all}
use Rattle.std.proofs.lemmas.Bool.{and_parts, false≢true}
use Rattle.source_tokens.specs.declared.token.Token.{Token}
use Rattle.source_tokens.specs.Splices.{past_splices}
use Rattle.source_tokens.specs.Forms.{opening_of, is_tail, token_kind}
use Rattle.source_tokens.specs.Reading.{ReadsUnspliced}
use Rattle.source_tokens.specs.RawStrings.{is_prefix_byte}
use Rattle.source_tokens.specs.Tokens.{IsToken, Follow}
use Rattle.source_tokens.proofs.lemmas.Prefixes.{prefix-letter}
use Rattle.source_tokens.proofs.lemmas.Texts.{Stops, longest-stops, reads-nothing, reads-first}

-- no byte is a backslash
abbrev pub are_plain : List ℕ → Bool
are_plain bytes = list_all (λ byte. not (byte == 92)) bytes

other_front : (a b : Bool) → not a ≡ true → (a && b) ≡ false
other_front true b e = absurd (false≢true e)
other_front false b e = refl

-- then no splice stands at the front
pub plain_front : (bytes : List ℕ) → are_plain bytes ≡ true → past_splices bytes ≡ bytes
unfolding past_splices
plain_front [] plain = refl
plain_front (first ∷ []) plain = refl
plain_front (first ∷ second ∷ []) plain = rw (other_front (first == 92) (second == 10) (and_parts (not (first == 92)) _ plain).0) refl
plain_front (first ∷ second ∷ third ∷ rest) plain =
    let front = (and_parts (not (first == 92)) _ plain).0 in
    rw (other_front (first == 92) (second == 10) front, other_front (first == 92) (second == 13) front) refl

-- and each front of the bytes is read as it stands there
pub reads_plain : (text rest : List ℕ) → are_plain (text ++ rest) ≡ true → ReadsUnspliced (text ++ rest) text rest
unfolding ReadsUnspliced
reads_plain [] rest plain = refl
reads_plain (first ∷ text) rest plain =
    let later = (and_parts (not (first == 92)) (are_plain (text ++ rest)) plain).1 in
    (refl, subst (λ (bytes : List ℕ). ReadsUnspliced bytes text rest) (sym (plain_front (text ++ rest) later)) (reads_plain text rest later))

-- what begins with this byte goes on with these, and no further
token_here : (total first : ℕ) (tail rest : List ℕ) (token : Token) → are_plain (tail ++ rest) ≡ true → is_prefix_byte first ≡ false → is_tail (opening_of first (tail ++ rest)) first tail ≡ true
    → Stops (is_tail (opening_of first (tail ++ rest)) first) tail rest → token.kind ≡ token_kind (opening_of first (tail ++ rest)) (first ∷ tail) → token.start + length (first ∷ tail ++ rest) ≡ total → token.end + length rest ≡ total
    → IsToken total (first ∷ tail ++ rest) token rest
token_here total first tail rest token plain no_prefix of_form stops kind start end =
    let same = plain_front (tail ++ rest) plain in
    let form = is_tail (opening_of first (tail ++ rest)) first in
    record {
      stands = inr (record {
        first = first;
        behind = tail ++ rest;
        bytes_are = refl;
        goes_on = rw same (tail, longest-stops form (tail ++ rest) tail rest (reads_plain tail rest plain) of_form stops, kind);
        not_raw = λ raw begins. false≢true (sym no_prefix ∙ prefix-letter (first ∷ tail ++ rest) begins.prefix (34 ∷ raw) begins.is_prefix begins.reads);
      });
      start = start;
      end = end;
    }

-- the same where another byte follows
pub token_before : (total first : ℕ) (tail : List ℕ) (next : ℕ) (behind : List ℕ) (token : Token) → are_plain (tail ++ next ∷ behind) ≡ true → is_prefix_byte first ≡ false → is_tail (opening_of first (tail ++ next ∷ behind)) first tail ≡ true
    → ((more : List ℕ) → is_tail (opening_of first (tail ++ next ∷ behind)) first (tail ++ next ∷ more) ≡ false) → token.kind ≡ token_kind (opening_of first (tail ++ next ∷ behind)) (first ∷ tail)
    → token.start + length (first ∷ tail ++ next ∷ behind) ≡ total → token.end + length (next ∷ behind) ≡ total → IsToken total (first ∷ tail ++ next ∷ behind) token (next ∷ behind)
token_before total first tail next behind token plain no_prefix of_form over kind start end =
    let form = is_tail (opening_of first (tail ++ next ∷ behind)) first in
    token_here total first tail (next ∷ behind) token plain no_prefix of_form
    (λ byte more later reads ok. false≢true (sym (over more) ∙ ap (λ (one : ℕ). form (tail ++ one ∷ more)) (reads-first next behind byte more later reads).0 ∙ ok)) kind start end

-- and where none does
pub token_last : (total first : ℕ) (tail : List ℕ) (token : Token) → are_plain (tail ++ []) ≡ true → is_prefix_byte first ≡ false → is_tail (opening_of first (tail ++ [])) first tail ≡ true → token.kind ≡ token_kind (opening_of first (tail ++ [])) (first ∷ tail)
    → token.start + length (first ∷ tail ++ []) ≡ total → token.end + 0 ≡ total → IsToken total (first ∷ tail ++ []) token []
token_last total first tail token plain no_prefix of_form kind start end = token_here total first tail [] token plain no_prefix of_form (λ byte more later reads ok. reads-nothing byte more later reads) kind start end

-- ---- lists

pub follow_none : (total : ℕ) → Follow total [] [] []
unfolding Follow
follow_none total = refl

pub follow_token : (total : ℕ) (bytes rest : List ℕ) (token : Token) (tokens : List Token) → IsToken total bytes token rest → Follow total rest tokens [] → Follow total bytes (token ∷ tokens) []
unfolding Follow
follow_token total bytes rest token tokens is later = (rest, is, later)

-- a byte that isn't among the first is at none of their places
pub absent : (bytes : List ℕ) (n k byte : ℕ) → list_all (λ other. not (other == byte)) (take n bytes) ≡ true → k < n → n ≤ length bytes → get_or bytes k 0 ≡ byte → ⊥
absent [] n k byte none before within same = omega (arith, before, within)
absent (first ∷ bytes) zero k byte none before within same = omega (arith, before)
absent (first ∷ bytes) (suc n) zero byte none before within same =
    false≢true (ap not (sym (eq-eqb first byte same)) ∙ (and_parts (not (first == byte)) (list_all (λ other. not (other == byte)) (take n bytes)) none).0)
absent (first ∷ bytes) (suc n) (suc k) byte none before within same =
    absent bytes n k byte (and_parts (not (first == byte)) (list_all (λ other. not (other == byte)) (take n bytes)) none).1 (omega (arith, before)) (omega (arith, within)) same
