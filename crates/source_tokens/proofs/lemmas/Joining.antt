-- A source is the join of its tokens, and of its parts.
use Rattle.std.proofs.Common.{◌≡◌, ℕ, zero, suc, ◌+◌, ◌<◌, ◌≤◌, Bool, true, false, if◌then◌else◌, List, [], ◌∷◌, ◌++◌, length, drop, Option, Some, None, refl, sym, subst, ap, inl, inr, arith, append_assoc}
use Rattle.std.specs.List.{flat_map}
use Rattle.std.proofs.lemmas.List.{length-drop}
use Rattle.source_tokens.specs.declared.kind.TokenKind.{TokenKind}
use Rattle.source_tokens.specs.declared.token.Token.{Token}
use Rattle.source_tokens.specs.Splices.{past_splices}
use Rattle.source_tokens.specs.RawStrings.{EndsAt, past_delimiter, delimiter_of, closing_of}
use Rattle.source_tokens.specs.Tokens.{Tokens, Stands, Follow, past_front, front_tokens}
use Rattle.source_tokens.specs.Directives.{TokenLine, Parts, of_line, is_blank, is_hash, directive_of, last_end, line_tokens, line_parts}
use Rattle.source_tokens.specs.Joins.{JoinsFrom}
use Rattle.source_tokens.proofs.Splicing.{length-past}
use Rattle.source_tokens.proofs.lemmas.Texts.{reads-length}

-- ---- joins

join-append : (start middle end : ℕ) (front back : List Token) → JoinsFrom start front middle → JoinsFrom middle back end → JoinsFrom start (front ++ back) end
unfolding JoinsFrom
join-append start middle end [] back same later = subst (λ (n : ℕ). JoinsFrom n back end) (sym same) later
join-append start middle end (part ∷ front) back joins later = (joins.0, joins.1, join-append part.end middle end front back joins.2 later)

join-split : (start end : ℕ) (front back : List Token) → JoinsFrom start (front ++ back) end → (middle : ℕ) × JoinsFrom start front middle × JoinsFrom middle back end
unfolding JoinsFrom
join-split start end [] back joins = (start, refl, joins)
join-split start end (part ∷ front) back joins =
    let later = join-split part.end end front back joins.2 in
    (later.0, (joins.0, joins.1, later.1), later.2)

-- ---- tokens

past-raw : (raw rest : List ℕ) (place : Option ℕ) (kind : TokenKind) → EndsAt raw place kind rest → length rest ≤ length raw
past-raw raw rest None kind ends = omega (arith, ap length ends.1)
past-raw raw rest (Some at) kind ends =
    let marked : List ℕ = drop 1 (past_delimiter raw) in
    let count : ℕ = at + length (closing_of raw) in
    omega (arith, ap length ends.1, length-past (drop count marked), length-drop count marked, length-drop 1 (past_delimiter raw), length-drop (length (delimiter_of raw)) raw)

-- what stands there is not empty
stands-shorter : (bytes rest : List ℕ) (kind : TokenKind) → Stands bytes kind rest → length rest < length bytes
stands-shorter bytes rest kind (inl raw) = omega (arith, reads-length bytes raw.begins.prefix (34 ∷ raw.raw) raw.begins.reads, past-raw raw.raw rest raw.ends.place kind raw.ends.ends)
stands-shorter bytes rest kind (inr plain) =
    omega (arith, ap length plain.bytes_are, length-past plain.behind, reads-length (past_splices plain.behind) plain.goes_on.0 rest plain.goes_on.1.reads)

follow-join : (total start : ℕ) (bytes : List ℕ) (tokens : List Token) → start + length bytes ≡ total → Follow total bytes tokens [] → JoinsFrom start tokens total
unfolding Follow JoinsFrom
follow-join total start bytes [] place follow = omega (arith, place, ap length follow)
follow-join total start bytes (token ∷ tokens) place follow =
    let shorter = stands-shorter bytes follow.0 token.kind follow.1.stands in
    (omega (arith, place, follow.1.start), omega (arith, place, follow.1.end, shorter), follow-join total token.end follow.0 tokens follow.1.end follow.2)

front-join : (front : ℕ) → JoinsFrom 0 (front_tokens front) front
unfolding JoinsFrom
front-join zero = refl
front-join (suc front) = (refl, omega arith, refl)

pub tokens-join : (source : List ℕ) (tokens : List Token) → Tokens source tokens → JoinsFrom 0 tokens (length source)
tokens-join source tokens are =
    let total : ℕ = length source in
    let later : JoinsFrom are.front are.others total = follow-join total are.front (past_front source) are.others are.front_is are.follow in
    subst (λ (list : List Token). JoinsFrom 0 list total) (sym are.tokens_are) (join-append 0 are.front total (front_tokens are.front) are.others (front-join are.front) later)

-- ---- directives

-- tokens end where the last one does
last-join : (start end : ℕ) (tokens : List Token) → JoinsFrom start tokens end → (last_end start tokens ≡ end) × (start ≤ end)
unfolding JoinsFrom
last-join start end [] joins = (joins, omega (arith, joins))
last-join start end (token ∷ tokens) joins =
    let later = last-join token.end end tokens joins.2 in
    (later.0, omega (arith, later.1, joins.1))

-- a line with its directive, by whether its first token is blank and whether it is `#`
line-front : (blank hash : Bool) (token : Token) (tokens rest : List Token) (start end : ℕ) → JoinsFrom start (token ∷ tokens) end → JoinsFrom token.end rest end
    → JoinsFrom start (if blank then token ∷ rest else (if hash then directive_of token tokens ∷ [] else token ∷ tokens)) end
unfolding JoinsFrom
line-front true hash token tokens rest start end joins later = (joins.0, joins.1, later)
line-front false true token tokens rest start end joins later =
    let last = last-join token.end end tokens joins.2 in
    (joins.0, omega (arith, joins.1, last.0, last.1), last.0)
line-front false false token tokens rest start end joins later = joins

line-join : (start end : ℕ) (tokens : List Token) → JoinsFrom start tokens end → JoinsFrom start (of_line tokens) end
unfolding JoinsFrom
line-join start end [] joins = joins
line-join start end (token ∷ tokens) joins = line-front (is_blank token.kind) (is_hash token.kind) token tokens (of_line tokens) start end joins (line-join token.end end tokens joins.2)

lines-join : (start end : ℕ) (lines : List TokenLine) (last : List Token) → JoinsFrom start (flat_map line_tokens lines ++ last) end → JoinsFrom start (flat_map line_parts lines ++ of_line last) end
lines-join start end [] last joins = line-join start end last joins
lines-join start end (line ∷ lines) last joins =
    let behind : List Token = flat_map line_tokens lines ++ last in
    let parts : List Token = flat_map line_parts lines ++ of_line last in
    let front = join-split start end (line_tokens line) behind (subst (λ (list : List Token). JoinsFrom start list end) (append_assoc (line_tokens line) (flat_map line_tokens lines) last) joins) in
    let inside = join-split start front.0 line.tokens (line.ending ∷ []) front.1 in
    let one : JoinsFrom start (line_parts line) front.0 = join-append start inside.0 front.0 (of_line line.tokens) (line.ending ∷ []) (line-join start inside.0 line.tokens inside.1) inside.2 in
    subst (λ (list : List Token). JoinsFrom start list end) (sym (append_assoc (line_parts line) (flat_map line_parts lines) (of_line last)))
    (join-append start front.0 end (line_parts line) parts one (lines-join front.0 end lines last front.2))

pub parts-join : (source : List ℕ) (parts : List Token) → Parts source parts → JoinsFrom 0 parts (length source)
parts-join source parts are =
    let total : ℕ = length source in
    let tokens = subst (λ (list : List Token). JoinsFrom 0 list total) are.in_lines.tokens_are (tokens-join source are.tokens are.tokens_are) in
    subst (λ (list : List Token). JoinsFrom 0 list total) (sym are.in_lines.parts_are) (lines-join 0 total are.in_lines.lines are.in_lines.last tokens)
