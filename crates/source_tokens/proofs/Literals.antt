-- String literals and character constants that are passed byte by byte.
use Rattle.std.proofs.Common.{◌≡◌, ◌≢◌, ℕ, ◌<◌, ◌≤◌, Bool, true, false, not, List, [], ◌∷◌, ◌++◌, length, get_or, refl, sym, ap, ◌∙◌, inl, inr, arith, eq-eqb, ne_eqb}
use Rattle.std.proofs.lemmas.Bool.{cases_lt, false≢true}
use Rattle.std.proofs.lemmas.List.{append-nil}
use Rattle.source_tokens.specs.Forms.{is_literal_body, has_mark}
use Rattle.source_tokens.specs.Splices.{past_splices}
use Rattle.source_tokens.specs.Reading.{IsLongest}
use Rattle.source_tokens.proofs.lemmas.Texts.{Stops}
use Rattle.source_tokens.proofs.lemmas.Passing.{Passes, back_of, passes-none, passes-front, passes-end, stops-nothing, stops-front}

-- whether a part of a literal goes on within it, and whether its mark stands there
abbrev pub states : ℕ → List ℕ → Bool × Bool
states mark body = (is_literal_body mark body, has_mark mark body)

-- whole bytes and pairs of a literal were passed, none of them its mark
abbrev pub Inside : ℕ → List ℕ → List ℕ → Type 0
Inside mark bytes rest = Passes {V = Bool × Bool} (states mark) (states mark) bytes rest

-- a literal ends where the rest begins, and `whole` says whether its mark ends it
abbrev pub EndsLiteral : ℕ → List ℕ → List ℕ → Bool → Type 0
EndsLiteral mark bytes rest whole = (body : List ℕ) × IsLongest (is_literal_body mark) bytes body rest × (whole ≡ has_mark mark body)

pub inside-none : (mark : ℕ) (bytes : List ℕ) → Inside mark bytes bytes
inside-none mark bytes = passes-none (states mark) bytes

both : {a b c d : Bool} → a ≡ c → b ≡ d → (let x : Bool × Bool = (a, b) in let y : Bool × Bool = (c, d) in x ≡ y)
both e f = cc

plain_body : (mark byte : ℕ) → byte ≢ 10 → byte ≢ mark → byte ≢ 92 → (more : List ℕ) → is_literal_body mark (byte ∷ more) ≡ is_literal_body mark more
unfolding is_literal_body
plain_body mark byte line ends slash [] = ap not (ne_eqb byte 10 line)
plain_body mark byte line ends slash (next ∷ more) = rw (ne_eqb byte 10 line, ne_eqb byte mark ends, ne_eqb byte 92 slash) refl

plain_mark : (mark byte : ℕ) → byte ≢ mark → byte ≢ 92 → (more : List ℕ) → has_mark mark (byte ∷ more) ≡ has_mark mark more
unfolding has_mark
plain_mark mark byte ends slash [] = ne_eqb byte mark ends
plain_mark mark byte ends slash (next ∷ more) = rw (ne_eqb byte mark ends, ne_eqb byte 92 slash) refl

pair_body : (mark byte next : ℕ) → byte ≡ 92 → mark ≢ 92 → next ≢ 10 → (more : List ℕ) → is_literal_body mark (byte ∷ next ∷ more) ≡ is_literal_body mark more
unfolding is_literal_body
pair_body mark byte next slash other line more =
    let no_line : byte ≢ 10 = λ e. absurd (omega arith) in
    let no_mark : byte ≢ mark = λ e. other (sym e ∙ slash) in
    rw (ne_eqb byte 10 no_line, ne_eqb byte mark no_mark, eq-eqb byte 92 slash, ne_eqb next 10 line) refl

pair_mark : (mark byte next : ℕ) → byte ≡ 92 → mark ≢ 92 → (more : List ℕ) → has_mark mark (byte ∷ next ∷ more) ≡ has_mark mark more
unfolding has_mark
pair_mark mark byte next slash other more =
    let no_mark : byte ≢ mark = λ e. other (sym e ∙ slash) in
    rw (ne_eqb byte mark no_mark, eq-eqb byte 92 slash) refl

pub inside-plain : (mark : ℕ) (bytes rest : List ℕ) → Inside mark bytes rest → 1 ≤ length rest → get_or rest 0 0 ≢ 10 → get_or rest 0 0 ≢ mark → get_or rest 0 0 ≢ 92 → Inside mark bytes (past_splices (back_of rest))
inside-plain mark bytes rest inside some line ends slash =
    passes-front (states mark) (states mark) (states mark) bytes rest inside some
    (λ more. both (plain_body mark (get_or rest 0 0) line ends slash more) (plain_mark mark (get_or rest 0 0) ends slash more))

-- what may follow behind a backslash
abbrev pub behind_slash : ℕ → List ℕ → Bool × Bool
behind_slash mark more = states mark (92 ∷ more)

slash-front : (mark : ℕ) (bytes rest : List ℕ) → Inside mark bytes rest → 1 ≤ length rest → get_or rest 0 0 ≡ 92 → Passes {V = Bool × Bool} (states mark) (behind_slash mark) bytes (past_splices (back_of rest))
slash-front mark bytes rest inside some slash = passes-front (states mark) (states mark) (behind_slash mark) bytes rest inside some (λ more. ap (λ byte. states mark (byte ∷ more)) slash)

pub inside-pair : (mark : ℕ) (bytes rest next : List ℕ) → next ≡ past_splices (back_of rest) → mark ≢ 92 → Inside mark bytes rest → 1 ≤ length rest → get_or rest 0 0 ≡ 92 → 1 ≤ length next → get_or next 0 0 ≢ 10
    → Inside mark bytes (past_splices (back_of next))
inside-pair mark bytes rest next next_is other inside some slash more line =
    let front : Passes {V = Bool × Bool} (states mark) (behind_slash mark) bytes next = rw next_is (slash-front mark bytes rest inside some slash) in
    passes-front (states mark) (behind_slash mark) (states mark) bytes next front more
    (λ later. both (pair_body mark 92 (get_or next 0 0) refl other line later) (pair_mark mark 92 (get_or next 0 0) refl other later))

-- a literal ends here, if nothing that follows goes on within it
literal-ends : (mark : ℕ) (left : List ℕ → Bool × Bool) (bytes rest : List ℕ) (whole : Bool) → Passes (states mark) left bytes rest → (left []).0 ≡ true → (left []).1 ≡ whole → Stops (λ more. (left more).0) [] rest → EndsLiteral mark bytes rest whole
literal-ends mark left bytes rest whole passes right ends stops =
    let body : Passes (is_literal_body mark) (λ more. (left more).0) bytes rest = record { text = passes.text; reads = passes.reads; goes = λ more. ap (λ (state : Bool × Bool). state.0) (passes.goes more) } in
    let marks : has_mark mark (passes.text ++ []) ≡ (left []).1 = ap (λ (state : Bool × Bool). state.1) (passes.goes []) in
    (passes.text, passes-end (is_literal_body mark) (λ more. (left more).0) bytes rest body right stops, sym ends ∙ sym marks ∙ ap (has_mark mark) (append-nil passes.text))

empty_body : (mark : ℕ) → is_literal_body mark [] ≡ true
unfolding is_literal_body
empty_body mark = refl

empty_mark : (mark : ℕ) → has_mark mark [] ≡ false
unfolding has_mark
empty_mark mark = refl

pub literal-at_end : (mark : ℕ) (bytes rest : List ℕ) → Inside mark bytes rest → length rest < 1 → EndsLiteral mark bytes rest false
literal-at_end mark bytes rest inside none = literal-ends mark (states mark) bytes rest false inside (empty_body mark) (empty_mark mark) (stops-nothing (is_literal_body mark) rest none)

-- no literal goes on with the end of a line
line_body : (mark byte : ℕ) → byte ≡ 10 → (more : List ℕ) → is_literal_body mark (byte ∷ more) ≡ false
unfolding is_literal_body
line_body mark byte line [] = ap not (eq-eqb byte 10 line)
line_body mark byte line (next ∷ more) = rw (eq-eqb byte 10 line) refl

pub literal-at_line : (mark : ℕ) (bytes rest : List ℕ) → Inside mark bytes rest → 1 ≤ length rest → get_or rest 0 0 ≡ 10 → EndsLiteral mark bytes rest false
literal-at_line mark bytes rest inside some line =
    literal-ends mark (states mark) bytes rest false inside (empty_body mark) (empty_mark mark)
    (stops-front (is_literal_body mark) rest some (λ more behind reads. line_body mark (get_or rest 0 0) line more))

-- nothing may follow behind the mark
nothing : List ℕ → Bool
nothing [] = true
nothing (byte ∷ more) = false

abbrev behind_mark : List ℕ → Bool × Bool
behind_mark more = (nothing more, true)

mark_body : (mark byte : ℕ) → byte ≡ mark → mark ≢ 10 → (more : List ℕ) → is_literal_body mark (byte ∷ more) ≡ nothing more
unfolding is_literal_body nothing
mark_body mark byte same line [] = ap not (ne_eqb byte 10 (λ e. line (sym same ∙ e)))
mark_body mark byte same line (next ∷ more) = rw (ne_eqb byte 10 (λ e. line (sym same ∙ e)), eq-eqb byte mark same) refl

mark_mark : (mark byte : ℕ) → byte ≡ mark → (more : List ℕ) → has_mark mark (byte ∷ more) ≡ true
unfolding has_mark
mark_mark mark byte same [] = eq-eqb byte mark same
mark_mark mark byte same (next ∷ more) = rw (eq-eqb byte mark same) refl

stops-behind : (rest : List ℕ) → Stops nothing [] rest
unfolding nothing
stops-behind rest byte more behind reads ok = false≢true ok

empty_nothing : nothing [] ≡ true
unfolding nothing
empty_nothing = refl

pub literal-at_mark : (mark : ℕ) (bytes rest : List ℕ) → mark ≢ 10 → Inside mark bytes rest → 1 ≤ length rest → get_or rest 0 0 ≡ mark → EndsLiteral mark bytes (past_splices (back_of rest)) true
literal-at_mark mark bytes rest no_line inside some ends =
    let behind = past_splices (back_of rest) in
    let passes : Passes {V = Bool × Bool} (states mark) behind_mark bytes behind =
    passes-front (states mark) (states mark) behind_mark bytes rest inside some (λ more. both (mark_body mark (get_or rest 0 0) ends no_line more) (mark_mark mark (get_or rest 0 0) ends more))
    in
    literal-ends mark behind_mark bytes behind true passes empty_nothing refl (stops-behind behind)

slash_body : (mark : ℕ) → is_literal_body mark (92 ∷ []) ≡ true
unfolding is_literal_body
slash_body mark = refl

slash_mark : (mark : ℕ) → mark ≢ 92 → has_mark mark (92 ∷ []) ≡ false
unfolding has_mark
slash_mark mark other = ne_eqb 92 mark (λ e. other (sym e))

slash_line : (mark byte : ℕ) → mark ≢ 92 → byte ≡ 10 → (more : List ℕ) → is_literal_body mark (92 ∷ byte ∷ more) ≡ false
unfolding is_literal_body
slash_line mark byte other line more =
    let no_mark : 92 ≢ mark = λ e. other (sym e) in
    rw (ne_eqb 92 mark no_mark, eq-eqb byte 10 line) refl

stops-slash : (mark : ℕ) (rest : List ℕ) → mark ≢ 92 → (1 ≤ length rest → get_or rest 0 0 ≡ 10) → Stops (λ more. is_literal_body mark (92 ∷ more)) [] rest
stops-slash mark rest other line = elim (cases_lt (length rest) 1) [
  | inl none ↦ stops-nothing (λ more. is_literal_body mark (92 ∷ more)) rest none
  | inr some ↦ stops-front (λ more. is_literal_body mark (92 ∷ more)) rest some (λ more behind reads. slash_line mark (get_or rest 0 0) other (line some) more)
]

pub literal-at_slash : (mark : ℕ) (bytes rest next : List ℕ) → next ≡ past_splices (back_of rest) → mark ≢ 92 → Inside mark bytes rest → 1 ≤ length rest → get_or rest 0 0 ≡ 92 → (1 ≤ length next → get_or next 0 0 ≡ 10) → EndsLiteral mark bytes next false
literal-at_slash mark bytes rest next next_is other inside some slash line =
    let front : Passes {V = Bool × Bool} (states mark) (behind_slash mark) bytes next = rw next_is (slash-front mark bytes rest inside some slash) in
    literal-ends mark (behind_slash mark) bytes next false front (slash_body mark) (slash_mark mark other) (stops-slash mark next other line)
