-- The text of two formats, one behind the other.
use Rattle.std.proofs.Common.{◌≡◌, ℕ, ◌+◌, ◌-◌, ◌≤◌, List, [], ◌∷◌, ◌++◌, length, take, drop, map, refl, sym, ◌∙◌, ap, subst, arith}
use Rattle.std.specs.Prelude.{slice_range}
use Rattle.std.specs.List.{AllByRecursion}
use Rattle.std.proofs.Math.Seq.{drop-append-add}
use Rattle.std.proofs.lemmas.List.{append_assoc, take-append-le, drop-append-le, length-drop}
use Rattle.printf_grammar.specs.declared.piece.Piece.{Piece}
use Rattle.printf_grammar.specs.declared.piece.Piece.TheVariants as pieces
use Rattle.printf_grammar.specs.declared.argument.Value.{Value}
use Rattle.printf_grammar.specs.Pieces.{Parsed}
use Rattle.printf_grammar.specs.Spelling.{Spells}
use Rattle.printf_grammar.specs.Types.{Types, Fits, field_types}
use Rattle.direct_printf.specs.Fields.{Field, Text, argument_count, pieces_text}
use Rattle.direct_printf.specs.Joined.{moved, joined}
use Rattle.direct_printf.proofs.Arguments.{argument_count-types}
use Rattle.direct_printf.proofs.Rest.{IsWithin, Spells-within, Fits-split}

-- a part of the first bytes
slice_range-first : (a b : List ℕ) (start end : ℕ) → start ≤ end → end ≤ length a → slice_range (a ++ b) start end ≡ slice_range a start end
slice_range-first a b start end low high =
    let fits : end - start ≤ length (drop start a) = omega (arith, length-drop start a) in
    ap (take (end - start)) (drop-append-le start a b (omega arith)) ∙ take-append-le (end - start) (drop start a) b fits

-- a part of the second bytes
slice_range-second : (a b : List ℕ) (start end : ℕ) → slice_range (a ++ b) (length a + start) (length a + end) ≡ slice_range b start end
slice_range-second a b start end =
    let same : length a + end - (length a + start) ≡ end - start = omega arith in
    ap (λ n. take n (drop (length a + start) (a ++ b))) same ∙ ap (take (end - start)) (drop-append-add a b start)

-- the second format's pieces
moved_text : (a b : List ℕ) (list : List Piece) (values : List Value) → pieces_text (a ++ b) (map (moved (length a)) list) values ≡ pieces_text b list values
unfolding pieces_text
moved_text a b [] values = refl
moved_text a b (pieces.Literal start end ∷ list) values = rw (slice_range-second a b start end, moved_text a b list values)
moved_text a b (pieces.Percent ∷ list) values = ap (λ text. 37 ∷ text) (moved_text a b list values)
moved_text a b (pieces.Field spec ∷ list) values = ap (λ text. Field spec (take (argument_count spec) values) ++ text) (moved_text a b list (drop (argument_count spec) values))

-- the first format's pieces, and then others
pieces_text-append : (a b : List ℕ) (list others : List Piece) (values more : List Value) → AllByRecursion (IsWithin (length a)) list → Fits values (Types list) → pieces_text (a ++ b) (list ++ others) (values ++ more) ≡ pieces_text a list values ++ pieces_text (a ++ b) others more
unfolding pieces_text
pieces_text-append a b [] others [] more within fits = refl
pieces_text-append a b [] others (value ∷ values) more within fits = absurd fits
pieces_text-append a b (pieces.Literal start end ∷ list) others values more within fits =
    rw (slice_range-first a b start end within.0.0 within.0.1, pieces_text-append a b list others values more within.1 fits) (sym (append_assoc (slice_range a start end) (pieces_text a list values) (pieces_text (a ++ b) others more)))
pieces_text-append a b (pieces.Percent ∷ list) others values more within fits =
    ap (λ text. 37 ∷ text) (pieces_text-append a b list others values more within.1 fits)
pieces_text-append a b (pieces.Field spec ∷ list) others values more within fits =
    let all : (length (field_types spec) ≤ length values) × Fits (take (length (field_types spec)) values) (field_types spec) × Fits (drop (length (field_types spec)) values) (Types list) = Fits-split values (field_types spec) (Types list) fits in
    let enough : argument_count spec ≤ length values = omega (arith, all.0, argument_count-types spec) in
    let P : ℕ → Type 0 = λ n. Fits (drop n values) (Types list) in
    let rest : Fits (drop (argument_count spec) values) (Types list) = subst P (argument_count-types spec) all.2 in
    rw (take-append-le (argument_count spec) values more enough, drop-append-le (argument_count spec) values more enough, pieces_text-append a b list others (drop (argument_count spec) values) more within.1 rest) (sym (append_assoc (Field spec (take (argument_count spec) values)) (pieces_text a list (drop (argument_count spec) values)) (pieces_text (a ++ b) others more)))

pub Text-joined : (first second : Parsed) (before behind : List Value) → Spells first.bytes first.pieces → Fits before (Types first.pieces) → Text (joined first second) (before ++ behind) ≡ Text first before ++ Text second behind
unfolding Text
Text-joined first second before behind spelled fits =
    pieces_text-append first.bytes second.bytes first.pieces (map (moved (length first.bytes)) second.pieces) before behind (Spells-within first.bytes first.pieces spelled) fits ∙ ap (λ text. pieces_text first.bytes first.pieces before ++ text) (moved_text first.bytes second.bytes second.pieces behind)
