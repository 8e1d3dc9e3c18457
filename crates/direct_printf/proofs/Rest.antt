-- What is left to write of a format, piece by piece.
use Rattle.std.proofs.Common.{◌≡◌, ℕ, ◌+◌, ◌-◌, ◌<◌, ◌≤◌, List, [], ◌∷◌, ◌++◌, length, map, get_or, take, drop, refl, sym, ◌∙◌, ap, subst, zero-add, arith}
use Rattle.std.specs.Prelude.{slice_range, ⊤}
use Rattle.std.specs.List.{AllByRecursion}
use Rattle.std.proofs.lemmas.List.{append_assoc, append-nil, length-append, length-drop, length-map, take-map, drop-map, drop-drop, drop_more, drop_all}
use Rattle.printf_grammar.specs.declared.piece.Piece.{Piece}
use Rattle.printf_grammar.specs.declared.piece.Piece.TheVariants as pieces
use Rattle.printf_grammar.specs.declared.piece.Spec.{Spec}
use Rattle.printf_grammar.specs.declared.arg_type.ArgType.{ArgType}
use Rattle.printf_grammar.specs.declared.argument.Value.{Value}
use Rattle.printf_grammar.specs.Pieces.{Parsed}
use Rattle.printf_grammar.specs.Spelling.{Spells, SpelledFrom, SpellsPiece}
use Rattle.printf_grammar.specs.Types.{Types, Fits, field_types}
use Rattle.direct_printf.specs.Fields.{Field, Text, argument_count, pieces_text}
use Rattle.direct_printf.proofs.Arguments.{argument_count-types}

-- a literal's places lie within n bytes
abbrev pub IsWithin : ℕ → Piece → Type 0
IsWithin n (pieces.Literal start end) = (start ≤ end) × (end ≤ n)
IsWithin n pieces.Percent = ⊤
IsWithin n (pieces.Field spec) = ⊤

IsWithin-spelled : (at : ℕ) (front : List ℕ) (piece : Piece) (n : ℕ) → SpellsPiece at front piece → at + length front ≤ n → IsWithin n piece
IsWithin-spelled at front (pieces.Literal start end) n spelled low = (omega (arith, spelled.start_is, spelled.end_is), omega (arith, spelled.end_is))
IsWithin-spelled at front pieces.Percent n spelled low = tt
IsWithin-spelled at front (pieces.Field spec) n spelled low = tt

-- the literals of pieces that spell a format lie within it
all_within : (at : ℕ) (bytes : List ℕ) (list : List Piece) → SpelledFrom at bytes list → AllByRecursion (IsWithin (at + length bytes)) list
all_within at bytes [] spelled = tt
all_within at bytes (piece ∷ list) spelled =
    let joined : at + length spelled.0 + length spelled.1 ≡ at + length bytes = omega (arith, ap length spelled.2, length-append spelled.0 spelled.1) in
    let P : ℕ → Type 0 = λ n. AllByRecursion (IsWithin n) list in
    (IsWithin-spelled at spelled.0 piece (at + length bytes) spelled.3 (omega arith), subst P joined (all_within (at + length spelled.0) spelled.1 list spelled.4))

-- and so those of a whole format
pub Spells-within : (bytes : List ℕ) (list : List Piece) → Spells bytes list → AllByRecursion (IsWithin (length bytes)) list
Spells-within bytes list spelled =
    let P : ℕ → Type 0 = λ n. AllByRecursion (IsWithin n) list in subst P (zero-add (length bytes)) (all_within 0 bytes list spelled.spelled)

-- `front` is written of the text `whole`, and these pieces with these values are left
pub record Rest (bytes : List ℕ) (list : List Piece) (values : List Value) (front whole : List ℕ) : Type 0 where
  pub text : front ++ pieces_text bytes list values ≡ whole
  pub fitting : Fits values (Types list)
  pub within : AllByRecursion (IsWithin (length bytes)) list

pub Rest-literal : (bytes : List ℕ) (start end : ℕ) (list : List Piece) (values : List Value) (front whole : List ℕ) → Rest bytes (pieces.Literal start end ∷ list) values front whole → Rest bytes list values (front ++ slice_range bytes start end) whole
unfolding pieces_text
Rest-literal bytes start end list values front whole rest = record {
  text = append_assoc front (slice_range bytes start end) (pieces_text bytes list values) ∙ rest.text;
  fitting = rest.fitting;
  within = rest.within.1;
}

pub Rest-percent : (bytes : List ℕ) (list : List Piece) (values : List Value) (front whole : List ℕ) → Rest bytes (pieces.Percent ∷ list) values front whole → Rest bytes list values (front ++ 37 ∷ []) whole
unfolding pieces_text
Rest-percent bytes list values front whole rest = record {
  text = append_assoc front (37 ∷ []) (pieces_text bytes list values) ∙ rest.text;
  fitting = rest.fitting;
  within = rest.within.1;
}

-- the values that fit some types and others: so many fit the first types, and those behind them the others
pub Fits-split : (values : List Value) (front back : List ArgType) → Fits values (front ++ back) → (length front ≤ length values) × Fits (take (length front) values) front × Fits (drop (length front) values) back
Fits-split values [] back fits = (omega arith, tt, fits)
Fits-split [] (type ∷ front) back fits = absurd fits
Fits-split (value ∷ values) (type ∷ front) back fits =
    let rest : (length front ≤ length values) × Fits (take (length front) values) front × Fits (drop (length front) values) back = Fits-split values front back fits.1 in
    (omega (arith, rest.0), (fits.0, rest.1), rest.2)

-- a field's own arguments are there, and fit its types
pub record IsOwn (spec : Spec) (values : List Value) : Type 0 where
  pub enough : argument_count spec ≤ length values
  pub fitting : Fits (take (argument_count spec) values) (field_types spec)

pub Rest-own : (bytes : List ℕ) (spec : Spec) (list : List Piece) (values : List Value) (front whole : List ℕ) → Rest bytes (pieces.Field spec ∷ list) values front whole → IsOwn spec values
Rest-own bytes spec list values front whole rest =
    let all : (length (field_types spec) ≤ length values) × Fits (take (length (field_types spec)) values) (field_types spec) × Fits (drop (length (field_types spec)) values) (Types list) = Fits-split values (field_types spec) (Types list) rest.fitting in
    let P : ℕ → Type 0 = λ n. Fits (take n values) (field_types spec) in
    record {
      enough = omega (arith, all.0, argument_count-types spec);
      fitting = subst P (argument_count-types spec) all.1;
    }

-- the values of the arguments from a place up to another
own_values : {A : Type 0} (value : A → Value) (args : List A) (n m count : ℕ) → m ≡ count → map value (take (n + m - n) (drop n args)) ≡ take count (drop n (map value args))
own_values value args n m count same =
    let many : n + m - n ≡ count = omega arith in
    ap (λ k. map value (take k (drop n args))) many ∙ sym (take-map value count (drop n args)) ∙ ap (take count) (sym (drop-map value n args))

-- they are arguments of the call
pub own_inside : {A : Type 0} (value : A → Value) (bytes : List ℕ) (spec : Spec) (list : List Piece) (args : List A) (n count : ℕ) (front whole : List ℕ) → count ≡ argument_count spec → Rest bytes (pieces.Field spec ∷ list) (drop n (map value args)) front whole → n + count ≤ length args
own_inside value bytes spec list args n count front whole count_is rest =
    let own : IsOwn spec (drop n (map value args)) = Rest-own bytes spec list (drop n (map value args)) front whole rest in
    omega (arith, own.enough, length-drop n (map value args), length-map args value)

pub own_fitting : {A : Type 0} (value : A → Value) (bytes : List ℕ) (spec : Spec) (list : List Piece) (args : List A) (n count : ℕ) (front whole : List ℕ) → count ≡ argument_count spec → Rest bytes (pieces.Field spec ∷ list) (drop n (map value args)) front whole → Fits (map value (take (n + count - n) (drop n args))) (field_types spec)
own_fitting value bytes spec list args n count front whole count_is rest =
    let P : List Value → Type 0 = λ values. Fits values (field_types spec) in
    subst P (sym (own_values value args n count (argument_count spec) count_is)) (Rest-own bytes spec list (drop n (map value args)) front whole rest).fitting

-- a field is written with its own values
Rest-field : (bytes : List ℕ) (spec : Spec) (list : List Piece) (values : List Value) (front whole : List ℕ) → Rest bytes (pieces.Field spec ∷ list) values front whole → Rest bytes list (drop (argument_count spec) values) (front ++ Field spec (take (argument_count spec) values)) whole
unfolding pieces_text
Rest-field bytes spec list values front whole rest =
    let all : (length (field_types spec) ≤ length values) × Fits (take (length (field_types spec)) values) (field_types spec) × Fits (drop (length (field_types spec)) values) (Types list) = Fits-split values (field_types spec) (Types list) rest.fitting in
    let P : ℕ → Type 0 = λ n. Fits (drop n values) (Types list) in
    record {
      text = append_assoc front (Field spec (take (argument_count spec) values)) (pieces_text bytes list (drop (argument_count spec) values)) ∙ rest.text;
      fitting = subst P (argument_count-types spec) all.2;
      within = rest.within.1;
    }

-- and these are those of its own arguments
pub Rest-field_args : {A : Type 0} (value : A → Value) (bytes : List ℕ) (spec : Spec) (list : List Piece) (args : List A) (n count : ℕ) (front whole : List ℕ) → count ≡ argument_count spec → Rest bytes (pieces.Field spec ∷ list) (drop n (map value args)) front whole → Rest bytes list (drop (n + count) (map value args)) (front ++ Field spec (map value (take (n + count - n) (drop n args)))) whole
Rest-field_args value bytes spec list args n count front whole count_is rest =
    let many : ℕ = argument_count spec in
    let others : drop many (drop n (map value args)) ≡ drop (n + count) (map value args) = drop-drop many n (map value args) ∙ ap (λ m. drop (n + m) (map value args)) (sym count_is) in
    let P : List Value → Type 0 = λ v. Rest bytes list v (front ++ Field spec (take many (drop n (map value args)))) whole in
    let Q : List Value → Type 0 = λ v. Rest bytes list (drop (n + count) (map value args)) (front ++ Field spec v) whole in
    subst Q (sym (own_values value args n count many count_is)) (subst P others (Rest-field bytes spec list (drop n (map value args)) front whole rest))

-- the text at the start: all pieces and values are left
pub Rest-start : (format : Parsed) (bytes : List ℕ) (list : List Piece) (values : List Value) → bytes ≡ format.bytes → list ≡ format.pieces → Spells format.bytes format.pieces → Fits values (Types format.pieces) → Rest bytes list values [] (Text format values)
unfolding Text
Rest-start format bytes list values bytes_are list_is spelled fitting =
    let P : List ℕ → Type 0 = λ b. Rest b list values [] (pieces_text format.bytes format.pieces values) in
    let within : AllByRecursion (IsWithin (length format.bytes)) format.pieces = Spells-within format.bytes format.pieces spelled in
    let Q : List Piece → Type 0 = λ l. Rest format.bytes l values [] (pieces_text format.bytes format.pieces values) in
    subst P (sym bytes_are) (subst Q (sym list_is) (record { text = refl; fitting = fitting; within = within }))

-- at the end nothing is left
pub Rest-end : (bytes : List ℕ) (list : List Piece) (k : ℕ) (values : List Value) (front whole : List ℕ) → length list ≤ k → Rest bytes (drop k list) values front whole → front ≡ whole
unfolding pieces_text
Rest-end bytes list k values front whole past rest =
    let P : List Piece → Type 0 = λ l. Rest bytes l values front whole in
    let none : Rest bytes [] values front whole = subst P (drop_all k list past) rest in
    sym (append-nil front) ∙ none.text

-- the piece at a place is the first of those from there on
pub Rest-at : (bytes : List ℕ) (list : List Piece) (k : ℕ) (piece d : Piece) (values : List Value) (front whole : List ℕ) → k < length list → get_or list k d ≡ piece → Rest bytes (drop k list) values front whole → Rest bytes (piece ∷ drop (k + 1) list) values front whole
Rest-at bytes list k piece d values front whole inside is rest =
    let P : List Piece → Type 0 = λ l. Rest bytes l values front whole in
    subst P (drop_more list k d inside ∙ ap (λ p. p ∷ drop (k + 1) list) is) rest

-- the values that are left from an equal place
pub Rest-from : (bytes : List ℕ) (list : List Piece) (values : List Value) (n m : ℕ) (front whole : List ℕ) → n ≡ m → Rest bytes list (drop m values) front whole → Rest bytes list (drop n values) front whole
Rest-from bytes list values n m front whole same rest =
    let P : ℕ → Type 0 = λ k. Rest bytes list (drop k values) front whole in subst P (sym same) rest

-- more of the text is appended
pub appended : (old front more before now : List ℕ) → before ≡ old ++ front → now ≡ before ++ more → now ≡ old ++ (front ++ more)
appended old front more before now was is = is ∙ ap (λ text. text ++ more) was ∙ append_assoc old front more
