-- Bytes that are right so far, and the byte before: reading is one step per byte.
use Rattle.std.proofs.Common.{◌≡◌, ℕ, ◌+◌, ◌≤◌, true, false, List, [], ◌∷◌, ◌++◌, length, Option, Some, None, inl, inr, refl, sym, ap, subst, ◌∙◌, arith, append_assoc, length-append}
use Rattle.std.specs.Prelude.{◌==◌, if◌then◌else◌, IfSome}
use Rattle.std.specs.List.{AllByRecursion}
use Rattle.std.specs.Str.Parse.{digits_value}
use Rattle.std.proofs.lemmas.Bool.{ne_eqb, or_parts, cases_Bool, false≢true}
use Rattle.std.proofs.lemmas.List.{append-nil}
use Rattle.printf_grammar.specs.declared.piece.Piece.{Piece}
use Rattle.printf_grammar.specs.declared.piece.Piece.TheVariants.{Literal, Percent, Field}
use Rattle.printf_grammar.specs.declared.piece.Spec.{Spec}
use Rattle.printf_grammar.specs.declared.piece.Size.{Size}
use Rattle.printf_grammar.specs.declared.piece.Size.TheVariants.{Absent, Star, Given}
use Rattle.printf_grammar.specs.declared.piece.Length.{Length}
use Rattle.printf_grammar.specs.declared.piece.Length.TheVariants as lengths
use Rattle.printf_grammar.specs.declared.piece.Conversion.{Conversion}
use Rattle.printf_grammar.specs.declared.piece.Conversion.TheVariants as conversions
use Rattle.printf_grammar.specs.declared.arg_type.ArgType.TheVariants as types
use Rattle.printf_grammar.specs.Types.{size_types, field_types, piece_types, conversion_type, Types}
use Rattle.printf_grammar.specs.Spelling.{stands, SpellsWidth, SpellsPrecision, SpellsDigits, SpellsField, SpellsLiteral, SpellsPiece, SpelledFrom, AreApart, IsLiteralByte, length_bytes, conversion_byte}
use Rattle.printf_grammar.specs.Breaks.{Head, IsHead, head_bytes, is_empty_head, is_conversion, cause_at, unfinished_bytes, unfinished_stars}
use Rattle.printf_grammar.proofs.Behind.{conversion_cause}
use Rattle.printf_grammar.proofs.Numbers.{width_digits, width_some, no_star}
use Rattle.printf_grammar.proofs.Sizes.{stars_join, width_stars, precision_stars}
use Rattle.printf_grammar.proofs.Reading.{EndsWithoutLiteral, spelled_more}
use Rattle.printf_grammar.proofs.Runs.{all_front, all_back}
use Rattle.printf_grammar.proofs.lemmas.Shortening.{snoc_cases, snoc_parts, head_of, extend, shorter}
use Rattle.printf_grammar.proofs.Taking.{Types-append}

-- ---- what a head and a conversion make

size_of_width : List ℕ → Size
size_of_width [] = Absent
size_of_width (byte ∷ bytes) = if byte == 42 then Star else Given (digits_value 10 (byte ∷ bytes))

size_of_precision : List ℕ → Size
size_of_precision [] = Absent
size_of_precision (period ∷ []) = Given 0
size_of_precision (period ∷ byte ∷ bytes) = if byte == 42 then Star else Given (digits_value 10 (byte ∷ bytes))

length_of : List ℕ → Length
length_of [] = lengths.Plain
length_of (byte ∷ []) = if byte == 104 then lengths.H else (if byte == 108 then lengths.L else (if byte == 106 then lengths.J else (if byte == 122 then lengths.Z else lengths.T)))
length_of (byte ∷ second ∷ bytes) = if byte == 104 then lengths.HH else lengths.LL

conversion_of : ℕ → Conversion
conversion_of byte =
    if byte == 100 then conversions.D
    else (if byte == 105 then conversions.I
    else (if byte == 111 then conversions.O
    else (if byte == 117 then conversions.U
    else (if byte == 120 then conversions.X
    else (if byte == 88 then conversions.UpperX
    else (if byte == 99 then conversions.C
    else (if byte == 115 then conversions.S else conversions.P)))))))

pub spec_from : Head → ℕ → Spec
spec_from head byte = record {
  minus = stands 45 head.flags;
  plus = stands 43 head.flags;
  space = stands 32 head.flags;
  sharp = stands 35 head.flags;
  zero = stands 48 head.flags;
  width = size_of_width head.width;
  precision = size_of_precision head.precision;
  length = length_of head.modifier;
  conversion = conversion_of byte;
}

first_no_star : (byte : ℕ) (bytes : List ℕ) → stands 42 (byte ∷ bytes) ≡ false → (byte == 42) ≡ false
first_no_star byte bytes none = (or_parts (byte == 42) (stands 42 bytes) none).0

width_again : (width : List ℕ) (size : Size) → SpellsWidth width size → size_of_width width ≡ size
unfolding size_of_width
width_again width Absent spelled = rw spelled refl
width_again width Star spelled = rw spelled refl
width_again [] (Given n) spelled = absurd (let some = width_some [] n spelled in omega arith)
width_again (byte ∷ width) (Given n) spelled =
    let digits = width_digits (byte ∷ width) n spelled in
    rw (first_no_star byte width (no_star (byte ∷ width) digits.are_digits)) (ap (λ (k : ℕ). Given k) digits.value)

precision_again : (precision : List ℕ) (size : Size) → SpellsPrecision precision size → size_of_precision precision ≡ size
unfolding size_of_precision
precision_again precision Absent spelled = rw spelled refl
precision_again precision Star spelled = rw spelled refl
precision_again precision (Given n) spelled = rw spelled.1 (digits_again spelled.0 n spelled.2)
  where
    digits_again : (digits : List ℕ) (n : ℕ) → SpellsDigits digits n → size_of_precision (46 ∷ digits) ≡ Given n
    digits_again [] n spelled = ap (λ (k : ℕ). Given k) spelled.value
    digits_again (byte ∷ digits) n spelled = rw (first_no_star byte digits (no_star (byte ∷ digits) spelled.are_digits)) (ap (λ (k : ℕ). Given k) spelled.value)

length_again : (length : Length) → length_of (length_bytes length) ≡ length
unfolding length_of
length_again lengths.Plain = refl
length_again lengths.HH = refl
length_again lengths.H = refl
length_again lengths.L = refl
length_again lengths.LL = refl
length_again lengths.J = refl
length_again lengths.Z = refl
length_again lengths.T = refl

conversion_again : (conversion : Conversion) → conversion_of (conversion_byte conversion) ≡ conversion
unfolding conversion_of
conversion_again conversions.D = refl
conversion_again conversions.I = refl
conversion_again conversions.O = refl
conversion_again conversions.U = refl
conversion_again conversions.X = refl
conversion_again conversions.UpperX = refl
conversion_again conversions.C = refl
conversion_again conversions.S = refl
conversion_again conversions.P = refl

is_conversion_byte : (conversion : Conversion) → is_conversion (conversion_byte conversion) ≡ true
is_conversion_byte conversions.D = refl
is_conversion_byte conversions.I = refl
is_conversion_byte conversions.O = refl
is_conversion_byte conversions.U = refl
is_conversion_byte conversions.X = refl
is_conversion_byte conversions.UpperX = refl
is_conversion_byte conversions.C = refl
is_conversion_byte conversions.S = refl
is_conversion_byte conversions.P = refl

-- the head of a field
abbrev field_head : {bytes : List ℕ} {spec : Spec} → SpellsField bytes spec → Head
field_head {spec = spec} field = head_of field.flags field.width field.precision (length_bytes spec.length)

spec_again : (bytes : List ℕ) (spec : Spec) (field : SpellsField bytes spec) → spec_from (field_head field) (conversion_byte spec.conversion) ≡ spec
unfolding spec_from
spec_again bytes spec field =
    let flags = field.flags_spelled in
    rw (sym flags.minus, sym flags.plus, sym flags.space, sym flags.sharp, sym flags.zero, width_again field.width spec.width field.width_spelled, precision_again field.precision spec.precision field.precision_spelled, length_again spec.length, conversion_again spec.conversion) refl

-- ---- one step

-- the pieces with one more literal byte, at this place
pub grow : ℕ → List Piece → List Piece
grow at [] = Literal at (at + 1) ∷ []
grow at (Literal start end ∷ []) = Literal start (at + 1) ∷ []
grow at (Percent ∷ []) = Percent ∷ Literal at (at + 1) ∷ []
grow at (Field spec ∷ []) = Field spec ∷ Literal at (at + 1) ∷ []
grow at (piece ∷ second ∷ pieces) = piece ∷ grow at (second ∷ pieces)

grow_new : (at : ℕ) (pieces : List Piece) → EndsWithoutLiteral pieces → grow at pieces ≡ pieces ++ Literal at (at + 1) ∷ []
unfolding grow
grow_new at [] ends = refl
grow_new at (Literal start end ∷ []) ends = absurd ends
grow_new at (Percent ∷ []) ends = refl
grow_new at (Field spec ∷ []) ends = refl
grow_new at (piece ∷ second ∷ pieces) ends = ap (λ (rest : List Piece). piece ∷ rest) (grow_new at (second ∷ pieces) ends)

grow_old : (at : ℕ) (pieces : List Piece) (start end : ℕ) → grow at (pieces ++ Literal start end ∷ []) ≡ pieces ++ Literal start (at + 1) ∷ []
unfolding grow
grow_old at [] start end = refl
grow_old at (piece ∷ []) start end = refl
grow_old at (piece ∷ second ∷ pieces) start end = ap (λ (rest : List Piece). piece ∷ rest) (grow_old at (second ∷ pieces) start end)

abbrev pub next_head : Option Head → ℕ → Option Head
next_head None byte = if byte == 37 then Some (head_of [] [] [] []) else None
next_head (Some head) byte = if is_conversion byte then None else (if byte == 37 then None else Some (extend head byte))

abbrev pub next_pieces : ℕ → List Piece → Option Head → ℕ → List Piece
next_pieces at pieces None byte = if byte == 37 then pieces else grow at pieces
next_pieces at pieces (Some head) byte = if is_conversion byte then pieces ++ Field (spec_from head byte) ∷ [] else (if byte == 37 then pieces ++ Percent ∷ [] else pieces)

-- how many arguments are taken
abbrev pub taken : List Piece → Option Head → ℕ
taken pieces head = length (Types pieces) + unfinished_stars head

-- the bytes are these pieces and this unfinished field
pub record Reached (bytes : List ℕ) (pieces : List Piece) (head : Option Head) : Type 0 where
  pub whole : List ℕ
  pub joined : bytes ≡ whole ++ unfinished_bytes head
  pub spelled : SpelledFrom 0 whole pieces
  pub apart : AreApart pieces
  pub right : IfSome head IsHead

-- where the bytes before the last one stand, which nothing breaks
pub record Step (before : List ℕ) (byte : ℕ) (pieces' : List Piece) (head' : Option Head) : Type 0 where
  pub pieces : List Piece
  pub head : Option Head
  pub reached : Reached before pieces head
  pub head_is : next_head head byte ≡ head'
  pub pieces_is : next_pieces (length before) pieces head byte ≡ pieces'
  pub fewer : taken pieces head ≤ taken pieces' head'
  pub free : taken pieces' head' ≤ 64 → cause_at head (taken pieces head) (Some byte) ≡ None

-- ---- a step in a field

step_head : (before : List ℕ) (byte : ℕ) (pieces : List Piece) (flags width precision modifier : List ℕ) → Reached (before ++ byte ∷ []) pieces (Some (head_of flags width precision modifier)) → is_empty_head (head_of flags width precision modifier) ≡ false
    → Step before byte pieces (Some (head_of flags width precision modifier))
step_head before byte pieces flags width precision modifier reached some =
    let head = head_of flags width precision modifier in
    let less = shorter flags width precision modifier reached.right some in
    let joined : before ++ byte ∷ [] ≡ (reached.whole ++ head_bytes less.front) ++ less.last ∷ [] = reached.joined ∙ ap (λ (back : List ℕ). reached.whole ++ back) less.joined ∙ sym (append_assoc reached.whole (head_bytes less.front) (less.last ∷ [])) in
    let parts = snoc_parts before (reached.whole ++ head_bytes less.front) byte less.last joined in
    rw parts.1 (record {
      pieces = pieces;
      head = Some less.front;
      reached = record { whole = reached.whole; joined = parts.0; spelled = reached.spelled; apart = reached.apart; right = less.on.right };
      head_is = rw (less.on.no_conversion, less.on.no_percent) (ap (λ (h : Head). Some h) less.on.extends);
      pieces_is = rw (less.on.no_conversion, less.on.no_percent) refl;
      fewer = let stars = less.stars in omega arith;
      free = less.on.free (length (Types pieces));
    })

step_bare : (before : List ℕ) (byte : ℕ) (pieces : List Piece) → Reached (before ++ byte ∷ []) pieces (Some (head_of [] [] [] [])) → Step before byte pieces (Some (head_of [] [] [] []))
step_bare before byte pieces reached =
    let parts = snoc_parts before reached.whole byte 37 reached.joined in
    rw parts.1 (record {
      pieces = pieces;
      head = None;
      reached = record { whole = reached.whole; joined = parts.0 ∙ sym (append-nil reached.whole); spelled = reached.spelled; apart = reached.apart; right = tt };
      head_is = refl;
      pieces_is = refl;
      fewer = omega arith;
      free = λ few. refl;
    })

-- ---- a step in a piece

-- the pieces without the last one
pub record Split (whole : List ℕ) (pieces : List Piece) (last : Piece) : Type 0 where
  pub front : List ℕ
  pub back : List ℕ
  pub joined : whole ≡ front ++ back
  pub spelled : SpelledFrom 0 front pieces
  pub piece : SpellsPiece (length front) back last

split_at : (pieces : List Piece) (last : Piece) (at : ℕ) (whole : List ℕ) → SpelledFrom at whole (pieces ++ last ∷ []) → (front : List ℕ) × (back : List ℕ) × (whole ≡ front ++ back) × SpelledFrom at front pieces × SpellsPiece (at + length front) back last
split_at [] last at whole spelled =
    let none : spelled.0 ++ spelled.1 ≡ spelled.0 = rw spelled.4 (append-nil spelled.0) in
    let place : at ≡ at + 0 = omega arith in
    ([], spelled.0, spelled.2 ∙ none, refl, subst (λ (k : ℕ). SpellsPiece k spelled.0 last) place spelled.3)
split_at (first ∷ pieces) last at whole spelled =
    let rest = split_at pieces last (at + length spelled.0) spelled.1 spelled.4 in
    let place : (at + length spelled.0) + length rest.0 ≡ at + length (spelled.0 ++ rest.0) = omega (arith, length-append spelled.0 rest.0) in (
      spelled.0 ++ rest.0,
      rest.1,
      spelled.2 ∙ ap (λ (back : List ℕ). spelled.0 ++ back) rest.2 ∙ sym (append_assoc spelled.0 rest.0 rest.1),
      (spelled.0, rest.0, refl, spelled.3, rest.3),
      subst (λ (k : ℕ). SpellsPiece k rest.1 last) place rest.4,
    )

pub split : (pieces : List Piece) (last : Piece) (whole : List ℕ) → SpelledFrom 0 whole (pieces ++ last ∷ []) → Split whole pieces last
split pieces last whole spelled =
    let parts = split_at pieces last 0 whole spelled in
    let place : 0 + length parts.0 ≡ length parts.0 = omega arith in
    record { front = parts.0; back = parts.1; joined = parts.2; spelled = parts.3; piece = subst (λ (k : ℕ). SpellsPiece k parts.1 last) place parts.4 }

pub apart_front : (pieces : List Piece) (last : Piece) → AreApart (pieces ++ last ∷ []) → AreApart pieces
apart_front [] last apart = tt
apart_front (Literal a b ∷ []) last apart = (tt, tt)
apart_front (Literal a b ∷ Literal c d ∷ pieces) last apart = absurd apart.0
apart_front (Literal a b ∷ Percent ∷ pieces) last apart = (tt, apart_front (Percent ∷ pieces) last apart.1)
apart_front (Literal a b ∷ Field spec ∷ pieces) last apart = (tt, apart_front (Field spec ∷ pieces) last apart.1)
apart_front (Percent ∷ pieces) last apart = apart_front pieces last apart
apart_front (Field spec ∷ pieces) last apart = apart_front pieces last apart

pub ends_front : (pieces : List Piece) (start end : ℕ) → AreApart (pieces ++ Literal start end ∷ []) → EndsWithoutLiteral pieces
ends_front [] start end apart = tt
ends_front (Literal a b ∷ []) start end apart = absurd apart.0
ends_front (Percent ∷ []) start end apart = tt
ends_front (Field spec ∷ []) start end apart = tt
ends_front (Literal a b ∷ second ∷ pieces) start end apart = ends_front (second ∷ pieces) start end apart.1
ends_front (Percent ∷ second ∷ pieces) start end apart = ends_front (second ∷ pieces) start end apart
ends_front (Field spec ∷ second ∷ pieces) start end apart = ends_front (second ∷ pieces) start end apart

-- a literal's place is nothing to its neighbours
pub apart_moved : (pieces : List Piece) (start end end' : ℕ) → AreApart (pieces ++ Literal start end ∷ []) → AreApart (pieces ++ Literal start end' ∷ [])
apart_moved [] start end end' apart = (tt, tt)
apart_moved (Literal a b ∷ []) start end end' apart = absurd apart.0
apart_moved (Literal a b ∷ Literal c d ∷ pieces) start end end' apart = absurd apart.0
apart_moved (Literal a b ∷ Percent ∷ pieces) start end end' apart = (tt, apart_moved (Percent ∷ pieces) start end end' apart.1)
apart_moved (Literal a b ∷ Field spec ∷ pieces) start end end' apart = (tt, apart_moved (Field spec ∷ pieces) start end end' apart.1)
apart_moved (Percent ∷ pieces) start end end' apart = apart_moved pieces start end end' apart
apart_moved (Field spec ∷ pieces) start end end' apart = apart_moved pieces start end end' apart

pub types_more : (pieces : List Piece) (last : Piece) (n : ℕ) → length (piece_types last) ≡ n → length (Types (pieces ++ last ∷ [])) ≡ length (Types pieces) + n
types_more pieces last n e = ap length (Types-append pieces (last ∷ [])) ∙ length-append (Types pieces) (piece_types last ++ []) ∙ omega (arith, e, ap length (append-nil (piece_types last)))

step_percent : (before : List ℕ) (byte : ℕ) (pieces : List Piece) (whole : List ℕ) → before ++ byte ∷ [] ≡ whole → AreApart (pieces ++ Percent ∷ []) → Split whole pieces Percent → Step before byte (pieces ++ Percent ∷ []) None
step_percent before byte pieces whole e apart split =
    let joined : before ++ byte ∷ [] ≡ (split.front ++ 37 ∷ []) ++ 37 ∷ [] = e ∙ split.joined ∙ ap (λ (back : List ℕ). split.front ++ back) split.piece ∙ sym (append_assoc split.front (37 ∷ []) (37 ∷ [])) in
    let parts = snoc_parts before (split.front ++ 37 ∷ []) byte 37 joined in
    let types = types_more pieces Percent 0 refl in
    rw parts.1 (record {
      pieces = pieces;
      head = Some (head_of [] [] [] []);
      reached = record { whole = split.front; joined = parts.0; spelled = split.spelled; apart = apart_front pieces Percent apart; right = record { flags = tt; width = (Absent, refl); precision = (Absent, refl); modifier = inl (lengths.Plain, refl) } };
      head_is = refl;
      pieces_is = refl;
      fewer = omega arith;
      free = λ few. refl;
    })

step_field : (before : List ℕ) (byte : ℕ) (pieces : List Piece) (whole : List ℕ) (spec : Spec) → before ++ byte ∷ [] ≡ whole → AreApart (pieces ++ Field spec ∷ []) → Split whole pieces (Field spec) → Step before byte (pieces ++ Field spec ∷ []) None
step_field before byte pieces whole spec e apart split =
    let field = split.piece in
    let head = head_of field.flags field.width field.precision (length_bytes spec.length) in
    let last = conversion_byte spec.conversion in
    let joined : before ++ byte ∷ [] ≡ (split.front ++ head_bytes head) ++ last ∷ [] = e ∙ split.joined ∙ ap (λ (back : List ℕ). split.front ++ back) field.whole ∙ sym (append_assoc split.front (head_bytes head) (last ∷ [])) in
    let parts = snoc_parts before (split.front ++ head_bytes head) byte last joined in
    let stars : unfinished_stars (Some head) ≡ length (size_types types.Width spec.width) + length (size_types types.Precision spec.precision) = stars_join field.width field.precision ∙ omega (arith, width_stars types.Width field.width spec.width field.width_spelled, precision_stars types.Precision field.precision spec.precision field.precision_spelled) in
    let sizes = length-append (size_types types.Width spec.width) (size_types types.Precision spec.precision) in
    let more = length-append (size_types types.Width spec.width ++ size_types types.Precision spec.precision) (conversion_type spec.conversion spec.length ∷ []) in
    let counted : length (field_types spec) ≡ unfinished_stars (Some head) + 1 = omega (arith, stars, sizes, more) in
    let types = types_more pieces (Field spec) _ counted in
    rw parts.1 (record {
      pieces = pieces;
      head = Some head;
      reached = record {
        whole = split.front;
        joined = parts.0;
        spelled = split.spelled;
        apart = apart_front pieces (Field spec) apart;
        right = record { flags = field.flags_spelled.flags; width = (spec.width, field.width_spelled); precision = (spec.precision, field.precision_spelled); modifier = inl (spec.length, refl) };
      };
      head_is = rw (is_conversion_byte spec.conversion) refl;
      pieces_is = rw (is_conversion_byte spec.conversion, spec_again split.back spec field) refl;
      fewer = omega arith;
      free = λ few. conversion_cause head _ spec.conversion spec.length refl field.takes_length ∙ rw (ne_eqb (length (Types pieces) + unfinished_stars (Some head)) 64 (λ full. omega (arith, few, types, full))) refl;
    })

-- the literal is one byte long, or longer
step_literal : (before : List ℕ) (byte : ℕ) (pieces : List Piece) (whole : List ℕ) (start end : ℕ) → before ++ byte ∷ [] ≡ whole → AreApart (pieces ++ Literal start end ∷ []) → Split whole pieces (Literal start end) → Step before byte (pieces ++ Literal start end ∷ []) None
step_literal before byte pieces whole start end e apart split =
    elim (snoc_cases split.back) [
      | inl none ↦ absurd (let some = split.piece.nonempty in omega (arith, ap length none))
      | inr parts ↦ shorter_literal parts.0 parts.1 parts.2
    ]
  where
    shorter_literal : (front : List ℕ) (last : ℕ) → split.back ≡ front ++ last ∷ [] → Step before byte (pieces ++ Literal start end ∷ []) None
    shorter_literal [] last back =
        let joined : before ++ byte ∷ [] ≡ split.front ++ last ∷ [] = e ∙ split.joined ∙ ap (λ (rest : List ℕ). split.front ++ rest) back in
        let parts = snoc_parts before split.front byte last joined in
        let literal : AllByRecursion IsLiteralByte (last ∷ []) = subst (AllByRecursion IsLiteralByte) back split.piece.literal in
        let first : start ≡ length before = omega (arith, split.piece.start_is, ap length parts.0) in
        let next : end ≡ length before + 1 = omega (arith, split.piece.end_is, split.piece.start_is, ap length back, ap length parts.0) in
        let grown : grow (length before) pieces ≡ pieces ++ Literal start end ∷ [] = grow_new (length before) pieces (ends_front pieces start end apart) ∙ rw (first, next) refl in
        let types = types_more pieces (Literal start end) 0 refl in
        rw parts.1 (record {
          pieces = pieces;
          head = None;
          reached = record { whole = split.front; joined = parts.0 ∙ sym (append-nil split.front); spelled = split.spelled; apart = apart_front pieces (Literal start end) apart; right = tt };
          head_is = rw (ne_eqb last 37 literal.0.0) refl;
          pieces_is = rw (ne_eqb last 37 literal.0.0) grown;
          fewer = omega arith;
          free = λ few. rw (ne_eqb last 0 literal.0.1) refl;
        })
    shorter_literal (x ∷ front) last back =
        let run = x ∷ front in
        let at = length before in
        let joined : before ++ byte ∷ [] ≡ (split.front ++ run) ++ last ∷ [] = e ∙ split.joined ∙ ap (λ (rest : List ℕ). split.front ++ rest) back ∙ sym (append_assoc split.front run (last ∷ [])) in
        let parts = snoc_parts before (split.front ++ run) byte last joined in
        let all : AllByRecursion IsLiteralByte (run ++ last ∷ []) = subst (AllByRecursion IsLiteralByte) back split.piece.literal in
        let literal = all_back IsLiteralByte run (last ∷ []) all in
        let long = length-append split.front run in
        let next : end ≡ at + 1 = omega (arith, split.piece.end_is, split.piece.start_is, ap length back, length-append run (last ∷ []), ap length parts.0, long) in
        let grown : grow at (pieces ++ Literal start at ∷ []) ≡ pieces ++ Literal start end ∷ [] = grow_old at pieces start at ∙ rw next refl in
        let types = types_more pieces (Literal start end) 0 refl in
        let types' = types_more pieces (Literal start at) 0 refl in
        let spelled : SpellsLiteral (0 + length split.front) run start at = record { start_is = omega (arith, split.piece.start_is); end_is = omega (arith, ap length parts.0, long); nonempty = omega arith; literal = all_front IsLiteralByte run (last ∷ []) all } in
        rw parts.1 (record {
          pieces = pieces ++ Literal start at ∷ [];
          head = None;
          reached = record {
            whole = split.front ++ run;
            joined = parts.0 ∙ sym (append-nil (split.front ++ run));
            spelled = spelled_more pieces 0 split.front run (Literal start at) split.spelled spelled;
            apart = apart_moved pieces start end at apart;
            right = tt;
          };
          head_is = rw (ne_eqb last 37 literal.0.0) refl;
          pieces_is = rw (ne_eqb last 37 literal.0.0) grown;
          fewer = omega arith;
          free = λ few. rw (ne_eqb last 0 literal.0.1) refl;
        })

step_piece : (before : List ℕ) (byte : ℕ) (pieces : List Piece) (whole : List ℕ) (last : Piece) → before ++ byte ∷ [] ≡ whole → AreApart (pieces ++ last ∷ []) → Split whole pieces last → Step before byte (pieces ++ last ∷ []) None
step_piece before byte pieces whole (Literal start end) e apart split = step_literal before byte pieces whole start end e apart split
step_piece before byte pieces whole Percent e apart split = step_percent before byte pieces whole e apart split
step_piece before byte pieces whole (Field spec) e apart split = step_field before byte pieces whole spec e apart split

-- where bytes are right so far, so are those before the last, and it is a step from there
pub last_step : (before : List ℕ) (byte : ℕ) (pieces : List Piece) (head : Option Head) → Reached (before ++ byte ∷ []) pieces head → Step before byte pieces head
last_step before byte pieces None reached =
    let whole : before ++ byte ∷ [] ≡ reached.whole = reached.joined ∙ append-nil reached.whole in
    elim (snoc_cases pieces) [
      | inl none ↦
          let empty : reached.whole ≡ [] = rw none at reached.spelled in
          absurd (omega (arith, ap length whole, ap length empty, length-append before (byte ∷ [])))
      | inr parts ↦
          let apart : AreApart (parts.0 ++ parts.1 ∷ []) = rw (sym parts.2) reached.apart in
          let spelled : SpelledFrom 0 reached.whole (parts.0 ++ parts.1 ∷ []) = rw (sym parts.2) reached.spelled in
          rw parts.2 (step_piece before byte parts.0 reached.whole parts.1 whole apart (split parts.0 parts.1 reached.whole spelled))
    ]
last_step before byte pieces (Some head) reached =
    elim (cases_Bool (is_empty_head head)) [
      | inl empty ↦ step_some_bare head empty reached
      | inr some ↦ step_head before byte pieces head.flags head.width head.precision head.modifier reached some
    ]
  where
    step_some_bare : (head : Head) → is_empty_head head ≡ true → Reached (before ++ byte ∷ []) pieces (Some head) → Step before byte pieces (Some head)
    step_some_bare head empty reached = bare_parts head.flags head.width head.precision head.modifier empty reached
      where
        bare_parts : (flags width precision modifier : List ℕ) → is_empty_head (head_of flags width precision modifier) ≡ true → Reached (before ++ byte ∷ []) pieces (Some (head_of flags width precision modifier)) → Step before byte pieces (Some (head_of flags width precision modifier))
        bare_parts [] [] [] [] empty reached = step_bare before byte pieces reached
        bare_parts [] [] [] (x ∷ modifier) empty reached = absurd (false≢true empty)
        bare_parts [] [] (x ∷ precision) modifier empty reached = absurd (false≢true empty)
        bare_parts [] (x ∷ width) precision modifier empty reached = absurd (false≢true empty)
        bare_parts (x ∷ flags) width precision modifier empty reached = absurd (false≢true empty)
