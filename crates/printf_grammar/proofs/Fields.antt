-- A field from its parts, and where it breaks.
use Rattle.std.proofs.Common.{◌≡◌, ℕ, ◌+◌, ◌≤◌, Bool, true, false, not, ◌&&◌, ◌||◌, List, [], ◌∷◌, ◌++◌, length, Some, inl, inr, refl, ap, subst, ◌∙◌, arith, append_assoc, length-append}
use Rattle.std.specs.Prelude.{◌==◌}
use Rattle.std.specs.Char.{is_digit}
use Rattle.std.specs.List.{AllByRecursion}
use Rattle.std.proofs.lemmas.Bool.{and_left, and_right, or_from, or_parts}
use Rattle.std.proofs.lemmas.List.{append-nil}
use Rattle.printf_grammar.specs.declared.fault.FormatCause.{FormatCause}
use Rattle.printf_grammar.specs.declared.piece.Spec.{Spec}
use Rattle.printf_grammar.specs.declared.piece.Size.{Size}
use Rattle.printf_grammar.specs.declared.piece.Length.{Length}
use Rattle.printf_grammar.specs.declared.piece.Conversion.{Conversion}
use Rattle.printf_grammar.specs.declared.arg_type.ArgType.TheVariants as types
use Rattle.printf_grammar.specs.declared.parts.Flags.{Flags}
use Rattle.printf_grammar.specs.declared.parts.Modifier.{Modifier}
use Rattle.printf_grammar.specs.declared.parts.Modifier.TheVariants.{Known, LongDouble}
use Rattle.printf_grammar.specs.Types.{size_types, conversion_type}
use Rattle.printf_grammar.specs.Spelling.{IsFlag, SpellsWidth, length_bytes, conversion_byte}
use Rattle.printf_grammar.specs.Breaks.{Head, IsHead, IsModifier, head_bytes, is_empty, is_only, is_empty_head, has_star, takes_flag, takes_width_star, takes_width_digit, takes_period, takes_precision_star, takes_precision_digit, unfinished_stars}
use Rattle.printf_grammar.specs.Parts.{BeginsWithout, is_flag, BeginsWithFlags, BeginsWithWidth, BeginsWithPrecision, BeginsWithModifier, Converts, modifier_bytes, width_goes_on, precision_goes_on, modifier_goes_on, after_flags, after_width, grows, Stops, BeginsWithField, BeginsBroken}
use Rattle.printf_grammar.proofs.Sizes.{width_stars, precision_stars, stars_join}

-- ---- no part goes on

abbrev head_of : List ℕ → List ℕ → List ℕ → List ℕ → Head
head_of flags width precision modifier = record { flags = flags; width = width; precision = precision; modifier = modifier }

first_of : (s a b : Bool) → s ≡ false → (s && a && b) ≡ false
first_of s a b e = and_left _ _ (and_left s a e)

second_of : (s a b c : Bool) → a ≡ false → (s && a && b && c) ≡ false
second_of s a b c e = and_left _ _ (and_left _ _ (and_right s a e))

third_of : (s a b c : Bool) → b ≡ false → (s && a && b && c) ≡ false
third_of s a b c e = and_left _ _ (and_right (s && a) b e)

no_flag : (flags width precision modifier : List ℕ) (byte : ℕ) (rest : List ℕ) → BeginsWithout is_flag (width ++ (precision ++ (modifier ++ byte ∷ rest))) → takes_flag (head_of flags width precision modifier) byte ≡ false
no_flag flags [] [] [] byte rest ended = rw ended refl
no_flag flags (x ∷ width) precision modifier byte rest ended = second_of (is_flag byte) false (is_empty precision) (is_empty modifier) refl
no_flag flags [] (x ∷ precision) modifier byte rest ended = third_of (is_flag byte) true false (is_empty modifier) refl
no_flag flags [] [] (x ∷ modifier) byte rest ended = and_right (is_flag byte && true && true) false refl

-- a width that has ended takes no `*` and no digit
no_width : (flags width precision modifier : List ℕ) (byte : ℕ) (rest : List ℕ) → BeginsWithout (width_goes_on width) (precision ++ (modifier ++ byte ∷ rest))
    → (let head = head_of flags width precision modifier in (takes_width_star head byte ≡ false) × (takes_width_digit head byte ≡ false))
no_width flags width [] [] byte rest ended =
    let parts = or_parts (byte == 42 && is_empty width) (is_digit byte 10 && not (has_star width)) ended in
    (first_of (byte == 42 && is_empty width) true true parts.0, first_of (is_digit byte 10 && not (has_star width)) true true parts.1)
no_width flags width (x ∷ precision) modifier byte rest ended = (third_of (byte == 42) (is_empty width) false (is_empty modifier) refl, third_of (is_digit byte 10) (not (has_star width)) false (is_empty modifier) refl)
no_width flags width [] (x ∷ modifier) byte rest ended = (and_right (byte == 42 && is_empty width && true) false refl, and_right (is_digit byte 10 && not (has_star width) && true) false refl)

no_precision : (flags width precision modifier : List ℕ) (byte : ℕ) (rest : List ℕ) → BeginsWithout (precision_goes_on precision) (modifier ++ byte ∷ rest)
    → (let head = head_of flags width precision modifier in (takes_period head byte ≡ false) × (takes_precision_star head byte ≡ false) × (takes_precision_digit head byte ≡ false))
no_precision flags width precision [] byte rest ended =
    let period = byte == 46 && is_empty precision in
    let star = byte == 42 && is_only 46 precision in
    let digit = is_digit byte 10 && not (is_empty precision) && not (has_star precision) in
    let parts = or_parts (period || star) digit ended in
    let first = or_parts period star parts.0 in
    (and_left period true first.0, and_left star true first.1, and_left digit true parts.1)
no_precision flags width precision (x ∷ modifier) byte rest ended =
    (and_right (byte == 46 && is_empty precision) false refl, and_right (byte == 42 && is_only 46 precision) false refl, and_right (is_digit byte 10 && not (is_empty precision) && not (has_star precision)) false refl)

no_percent : (flags width precision modifier : List ℕ) (byte : ℕ) (rest : List ℕ) → BeginsWithout (λ b. b == 37) (flags ++ (width ++ (precision ++ (modifier ++ byte ∷ rest)))) → (byte == 37 && is_empty_head (head_of flags width precision modifier)) ≡ false
no_percent [] [] [] [] byte rest ended = and_left _ _ ended
no_percent (x ∷ flags) width precision modifier byte rest ended = and_right (byte == 37) _ refl
no_percent [] (x ∷ width) precision modifier byte rest ended = and_right (byte == 37) _ refl
no_percent [] [] (x ∷ precision) modifier byte rest ended = and_right (byte == 37) _ refl
no_percent [] [] [] (x ∷ modifier) byte rest ended = and_right (byte == 37) false refl

-- parts that are each as long as they can be
pub all_ended : (flags width precision modifier after : List ℕ) → BeginsWithout (λ b. b == 37) (flags ++ (width ++ (precision ++ (modifier ++ after)))) → BeginsWithout is_flag (width ++ (precision ++ (modifier ++ after)))
    → BeginsWithout (width_goes_on width) (precision ++ (modifier ++ after)) → BeginsWithout (precision_goes_on precision) (modifier ++ after) → BeginsWithout (modifier_goes_on modifier) after → BeginsWithout (grows (head_of flags width precision modifier)) after
all_ended flags width precision modifier [] percent flag sized precise modified = tt
all_ended flags width precision modifier (byte ∷ rest) percent flag sized precise modified =
    let width_ends = no_width flags width precision modifier byte rest sized in
    let precision_ends = no_precision flags width precision modifier byte rest precise in
    or_from _ _ (or_from _ _ (or_from _ _ (or_from _ _ (or_from _ _ (or_from _ _ (or_from _ _ (no_flag flags width precision modifier byte rest flag) width_ends.0) width_ends.1) precision_ends.0) precision_ends.1) precision_ends.2) modified) (no_percent flags width precision modifier byte rest percent)

-- ---- a break in a part is one of the field

-- the start of a head is what the bytes begin with, and one of its parts breaks behind it
pub stops_broken : (start : Head) (count taken : ℕ) (whole bytes : List ℕ) (cause : FormatCause) (rest : List ℕ) → Stops start count bytes cause rest → whole ≡ head_bytes start ++ bytes → count ≡ taken + unfinished_stars (Some start) → count ≤ 64
    → BeginsBroken taken whole cause rest
stops_broken start count taken whole bytes cause rest stops e counted few =
    let same : taken + unfinished_stars (Some stops.head) ≡ count = omega (arith, stops.stars) in
    record {
      head = Some stops.head;
      joined = e ∙ stops.joined;
      right = stops.right;
      few = omega arith;
      stops = rw same stops.stops;
    }

regroup_flags : (flags rest : List ℕ) → flags ++ rest ≡ (((flags ++ []) ++ []) ++ []) ++ rest
regroup_flags flags rest = simp append-nil

regroup_width : (flags width rest : List ℕ) → flags ++ (width ++ rest) ≡ (((flags ++ width) ++ []) ++ []) ++ rest
regroup_width flags width rest = simp (append-nil, append_assoc)

regroup : (flags width precision modifier rest : List ℕ) → flags ++ (width ++ (precision ++ (modifier ++ rest))) ≡ (((flags ++ width) ++ precision) ++ modifier) ++ rest
regroup flags width precision modifier rest = simp append_assoc

pub width_breaks : (taken : ℕ) (bytes behind : List ℕ) (flags : Flags) (cause : FormatCause) (rest : List ℕ) (begins : BeginsWithFlags bytes flags behind) → taken ≤ 64
    → ((front : List ℕ) → AllByRecursion IsFlag front → Stops (after_flags front) taken behind cause rest) → BeginsBroken taken (37 ∷ bytes) cause rest
width_breaks taken bytes behind flags cause rest begins few stops =
    let front = begins.front in
    stops_broken (after_flags front) taken taken (37 ∷ bytes) behind cause rest (stops front begins.are_flags) (ap (λ (all : List ℕ). 37 ∷ all) (begins.joined ∙ regroup_flags front behind)) (omega arith) few

pub precision_breaks : (taken : ℕ) (bytes behind after : List ℕ) (flags : Flags) (width : Size) (cause : FormatCause) (rest : List ℕ) (begins : BeginsWithFlags bytes flags behind) (sized : BeginsWithWidth behind width after)
    → taken + length (size_types types.Width width) ≤ 64
    → ((front front_width : List ℕ) (size : Size) → AllByRecursion IsFlag front → SpellsWidth front_width size → Stops (after_width front front_width) (taken + length (size_types types.Width width)) after cause rest)
    → BeginsBroken taken (37 ∷ bytes) cause rest
precision_breaks taken bytes behind after flags width cause rest begins sized few stops =
    let front = begins.front in
    let front_width = sized.width in
    let joined : bytes ≡ front ++ (front_width ++ after) = begins.joined ∙ ap (λ (back : List ℕ). front ++ back) sized.joined in
    let stars : unfinished_stars (Some (after_width front front_width)) ≡ length (size_types types.Width width) = stars_join front_width [] ∙ omega (arith, width_stars types.Width front_width width sized.spelled) in
    stops_broken (after_width front front_width) _ taken (37 ∷ bytes) after cause rest (stops front front_width width begins.are_flags sized.spelled) (ap (λ (all : List ℕ). 37 ∷ all) (joined ∙ regroup_width front front_width after)) (omega (arith, stars)) few

-- ---- a whole head

is_modifier : (modifier : Modifier) → IsModifier (modifier_bytes modifier)
is_modifier (Known length) = inl (length, refl)
is_modifier LongDouble = inr refl

-- the parts of a field up to its length, in order
pub record Parts (bytes : List ℕ) (flags : Flags) (width precision : Size) (modifier : Modifier) (after : List ℕ) : Type 0 where
  pub behind : List ℕ
  pub behind_width : List ℕ
  pub behind_precision : List ℕ
  pub flagged : BeginsWithFlags bytes flags behind
  pub sized : BeginsWithWidth behind width behind_width
  pub precise : BeginsWithPrecision behind_width precision behind_precision
  pub modified : BeginsWithModifier behind_precision modifier after

pub parts_of : {bytes behind behind_width behind_precision after : List ℕ} {flags : Flags} {width precision : Size} {modifier : Modifier}
    → BeginsWithFlags bytes flags behind → BeginsWithWidth behind width behind_width → BeginsWithPrecision behind_width precision behind_precision → BeginsWithModifier behind_precision modifier after
    → Parts bytes flags width precision modifier after
parts_of {behind = behind} {behind_width = behind_width} {behind_precision = behind_precision} flagged sized precise modified =
    record { behind = behind; behind_width = behind_width; behind_precision = behind_precision; flagged = flagged; sized = sized; precise = precise; modified = modified }

abbrev parts_head : {bytes : List ℕ} {flags : Flags} {width precision : Size} {modifier : Modifier} {after : List ℕ} → Parts bytes flags width precision modifier after → Head
parts_head {modifier = modifier} parts = head_of parts.flagged.front parts.sized.width parts.precise.precision (modifier_bytes modifier)

parts_joined : (bytes : List ℕ) (flags : Flags) (width precision : Size) (modifier : Modifier) (after : List ℕ) (parts : Parts bytes flags width precision modifier after)
    → bytes ≡ parts.flagged.front ++ (parts.sized.width ++ (parts.precise.precision ++ (modifier_bytes modifier ++ after)))
parts_joined bytes flags width precision modifier after parts =
    parts.flagged.joined ∙ ap (λ (back : List ℕ). parts.flagged.front ++ back) (parts.sized.joined ∙ ap (λ (back : List ℕ). parts.sized.width ++ back) (parts.precise.joined ∙ ap (λ (back : List ℕ). parts.precise.precision ++ back) parts.modified.joined))

parts_right : (bytes : List ℕ) (flags : Flags) (width precision : Size) (modifier : Modifier) (after : List ℕ) (parts : Parts bytes flags width precision modifier after) → IsHead (parts_head parts)
parts_right bytes flags width precision modifier after parts = record { flags = parts.flagged.are_flags; width = (width, parts.sized.spelled); precision = (precision, parts.precise.spelled); modifier = is_modifier modifier }

parts_stars : (bytes : List ℕ) (flags : Flags) (width precision : Size) (modifier : Modifier) (after : List ℕ) (parts : Parts bytes flags width precision modifier after)
    → unfinished_stars (Some (parts_head parts)) ≡ length (size_types types.Width width) + length (size_types types.Precision precision)
parts_stars bytes flags width precision modifier after parts =
    stars_join parts.sized.width parts.precise.precision ∙ omega (arith, width_stars types.Width parts.sized.width width parts.sized.spelled, precision_stars types.Precision parts.precise.precision precision parts.precise.spelled)

-- nothing goes on with the head
parts_ended : (bytes : List ℕ) (flags : Flags) (width precision : Size) (modifier : Modifier) (after : List ℕ) (parts : Parts bytes flags width precision modifier after) → BeginsWithout (λ byte. byte == 37) bytes
    → BeginsWithout (grows (parts_head parts)) after
parts_ended bytes flags width precision modifier after parts percent =
    let precise_joined = parts.precise.joined ∙ ap (λ (back : List ℕ). parts.precise.precision ++ back) parts.modified.joined in
    let sized_joined = parts.sized.joined ∙ ap (λ (back : List ℕ). parts.sized.width ++ back) precise_joined in
    all_ended parts.flagged.front parts.sized.width parts.precise.precision (modifier_bytes modifier) after
    (subst (BeginsWithout (λ byte. byte == 37)) (parts_joined bytes flags width precision modifier after parts) percent)
    (subst (BeginsWithout is_flag) sized_joined parts.flagged.ended)
    (subst (BeginsWithout (width_goes_on parts.sized.width)) precise_joined parts.sized.ended)
    (subst (BeginsWithout (precision_goes_on parts.precise.precision)) parts.modified.joined parts.precise.ended)
    parts.modified.ended

pub conversion_breaks : (taken : ℕ) (bytes : List ℕ) (flags : Flags) (width precision : Size) (modifier : Modifier) (after : List ℕ) (cause : FormatCause) (rest : List ℕ) (parts : Parts bytes flags width precision modifier after) (count : ℕ)
    → BeginsWithout (λ byte. byte == 37) bytes → count ≡ taken + length (size_types types.Width width) + length (size_types types.Precision precision) → count ≤ 64
    → ((head : Head) → IsHead head → head.modifier ≡ modifier_bytes modifier → BeginsWithout (grows head) after → Stops head count after cause rest)
    → BeginsBroken taken (37 ∷ bytes) cause rest
conversion_breaks taken bytes flags width precision modifier after cause rest parts count percent counted few stops =
    let head = parts_head parts in
    let joined = parts_joined bytes flags width precision modifier after parts ∙ regroup parts.flagged.front parts.sized.width parts.precise.precision (modifier_bytes modifier) after in
    stops_broken head count taken (37 ∷ bytes) after cause rest
    (stops head (parts_right bytes flags width precision modifier after parts) refl (parts_ended bytes flags width precision modifier after parts percent))
    (ap (λ (all : List ℕ). 37 ∷ all) joined) (omega (arith, parts_stars bytes flags width precision modifier after parts)) few

abbrev pub spec_of : Flags → Size → Size → Length → Conversion → Spec
spec_of flags width precision length conversion = record { minus = flags.minus; plus = flags.plus; space = flags.space; sharp = flags.sharp; zero = flags.zero; width = width; precision = precision; length = length; conversion = conversion }

pub field_found : (taken : ℕ) (bytes : List ℕ) (flags : Flags) (width precision : Size) (modifier : Modifier) (after rest : List ℕ) (parts : Parts bytes flags width precision modifier after) (count byte : ℕ) (size : Length) (conversion : Conversion)
    → count ≡ taken + length (size_types types.Width width) + length (size_types types.Precision precision) → after ≡ byte ∷ rest → Converts count modifier byte size conversion
    → BeginsWithField taken (37 ∷ bytes) (spec_of flags width precision size conversion) rest
field_found taken bytes flags width precision modifier after rest parts count byte size conversion counted e converts =
    let flagged = parts.flagged in
    let front = flagged.front ++ parts.sized.width ++ parts.precise.precision ++ length_bytes size ++ conversion_byte conversion ∷ [] in
    let modifier_is : modifier_bytes modifier ≡ length_bytes size = ap modifier_bytes converts.modifier_is in
    let last : modifier_bytes modifier ++ after ≡ length_bytes size ++ (conversion_byte conversion ∷ rest) = rw (modifier_is, e, converts.byte_is) refl in
    let joined = parts_joined bytes flags width precision modifier after parts ∙ ap (λ (back : List ℕ). flagged.front ++ (parts.sized.width ++ (parts.precise.precision ++ back))) last in
    record {
      front = 37 ∷ front;
      joined = ap (λ (all : List ℕ). 37 ∷ all) (joined ∙ regroup_all flagged.front parts.sized.width parts.precise.precision (length_bytes size) (conversion_byte conversion) rest);
      spelled = record {
        flags = flagged.front;
        width = parts.sized.width;
        precision = parts.precise.precision;
        whole = refl;
        flags_spelled = record { flags = flagged.are_flags; minus = flagged.minus; plus = flagged.plus; space = flagged.space; sharp = flagged.sharp; zero = flagged.zero };
        width_spelled = parts.sized.spelled;
        precision_spelled = parts.precise.spelled;
        takes_length = converts.takes;
      };
      few = let sum = length-append (size_types types.Width width) (size_types types.Precision precision) in let more = length-append (size_types types.Width width ++ size_types types.Precision precision) (conversion_type conversion size ∷ []) in omega (arith, converts.few, counted);
    }
  where
    regroup_all : (flags width precision modifier : List ℕ) (byte : ℕ) (rest : List ℕ) → flags ++ (width ++ (precision ++ (modifier ++ (byte ∷ rest)))) ≡ ((((flags ++ width) ++ precision) ++ modifier) ++ (byte ∷ [])) ++ rest
    regroup_all flags width precision modifier byte rest = simp append_assoc
