-- Arguments that words begin with, and arguments one behind another.
use Rattle.std.proofs.Common.{◌≡◌, ℕ, ◌+◌, ◌*◌, ◌/◌, ◌%◌, ◌^◌, ◌<◌, ◌≤◌, List, [], ◌∷◌, ◌++◌, length, take, drop, get_or, refl, sym, ap, subst, ◌∙◌, arith}
use Rattle.std.specs.Prelude.{All}
use Rattle.std.specs.List.{flat_map}
use Rattle.std.proofs.lemmas.List.{length-append, length-take-le, take-append-drop, take_at}
use Rattle.std.proofs.lemmas.List.Concat.{flat_map-cons}
use Rattle.std.proofs.lemmas.List.Elements.{All-nil, All-cons, All-head, All-tail, All-take, All-from_recursion, recursion_from_All}
use Rattle.printf_grammar.specs.declared.arg_type.ArgType.{ArgType}
use Rattle.printf_grammar.specs.declared.arg_type.ArgType.TheVariants as types
use Rattle.printf_grammar.specs.declared.argument.Value.{Value}
use Rattle.printf_grammar.specs.declared.argument.Value.TheVariants as values
use Rattle.printf_grammar.specs.Types.{IsText}
use Rattle.arg_records.specs.Frames.{words_of_bytes, words_of_argument, FrameLen}
use Rattle.arg_records.specs.Kinds.{HoldsBytes}
use Rattle.arg_records.specs.Reading.{IsFrameOf, SpellsArguments, BeginsWithWordsOf, bytes_of_words, IsPadded}
use Rattle.arg_records.proofs.lemmas.Lengths.{length-words_of_bytes, length-arguments, length-Frame, some_words}
use Rattle.arg_records.proofs.Unique.{argument_same}
use Rattle.arg_records.proofs.lemmas.Fitted.{kind_fits, argument_fits, AreArguments-from_Fits, Frame-unique-Fits}
use Rattle.arg_records.proofs.lemmas.TextWords.{bytes_below, length-bytes_of_words, padded_words, text_padded}

-- ---- texts

-- the text that words begin with, in parts
pub record TextParts (words : List ℕ) (value : Value) (back : List ℕ) : Type 0 where
  pub bytes : List ℕ
  pub value_is : value ≡ values.Text bytes
  pub is_text : IsText bytes
  pub below : All (λ byte. byte < 256) bytes
  pub parts : words ≡ length bytes ∷ (words_of_bytes bytes ++ back)

pub text_parts : (words : List ℕ) (value : Value) (back : List ℕ) → BeginsWithWordsOf types.Text words value back → TextParts words value back
text_parts words (values.Text bytes) back begins = record { bytes = bytes; value_is = refl; is_text = begins.fits; below = begins.bytes; parts = begins.parts }
text_parts words (values.Signed z) back begins = absurd begins.fits
text_parts words (values.Unsigned n) back begins = absurd begins.fits

-- how many words there are behind the first one
pub text_room : (words rest : List ℕ) (first : ℕ) (value : Value) (back : List ℕ) → BeginsWithWordsOf types.Text words value back → words ≡ first ∷ rest → (first ≤ 4000) × ((first + 7) / 8 ≤ length rest)
text_room words rest first value back begins is =
    let it = text_parts words value back begins in
    let len : first ≡ length it.bytes = let e = sym is ∙ it.parts in cc in
    let others : rest ≡ words_of_bytes it.bytes ++ back = let e = sym is ∙ it.parts in cc in
    (omega (arith, it.is_text.short, len), omega (arith, len, ap length others, length-append (words_of_bytes it.bytes) back, length-words_of_bytes it.bytes))

-- they are padded
pub text_holds : (words rest text : List ℕ) (first count : ℕ) (value : Value) (back : List ℕ) → All (λ w. w < 2 ^ 64) rest → BeginsWithWordsOf types.Text words value back → words ≡ first ∷ rest → count ≡ (first + 7) / 8 → text ≡ take count rest
    → IsPadded first (bytes_of_words text)
text_holds words rest text first count value back below begins is count_is text_is =
    let it = text_parts words value back begins in
    let len : length it.bytes ≡ first = let e = sym is ∙ it.parts in cc in
    let others : rest ≡ words_of_bytes it.bytes ++ back = let e = sym is ∙ it.parts in cc in
    let front : text ≡ words_of_bytes it.bytes = text_is ∙ ap (take count) others ∙ take_at (words_of_bytes it.bytes) back count (omega (arith, length-words_of_bytes it.bytes)) in
    let here : All (λ w. w < 2 ^ 64) text = subst (All (λ w. w < 2 ^ 64)) (sym text_is) (All-take (λ (w : ℕ). w < 2 ^ 64) count rest below) in
    let padded = text_padded it.bytes it.below (All-from_recursion (λ (b : ℕ). b ≡ 0 → ⊥) it.bytes it.is_text.no_nul) (subst (All (λ w. w < 2 ^ 64)) front here) in
    subst (λ (ws : List ℕ). IsPadded first (bytes_of_words ws)) (sym front) (subst (λ (n : ℕ). IsPadded n (bytes_of_words (words_of_bytes it.bytes))) len padded)

-- padded words are those of a text
pub text_made : (words rest text back : List ℕ) (first count : ℕ) → All (λ w. w < 2 ^ 64) rest → words ≡ first ∷ rest → first ≤ 4000 → count ≡ (first + 7) / 8 → count ≤ length rest → text ≡ take count rest → back ≡ drop count rest
    → IsPadded first (bytes_of_words text) → BeginsWithWordsOf types.Text words (values.Text (take first (bytes_of_words text))) back
text_made words rest text back first count below is short count_is room text_is back_is padded =
    let bytes : List ℕ = take first (bytes_of_words text) in
    let here : All (λ w. w < 2 ^ 64) text = subst (All (λ w. w < 2 ^ 64)) (sym text_is) (All-take (λ (w : ℕ). w < 2 ^ 64) count rest below) in
    let many : length text ≡ count = ap length text_is ∙ length-take-le count rest room in
    let len : length bytes ≡ first = length-take-le first (bytes_of_words text) (omega (arith, length-bytes_of_words text)) in
    let again : words_of_bytes bytes ≡ text = padded_words text first here (omega arith) (omega arith) padded in
    record {
      fits = record { short = omega (arith, len, short); no_nul = recursion_from_All (λ (b : ℕ). b ≡ 0 → ⊥) bytes padded.no_nul };
      bytes = All-take (λ (b : ℕ). b < 256) first (bytes_of_words text) (bytes_below text);
      parts = is
          ∙ ap (λ (ws : List ℕ). first ∷ ws) (sym (take-append-drop count rest))
          ∙ ap (λ (ws : List ℕ). first ∷ (ws ++ drop count rest)) (sym text_is ∙ sym again)
          ∙ ap (λ (ws : List ℕ). first ∷ (words_of_bytes bytes ++ ws)) (sym back_is)
          ∙ ap (λ (n : ℕ). n ∷ (words_of_bytes bytes ++ back)) (sym len);
    }

-- ---- arguments

-- words begin with one argument of a type
pub BeginsWithWordsOf-unique : (type : ArgType) (words : List ℕ) (v w : Value) (vs ws : List ℕ) → BeginsWithWordsOf type words v vs → BeginsWithWordsOf type words w ws → (v ≡ w) × (vs ≡ ws)
BeginsWithWordsOf-unique type words v w vs ws left right =
    argument_same v w vs ws (kind_fits v type left.fits ∙ sym (kind_fits w type right.fits)) (argument_fits v type left.fits left.bytes) (argument_fits w type right.fits right.bytes) (sym left.parts ∙ right.parts)

-- there is a first word
pub argument_room : (type : ArgType) (words : List ℕ) (value : Value) (back : List ℕ) → BeginsWithWordsOf type words value back → 0 < length words
argument_room type words value back begins = omega (arith, ap length begins.parts, length-append (words_of_argument value) back, some_words value)

-- ---- one argument behind another

-- where arguments are spelled, the first one is, and then the others
pub first_spelled : (type : ArgType) (types : List ArgType) (args : List Value) (words : List ℕ) → SpellsArguments (type ∷ types) args words
    → (value : Value) × (more : List Value) × (args ≡ value ∷ more) × BeginsWithWordsOf type words value (flat_map words_of_argument more) × SpellsArguments types more (flat_map words_of_argument more)
first_spelled type types [] words spelled = absurd spelled.fits
first_spelled type types (value ∷ args) words spelled = (
  value,
  args,
  refl,
  record { fits = spelled.fits.0; bytes = All-head HoldsBytes value args spelled.bytes; parts = spelled.is ∙ flat_map-cons words_of_argument value args },
  record { fits = spelled.fits.1; bytes = All-tail HoldsBytes value args spelled.bytes; is = refl },
)

pub one_more_spelled : (type : ArgType) (types : List ArgType) (value : Value) (args : List Value) (words back : List ℕ) → BeginsWithWordsOf type words value back → SpellsArguments types args back → SpellsArguments (type ∷ types) (value ∷ args) words
one_more_spelled type types value args words back begins spelled = record {
  fits = (begins.fits, spelled.fits);
  bytes = All-cons HoldsBytes value args begins.bytes spelled.bytes;
  is = begins.parts ∙ ap (λ (ws : List ℕ). words_of_argument value ++ ws) spelled.is ∙ sym (flat_map-cons words_of_argument value args);
}

-- behind an argument that words begin with, the others are spelled
pub others_spelled : (type : ArgType) (types : List ArgType) (value : Value) (args : List Value) (words back : List ℕ) → BeginsWithWordsOf type words value back → SpellsArguments (type ∷ types) args words → (more : List Value) × (args ≡ value ∷ more) × SpellsArguments types more back
others_spelled type types value args words back begins spelled =
    let it = first_spelled type types args words spelled in
    let same = BeginsWithWordsOf-unique type words it.0 value (flat_map words_of_argument it.1) back it.3 begins in
    (it.1, it.2 ∙ ap (λ (v : Value). v ∷ it.1) same.0, subst (SpellsArguments types it.1) same.1 it.4)

-- no arguments take no words
pub none_spelled : (words : List ℕ) → words ≡ [] → SpellsArguments [] [] words
none_spelled words is = record { fits = tt; bytes = All-nil HoldsBytes; is = is }

pub none_left : (args : List Value) (words : List ℕ) → SpellsArguments [] args words → (args ≡ []) × (words ≡ [])
none_left [] words spelled = (refl, spelled.is)
none_left (value ∷ args) words spelled = absurd spelled.fits

-- ---- frames

-- what is judged of a frame in front of its arguments, and they themselves
pub record FrameParts (types : List ArgType) (args : List Value) (words : List ℕ) : Type 0 where
  pub some : 2 ≤ length words
  pub within : length words ≤ 512
  pub id_in_range : get_or words 0 0 / 65536 ≤ 65535
  pub len_is : get_or words 0 0 % 65536 ≡ length words
  pub spelled : SpellsArguments types args (drop 2 words)

pub frame_parts : (types : List ArgType) (args : List Value) (words : List ℕ) → IsFrameOf types args words → FrameParts types args words
frame_parts types args words is =
    let long : length words ≡ FrameLen args = ap length is.is ∙ length-Frame is.id is.stamp args in
    let first : get_or words 0 0 ≡ is.id * 65536 + FrameLen args = ap (λ (ws : List ℕ). get_or ws 0 0) is.is in
    record {
      some = omega (arith, long);
      within = omega (arith, long, is.staged.within);
      id_in_range = omega (arith, first, is.staged.within, is.staged.id_in_range);
      len_is = omega (arith, first, long, is.staged.within);
      spelled = record { fits = is.fits; bytes = is.bytes; is = ap (drop 2) is.is };
    }

pub frame_made : (types : List ArgType) (args : List Value) (words : List ℕ) → length types ≤ 64 → All (λ w. w < 2 ^ 64) words → FrameParts types args words → IsFrameOf types args words
frame_made types args [] few below parts = absurd (omega (arith, parts.some))
frame_made types args (first ∷ []) few below parts = absurd (omega (arith, parts.some))
frame_made types args (first ∷ stamp ∷ rest) few below parts =
    let spelled = parts.spelled in
    let len : length (first ∷ stamp ∷ rest) ≡ FrameLen args = omega (arith, ap length spelled.is, length-arguments args) in
    let head : first ≡ first / 65536 * 65536 + FrameLen args = omega (arith, parts.len_is, len) in
    let stamp_below : stamp < 2 ^ 64 = All-head (λ (w : ℕ). w < 2 ^ 64) stamp rest (All-tail (λ (w : ℕ). w < 2 ^ 64) first (stamp ∷ rest) below) in
    record {
      id = first / 65536;
      stamp = stamp;
      staged = record {
        id_in_range = omega (arith, parts.id_in_range);
        stamp_in_range = stamp_below;
        arguments = AreArguments-from_Fits args types spelled.fits few;
        within = omega (arith, len, parts.within);
      };
      fits = spelled.fits;
      bytes = spelled.bytes;
      is = ap (λ (w : ℕ). w ∷ stamp ∷ rest) head ∙ ap (λ (ws : List ℕ). (first / 65536 * 65536 + FrameLen args) ∷ stamp ∷ ws) spelled.is;
    }

-- words are the frame of one list of arguments
pub IsFrameOf-unique : (types : List ArgType) (a b : List Value) (words : List ℕ) → IsFrameOf types a words → IsFrameOf types b words → a ≡ b
IsFrameOf-unique types a b words left right =
    (Frame-unique-Fits types left.id right.id left.stamp right.stamp a b left.fits right.fits left.bytes right.bytes (sym left.is ∙ right.is)).2
