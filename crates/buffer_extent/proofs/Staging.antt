-- Texts as words, and the words as bytes again.
use Rattle.std.proofs.Common.{◌≡◌, ℕ, ◌+◌, ◌-◌, ◌*◌, ◌<◌, ◌≤◌, List, [], ◌∷◌, ◌++◌, length, take, drop, get_or, min, refl, sym, ap, subst, ◌∙◌, append_assoc, arith}
use Rattle.std.specs.Prelude.{replicate}
use Rattle.std.specs.Int.{bytes_low_first}
use Rattle.std.specs.List.{flat_map}
use Rattle.std.proofs.lemmas.List.{length-append, length-take-le, drop_more, drop_all, take_at, drop_at, take_rest, nil_from_length}
use Rattle.std.proofs.lemmas.List.Elements.{All-take, All-drop}
use Rattle.std.proofs.Math.Seq.{take-append-add}
use Rattle.printf_grammar.specs.declared.arg_type.ArgType.{ArgType}
use Rattle.printf_grammar.specs.declared.arg_type.ArgType.TheVariants as argument_types
use Rattle.printf_grammar.specs.declared.argument.Value.{Value}
use Rattle.printf_grammar.specs.declared.argument.Value.TheVariants as values
use Rattle.printf_grammar.specs.Types.{FitsType, text_of}
use Rattle.printf_grammar.proofs.lemmas.Fitting.{Fits-length}
use Rattle.arg_records.specs.Frames.{words_of_bytes, words_of_argument, words_of_text, argument_words}
use Rattle.arg_records.specs.Kinds.{HoldsBytes}
use Rattle.arg_records.specs.Places.{with_words}
use Rattle.arg_records.proofs.lemmas.Places.{words_first, no_words}
use Rattle.arg_records.proofs.lemmas.Lengths.{length-words_of_argument}
use Rattle.nibble_pack.specs.Bytes.{AreBytes, number_of_bytes, length-bytes_low_first, number_of_bytes-lt, low_first-number_of_bytes, bytes_low_first-zeros}
use Rattle.arg_records.specs.Reading.{bytes_of_words}
use Rattle.arg_records.proofs.lemmas.TextWords.{take_both}
use Rattle.buffer_extent.specs.Writing.{AreWordsOf, BeginsWithWords}
use Rattle.buffer_extent.proofs.Packing.{no_value}

-- the bytes of a word that at most eight bytes are, and zeros
bytes_again : (bytes : List ℕ) → length bytes ≤ 8 → AreBytes bytes → bytes_low_first 0 8 (number_of_bytes bytes) ≡ bytes ++ replicate (8 - length bytes) 0
bytes_again bytes short are =
    let padded = bytes_low_first-zeros (length bytes) (8 - length bytes) 8 (number_of_bytes bytes) (omega arith) (number_of_bytes-lt bytes are) in
    padded ∙ ap (λ (front : List ℕ). front ++ replicate (8 - length bytes) 0) (low_first-number_of_bytes bytes are)

-- at most eight bytes, from their word
short_again : (bytes more : List ℕ) → length bytes ≤ 8 → AreBytes bytes → take (length bytes) (bytes_low_first 0 8 (number_of_bytes bytes) ++ more) ≡ bytes
short_again bytes more short are =
    ap (λ (front : List ℕ). take (length bytes) (front ++ more)) (bytes_again bytes short are)
    ∙ ap (take (length bytes)) (append_assoc bytes (replicate (8 - length bytes) 0) more)
    ∙ take_at bytes (replicate (8 - length bytes) 0 ++ more) (length bytes) refl

-- the bytes of a text, from its words
pub text_again : (text : List ℕ) → AreBytes text → take (length text) (bytes_of_words (words_of_bytes text)) ≡ text
text_again [] are = refl
text_again (a ∷ []) are = short_again (a ∷ []) [] (omega arith) are
text_again (a ∷ b ∷ []) are = short_again (a ∷ b ∷ []) [] (omega arith) are
text_again (a ∷ b ∷ c ∷ []) are = short_again (a ∷ b ∷ c ∷ []) [] (omega arith) are
text_again (a ∷ b ∷ c ∷ d ∷ []) are = short_again (a ∷ b ∷ c ∷ d ∷ []) [] (omega arith) are
text_again (a ∷ b ∷ c ∷ d ∷ e ∷ []) are = short_again (a ∷ b ∷ c ∷ d ∷ e ∷ []) [] (omega arith) are
text_again (a ∷ b ∷ c ∷ d ∷ e ∷ f ∷ []) are = short_again (a ∷ b ∷ c ∷ d ∷ e ∷ f ∷ []) [] (omega arith) are
text_again (a ∷ b ∷ c ∷ d ∷ e ∷ f ∷ g ∷ []) are = short_again (a ∷ b ∷ c ∷ d ∷ e ∷ f ∷ g ∷ []) [] (omega arith) are
text_again (a ∷ b ∷ c ∷ d ∷ e ∷ f ∷ g ∷ h ∷ text) are =
    let eight : List ℕ = a ∷ b ∷ c ∷ d ∷ e ∷ f ∷ g ∷ h ∷ [] in
    let here = bytes_again eight (omega arith) (All-take (λ b. b < 256) 8 (a ∷ b ∷ c ∷ d ∷ e ∷ f ∷ g ∷ h ∷ text) are) in
    let others = text_again text (All-drop (λ b. b < 256) 8 (a ∷ b ∷ c ∷ d ∷ e ∷ f ∷ g ∷ h ∷ text) are) in
    let long : length (a ∷ b ∷ c ∷ d ∷ e ∷ f ∷ g ∷ h ∷ text) ≡ length eight + length text = omega arith in
    ap (λ (n : ℕ). take n (bytes_of_words (words_of_bytes (a ∷ b ∷ c ∷ d ∷ e ∷ f ∷ g ∷ h ∷ text)))) long ∙ ap (λ (front : List ℕ). take (length eight + length text) (front ++ bytes_of_words (words_of_bytes text))) here ∙ take-append-add eight (bytes_of_words (words_of_bytes text)) (length text) ∙ ap (λ (t : List ℕ). eight ++ t) others

-- ---- words that are written one behind another

-- the first bytes of a word were written, and those of the others are left
pub word_written : (body new : List ℕ) (end behind left count word : ℕ) (words : List ℕ) → new ≡ with_words body end (take count (bytes_low_first 0 8 word)) → behind ≡ end + count → count ≡ min left 8 → end ≤ length body
    → with_words new behind (take (left - count) (bytes_of_words words)) ≡ with_words body end (take left (bytes_of_words (word ∷ words)))
word_written body new end behind left count word words written is count_is inside =
    let eight : List ℕ = bytes_low_first 0 8 word in
    let front : List ℕ = take count eight in
    let rest : List ℕ = take (left - count) (bytes_of_words words) in
    let long = length-bytes_low_first 0 8 word in
    let front_long = length-take-le count eight (omega arith) in
    ap (λ (b : List ℕ). with_words b behind rest) written
    ∙ words_first body end behind front rest (omega arith) inside
    ∙ ap (with_words body end) (sym (take_both left count eight (bytes_of_words words) long count_is))

-- ---- arguments

-- an argument of the type of texts is a text
pub is_text : (type : ArgType) (value : Value) → type ≡ argument_types.Text → FitsType value type → (text : List ℕ) × (value ≡ values.Text text)
is_text argument_types.Text (values.Text bytes) is fits = (bytes, refl)
is_text argument_types.Text (values.Signed z) is fits = absurd fits
is_text argument_types.Text (values.Unsigned n) is fits = absurd fits
is_text argument_types.Int value is fits = cc
is_text argument_types.UInt value is fits = cc
is_text argument_types.Long value is fits = cc
is_text argument_types.ULong value is fits = cc
is_text argument_types.Width value is fits = cc
is_text argument_types.Precision value is fits = cc

-- an argument of another type has no text
pub no_text : (type : ArgType) (value : Value) → (type ≡ argument_types.Text → ⊥) → FitsType value type → text_of value ≡ []
no_text type (values.Signed z) other fits = refl
no_text type (values.Unsigned n) other fits = refl
no_text argument_types.Text (values.Text bytes) other fits = absurd (other refl)
no_text _ (values.Text bytes) other fits = absurd fits

-- and its words are one
pub one_word : (type : ArgType) (value : Value) → (type ≡ argument_types.Text → ⊥) → FitsType value type → argument_words value ≡ 1
one_word type (values.Signed z) other fits = refl
one_word type (values.Unsigned n) other fits = refl
one_word argument_types.Text (values.Text bytes) other fits = absurd (other refl)
one_word _ (values.Text bytes) other fits = absurd fits

-- the words of an argument at the front are those that it takes
pub front_split : (type : ArgType) (words : List ℕ) (value : Value) (more front back : List ℕ) (len : ℕ) → BeginsWithWords type words value more → len ≡ argument_words value → front ≡ take len words → back ≡ drop len words
    → (front ≡ words_of_argument value) × (back ≡ more)
front_split type words value more front back len begins is front_is back_is =
    let long : length (words_of_argument value) ≡ len = length-words_of_argument value ∙ sym is in
    (front_is ∙ ap (take len) begins.is ∙ take_at (words_of_argument value) more len long, back_is ∙ ap (drop len) begins.is ∙ drop_at (words_of_argument value) more len long)

-- they are all there
pub front_room : (type : ArgType) (words : List ℕ) (value : Value) (more : List ℕ) → BeginsWithWords type words value more → argument_words value ≤ length words
front_room type words value more begins = omega (arith, ap length begins.is, length-append (words_of_argument value) more, length-words_of_argument value)

-- the first word of a text is its length
pub text_first : (type : ArgType) (words : List ℕ) (value : Value) (more : List ℕ) → BeginsWithWords type words value more → type ≡ argument_types.Text → argument_words value ≡ words_of_text (get_or words 0 0)
text_first type words value more begins is =
    let it = is_text type value is begins.fits in
    let first : words ≡ length it.0 ∷ (words_of_bytes it.0 ++ more) = begins.is ∙ ap (λ (v : Value). words_of_argument v ++ more) it.1 in
    ap argument_words it.1 ∙ ap (λ (ws : List ℕ). words_of_text (get_or ws 0 0)) (sym first)

-- The texts of the arguments in front of a place were written, and these words are left.
pub record ArePutSoFar (args : List Value) (old body : List ℕ) (at end place : ℕ) (rest : List ℕ) : Type 0 where
  pub rest_is : rest ≡ flat_map words_of_argument (drop place args)
  pub places : end + length (flat_map text_of (drop place args)) ≡ at + length (flat_map text_of args)
  pub written : with_words body end (flat_map text_of (drop place args)) ≡ with_words old at (flat_map text_of args)

-- the texts from a place on
texts_from : (args : List Value) (place : ℕ) → place < length args → flat_map text_of (drop place args) ≡ text_of (get_or args place no_value) ++ flat_map text_of (drop (place + 1) args)
texts_from args place within = ap (flat_map text_of) (drop_more args place no_value within)

-- the room that is left for the text of the argument at a place
pub text_room : (args : List Value) (old body : List ℕ) (at end place : ℕ) (rest : List ℕ) → ArePutSoFar args old body at end place rest → place < length args → end + length (text_of (get_or args place no_value)) ≤ at + length (flat_map text_of args)
text_room args old body at end place rest so_far within =
    omega (arith, so_far.places, ap length (texts_from args place within), length-append (text_of (get_or args place no_value)) (flat_map text_of (drop (place + 1) args)))

-- one text more was written
pub one_put : (args : List Value) (old body new : List ℕ) (at end behind place : ℕ) (rest more : List ℕ) → ArePutSoFar args old body at end place rest → place < length args → end ≤ length body
    → new ≡ with_words body end (text_of (get_or args place no_value)) → behind ≡ end + length (text_of (get_or args place no_value)) → more ≡ flat_map words_of_argument (drop (place + 1) args)
    → ArePutSoFar args old new at behind (place + 1) more
one_put args old body new at end behind place rest more so_far within inside written is more_is =
    let text : List ℕ = text_of (get_or args place no_value) in
    let others : List ℕ = flat_map text_of (drop (place + 1) args) in
    let from = texts_from args place within in
    record {
      rest_is = more_is;
      places = omega (arith, so_far.places, ap length from, length-append text others);
      written = ap (λ (b : List ℕ). with_words b behind others) written ∙ words_first body end behind text others (sym is) inside ∙ ap (with_words body end) (sym from) ∙ so_far.written;
    }

-- all texts were written
pub all_put : (args : List Value) (old body : List ℕ) (at end place : ℕ) (rest : List ℕ) → ArePutSoFar args old body at end place rest → length args ≤ place → (body ≡ with_words old at (flat_map text_of args)) × (end ≡ at + length (flat_map text_of args))
all_put args old body at end place rest so_far past =
    let none : flat_map text_of (drop place args) ≡ [] = ap (flat_map text_of) (drop_all place args past) in
    (sym (no_words body end) ∙ ap (with_words body end) (sym none) ∙ so_far.written, omega (arith, so_far.places, ap length none))

-- an argument has a word, and one for every eight bytes of its text
text_in_words : (value : Value) → length (text_of value) + 8 ≤ 8 * length (words_of_argument value)
text_in_words (values.Signed z) = omega arith
text_in_words (values.Unsigned n) = omega arith
text_in_words (values.Text bytes) = omega (arith, length-words_of_argument (values.Text bytes))

texts_in_words : (args : List Value) → length (flat_map text_of args) + 8 * length args ≤ 8 * length (flat_map words_of_argument args)
texts_in_words [] = omega arith
texts_in_words (arg ∷ args) =
    omega (arith, text_in_words arg, texts_in_words args, length-append (text_of arg) (flat_map text_of args), length-append (words_of_argument arg) (flat_map words_of_argument args))

-- so no text has a byte where there is one word for each argument
pub no_texts : (types : List ArgType) (args : List Value) (words : List ℕ) → AreWordsOf types args words → length words ≡ length types → flat_map text_of args ≡ []
no_texts types args words are same = nil_from_length (flat_map text_of args) (omega (arith, texts_in_words args, ap length are.is, Fits-length args types are.fits))

-- ---- one text

-- a text has room in the words behind its length
pub text_within : (type : ArgType) (words : List ℕ) (value : Value) → type ≡ argument_types.Text → FitsType value type → words ≡ words_of_argument value → get_or words 0 0 ≤ 8 * length (take (length words - 1) (drop 1 words))
text_within type words value text fits is =
    let it = is_text type value text fits in
    let whole : words ≡ length it.0 ∷ words_of_bytes it.0 = is ∙ ap words_of_argument it.1 in
    let first : get_or words 0 0 ≡ length it.0 = ap (λ (ws : List ℕ). get_or ws 0 0) whole in
    let behind : take (length words - 1) (drop 1 words) ≡ words_of_bytes it.0 = take_rest words 1 ∙ ap (drop 1) whole in
    let long = length-words_of_argument (values.Text it.0) in
    omega (arith, first, ap length behind, long)

-- its first bytes are the text
pub text_put : (type : ArgType) (words : List ℕ) (value : Value) (old new : List ℕ) (at : ℕ) → type ≡ argument_types.Text → FitsType value type → HoldsBytes value → words ≡ words_of_argument value
    → new ≡ with_words old at (take (get_or words 0 0) (bytes_of_words (take (length words - 1) (drop 1 words)))) → new ≡ with_words old at (text_of value)
text_put type words value old new at text fits bytes is written =
    let it = is_text type value text fits in
    let whole : words ≡ length it.0 ∷ words_of_bytes it.0 = is ∙ ap words_of_argument it.1 in
    let first : get_or words 0 0 ≡ length it.0 = ap (λ (ws : List ℕ). get_or ws 0 0) whole in
    let behind : take (length words - 1) (drop 1 words) ≡ words_of_bytes it.0 = take_rest words 1 ∙ ap (drop 1) whole in
    let are : AreBytes it.0 = subst HoldsBytes it.1 bytes in
    let again : take (get_or words 0 0) (bytes_of_words (take (length words - 1) (drop 1 words))) ≡ text_of value =
    (λ t. take (first t) (bytes_of_words (behind t))) ∙ text_again it.0 are ∙ ap text_of (sym it.1) in
    written ∙ ap (with_words old at) again
