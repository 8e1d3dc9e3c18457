-- How many words arguments take.
use Rattle.std.proofs.Common.{◌≡◌, ℕ, suc, ◌+◌, ◌/◌, List, [], ◌∷◌, length, refl, ap, ◌∙◌, arith, ◌<◌}
use Rattle.std.specs.Prelude.{sum_by}
use Rattle.std.specs.List.{flat_map}
use Rattle.std.proofs.lemmas.List.{length-append}
use Rattle.std.proofs.lemmas.List.Sums.{sum_by-cons}
use Rattle.std.proofs.lemmas.List.Concat.{flat_map-cons}
use Rattle.printf_grammar.specs.declared.argument.Value.{Value}
use Rattle.printf_grammar.specs.declared.argument.Value.TheVariants as values
use Rattle.arg_records.specs.Frames.{words_of_bytes, words_of_argument, argument_words, FrameLen, Frame}

one_more : (n k : ℕ) → k ≡ (n + 7) / 8 → suc k ≡ (suc (suc (suc (suc (suc (suc (suc (suc n))))))) + 7) / 8
one_more n k e = omega arith

pub length-words_of_bytes : (bytes : List ℕ) → length (words_of_bytes bytes) ≡ (length bytes + 7) / 8
length-words_of_bytes [] = refl
length-words_of_bytes (a ∷ []) = refl
length-words_of_bytes (a ∷ b ∷ []) = refl
length-words_of_bytes (a ∷ b ∷ c ∷ []) = refl
length-words_of_bytes (a ∷ b ∷ c ∷ d ∷ []) = refl
length-words_of_bytes (a ∷ b ∷ c ∷ d ∷ e ∷ []) = refl
length-words_of_bytes (a ∷ b ∷ c ∷ d ∷ e ∷ f ∷ []) = refl
length-words_of_bytes (a ∷ b ∷ c ∷ d ∷ e ∷ f ∷ g ∷ []) = refl
length-words_of_bytes (a ∷ b ∷ c ∷ d ∷ e ∷ f ∷ g ∷ h ∷ bytes) = one_more (length bytes) (length (words_of_bytes bytes)) (length-words_of_bytes bytes)

pub length-words_of_argument : (value : Value) → length (words_of_argument value) ≡ argument_words value
length-words_of_argument (values.Signed z) = refl
length-words_of_argument (values.Unsigned n) = refl
length-words_of_argument (values.Text bytes) = omega (arith, length-words_of_bytes bytes)

pub length-arguments : (args : List Value) → length (flat_map words_of_argument args) ≡ sum_by argument_words args
length-arguments [] = refl
length-arguments (value ∷ args) =
    ap length (flat_map-cons words_of_argument value args)
    ∙ omega (arith, length-append (words_of_argument value) (flat_map words_of_argument args), length-words_of_argument value, length-arguments args, sum_by-cons argument_words value args)

pub length-Frame : (id stamp : ℕ) (args : List Value) → length (Frame id stamp args) ≡ FrameLen args
length-Frame id stamp args = omega (arith, length-arguments args)

pub some_words : (value : Value) → 0 < length (words_of_argument value)
some_words (values.Signed z) = omega arith
some_words (values.Unsigned n) = omega arith
some_words (values.Text bytes) = omega arith
