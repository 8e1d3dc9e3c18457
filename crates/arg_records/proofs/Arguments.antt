-- The words of arguments, one argument behind another.
use Rattle.std.proofs.Common.{◌≡◌, ℕ, ◌+◌, ◌*◌, ◌<◌, ◌≤◌, List, ◌∷◌, ◌++◌, length, map, take, drop, get_or, sym, ap, ◌∙◌, arith}
use Rattle.std.proofs.Math.ListN.{set}
use Rattle.std.specs.Prelude.{All, sum_by}
use Rattle.std.specs.List.{flat_map}
use Rattle.std.proofs.lemmas.List.{drop_more, length-set, take_at, drop_at}
use Rattle.std.proofs.lemmas.List.Sums.{sum_by-cons, sum_by-le}
use Rattle.std.proofs.lemmas.List.Concat.{flat_map-cons}
use Rattle.std.proofs.lemmas.List.Elements.{All-map, All-weaker}
use Rattle.printf_grammar.specs.declared.argument.Value.{Value}
use Rattle.printf_grammar.specs.declared.argument.Value.TheVariants as values
use Rattle.arg_records.specs.Frames.{IsShort, AreArguments, words_of_argument, argument_words, FrameLen, Frame}
use Rattle.arg_records.specs.Kinds.{HoldsBytes}
use Rattle.arg_records.specs.Places.{with_words}
use Rattle.arg_records.proofs.lemmas.Lengths.{length-words_of_argument, length-Frame}
use Rattle.arg_records.proofs.lemmas.Places.{word_first, words_first}

pub short_words : (value : Value) → IsShort value → argument_words value ≤ 501
short_words (values.Signed z) short = omega arith
short_words (values.Unsigned n) short = omega arith
short_words (values.Text bytes) short = omega arith

-- at most 64 arguments take few words
pub FrameLen-bound : (args : List Value) → AreArguments args → FrameLen args ≤ 32066
FrameLen-bound args are = omega (arith, are.few, sum_by-le argument_words 501 args (All-weaker IsShort (λ value. argument_words value ≤ 501) short_words args are.short))

-- the first of the arguments from a place on, which has this value
module _ {A : Type 0} (value : A → Value) (args : List A) (place : ℕ) (item : A) (first : Value) (within : place < length args) (item_is : item ≡ get_or args place item) (first_is : first ≡ value item) where
  values_from : map value (drop place args) ≡ first ∷ map value (drop (place + 1) args)
  values_from =
      ap (map value) (drop_more args place item within)
      ∙ ap (λ (one : Value). one ∷ map value (drop (place + 1) args)) (sym (first_is ∙ ap value item_is))

  -- their lengths
  pub words_from : sum_by argument_words (map value (drop place args)) ≡ argument_words first + sum_by argument_words (map value (drop (place + 1) args))
  words_from =
      ap (sum_by argument_words) values_from ∙ sum_by-cons argument_words first (map value (drop (place + 1) args))

  -- it was written, and the others behind it are left
  pub others_left : (list new : List ℕ) (at end : ℕ) → at ≤ length list → new ≡ with_words list at (words_of_argument first) → end ≡ at + argument_words first
      → with_words new end (flat_map words_of_argument (map value (drop (place + 1) args))) ≡ with_words list at (flat_map words_of_argument (map value (drop place args)))
  others_left list new at end inside written is =
      let words : List ℕ = words_of_argument first in
      let others : List Value = map value (drop (place + 1) args) in
      ap (λ (l : List ℕ). with_words l end (flat_map words_of_argument others)) written
      ∙ words_first list at end words (flat_map words_of_argument others) (omega (arith, length-words_of_argument first)) inside
      ∙ ap (with_words list at) (sym (ap (flat_map words_of_argument) values_from ∙ flat_map-cons words_of_argument first others))

-- the head and the arguments are the frame, and the words behind it are as before
pub frame_written : (old new : List ℕ) (id stamp wide len n : ℕ) (args : List Value) → 2 ≤ length old → wide ≡ id → len ≡ FrameLen args → n ≡ FrameLen args
    → new ≡ with_words (set (set old 0 (wide * 65536 + len)) 1 stamp) 2 (flat_map words_of_argument args)
    → (n ≡ FrameLen args) × (take n new ≡ Frame id stamp args) × (drop n new ≡ drop n old)
frame_written old new id stamp wide len n args two wide_is len_is n_is written =
    let words : List ℕ = flat_map words_of_argument args in
    let head : ℕ = wide * 65536 + len in
    let from_first : 0 + length (Frame id stamp args) ≡ length (Frame id stamp args) = omega arith in
    let whole : new ≡ Frame id stamp args ++ drop (length (Frame id stamp args)) old =
    written
    ∙ word_first (set old 0 head) 1 stamp words (omega (arith, length-set old 0 head))
    ∙ word_first old 0 head (stamp ∷ words) (omega arith)
    ∙ ap (λ (w : ℕ). with_words old 0 ((w * 65536 + len) ∷ stamp ∷ words)) wide_is
    ∙ ap (λ (l : ℕ). with_words old 0 ((id * 65536 + l) ∷ stamp ∷ words)) len_is
    ∙ ap (λ (k : ℕ). Frame id stamp args ++ drop k old) from_first in
    let long : length (Frame id stamp args) ≡ n = length-Frame id stamp args ∙ sym n_is in (
      n_is,
      ap (take n) whole ∙ take_at (Frame id stamp args) (drop (length (Frame id stamp args)) old) n long,
      ap (drop n) whole ∙ drop_at (Frame id stamp args) (drop (length (Frame id stamp args)) old) n long ∙ ap (λ (k : ℕ). drop k old) long,
    )

-- ---- the texts

-- what holds of the values of arguments, one by one, holds of them in a list
pub bytes_of_all : {A : Type 0} (value : A → Value) (args : List A) → All (λ arg. HoldsBytes (value arg)) args → All HoldsBytes (map value args)
bytes_of_all value args all = All-map HoldsBytes value args all
