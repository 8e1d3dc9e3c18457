-- A frame has one id, one stamp and, by their kinds, one list of arguments.
use Rattle.std.proofs.Common.{◌≡◌, ℕ, zero, suc, ◌+◌, ◌*◌, ◌<◌, ◌≤◌, List, [], ◌∷◌, ◌++◌, length, take, drop, map, refl, sym, ap, ◌∙◌, ⊎_elim, arith}
use Rattle.std.specs.Prelude.{All}
use Rattle.std.specs.Int.{w64, cast_unsigned, cast_signed}
use Rattle.std.specs.List.{flat_map}
use Rattle.std.proofs.lemmas.Bool.{cases_lt}
use Rattle.std.proofs.lemmas.Int.{to_z-of_z}
use Rattle.std.proofs.lemmas.List.{take-append-drop, length-drop, length-take-le}
use Rattle.std.proofs.lemmas.List.Concat.{flat_map-cons}
use Rattle.std.proofs.lemmas.List.Elements.{All-head, All-tail, All-take, All-drop}
use Rattle.printf_grammar.specs.declared.argument.Value.{Value}
use Rattle.printf_grammar.specs.declared.argument.Value.TheVariants as values
use Rattle.nibble_pack.specs.Bytes.{number_of_bytes, number_of_bytes-unique}
use Rattle.arg_records.specs.Frames.{words_of_bytes, words_of_argument, FrameLen, Frame}
use Rattle.arg_records.specs.Kinds.{arg_kind, IsArgument}
use Rattle.arg_records.proofs.Bytes.{first_bytes, only_word}

-- words of as many bytes begin equal lists only where the bytes are the same
pub bytes_same : (most : ℕ) (xs ys vs ws : List ℕ) → length xs ≤ most → length xs ≡ length ys → All (λ byte. byte < 256) xs → All (λ byte. byte < 256) ys
    → words_of_bytes xs ++ vs ≡ words_of_bytes ys ++ ws → (xs ≡ ys) × (vs ≡ ws)
bytes_same most [] [] vs ws few same left right e = (refl, e)
bytes_same most [] (y ∷ ys) vs ws few same left right e = absurd omega (arith, same)
bytes_same most (x ∷ xs) [] vs ws few same left right e = absurd omega (arith, same)
bytes_same zero (x ∷ xs) (y ∷ ys) vs ws few same left right e = absurd omega (arith, few)
bytes_same (suc most) (x ∷ xs) (y ∷ ys) vs ws few same left right e =
    ⊎_elim
    (λ (short : length (x ∷ xs) < 8).
    let one : number_of_bytes (x ∷ xs) ∷ vs ≡ number_of_bytes (y ∷ ys) ∷ ws =
    ap (λ (words : List ℕ). words ++ vs) (sym (only_word (x ∷ xs) short (omega arith))) ∙ e ∙ ap (λ (words : List ℕ). words ++ ws) (only_word (y ∷ ys) (omega (arith, same, short)) (omega arith)) in
    (number_of_bytes-unique (x ∷ xs) (y ∷ ys) same left right cc, cc))
    (λ (long : 8 ≤ length (x ∷ xs)).
    let more : number_of_bytes (take 8 (x ∷ xs)) ∷ (words_of_bytes (drop 8 (x ∷ xs)) ++ vs) ≡ number_of_bytes (take 8 (y ∷ ys)) ∷ (words_of_bytes (drop 8 (y ∷ ys)) ++ ws) =
    ap (λ (words : List ℕ). words ++ vs) (sym (first_bytes (x ∷ xs) long)) ∙ e ∙ ap (λ (words : List ℕ). words ++ ws) (first_bytes (y ∷ ys) (omega (arith, same, long))) in
    let front : take 8 (x ∷ xs) ≡ take 8 (y ∷ ys) =
    number_of_bytes-unique (take 8 (x ∷ xs)) (take 8 (y ∷ ys)) (length-take-le 8 (x ∷ xs) long ∙ sym (length-take-le 8 (y ∷ ys) (omega (arith, same, long)))) (All-take (λ byte. byte < 256) 8 (x ∷ xs) left) (All-take (λ byte. byte < 256) 8 (y ∷ ys) right) cc in
    let back = bytes_same most (drop 8 (x ∷ xs)) (drop 8 (y ∷ ys)) vs ws (omega (arith, few, length-drop 8 (x ∷ xs))) (omega (arith, same, length-drop 8 (x ∷ xs), length-drop 8 (y ∷ ys))) (All-drop (λ byte. byte < 256) 8 (x ∷ xs) left) (All-drop (λ byte. byte < 256) 8 (y ∷ ys) right) cc in
    let left_whole = take-append-drop 8 (x ∷ xs) in
    let right_whole = take-append-drop 8 (y ∷ ys) in
    let rest = back.0 in
    (sym left_whole ∙ ap (λ (f : List ℕ). f ++ drop 8 (x ∷ xs)) front ∙ ap (λ (b : List ℕ). take 8 (y ∷ ys) ++ b) rest ∙ right_whole, back.1))
    (cases_lt (length (x ∷ xs)) 8)

-- so do the words of arguments of one kind
pub argument_same : (v w : Value) (vs ws : List ℕ) → arg_kind v ≡ arg_kind w → IsArgument v → IsArgument w → words_of_argument v ++ vs ≡ words_of_argument w ++ ws → (v ≡ w) × (vs ≡ ws)
argument_same (values.Signed y) (values.Signed z) vs ws same left right e =
    let words : cast_unsigned w64 y ≡ cast_unsigned w64 z = cc in
    let number : y ≡ z = sym (to_z-of_z w64 y left) ∙ ap (cast_signed w64) words ∙ to_z-of_z w64 z right in
    (ap values.Signed number, cc)
argument_same (values.Unsigned m) (values.Unsigned n) vs ws same left right e = (cc, cc)
argument_same (values.Text xs) (values.Text ys) vs ws same left right e =
    let long : length xs ≡ length ys = cc in
    let words : words_of_bytes xs ++ vs ≡ words_of_bytes ys ++ ws = cc in
    let both = bytes_same (length xs) xs ys vs ws (omega arith) long left right words in
    (ap values.Text both.0, both.1)
argument_same (values.Signed y) (values.Unsigned n) vs ws same left right e = absurd cc
argument_same (values.Signed y) (values.Text ys) vs ws same left right e = absurd cc
argument_same (values.Unsigned m) (values.Signed z) vs ws same left right e = absurd cc
argument_same (values.Unsigned m) (values.Text ys) vs ws same left right e = absurd cc
argument_same (values.Text xs) (values.Signed z) vs ws same left right e = absurd cc
argument_same (values.Text xs) (values.Unsigned n) vs ws same left right e = absurd cc

arguments_same : (a b : List Value) → map arg_kind a ≡ map arg_kind b → All IsArgument a → All IsArgument b → flat_map words_of_argument a ≡ flat_map words_of_argument b → a ≡ b
arguments_same [] [] same left right e = refl
arguments_same [] (w ∷ b) same left right e = absurd cc
arguments_same (v ∷ a) [] same left right e = absurd cc
arguments_same (v ∷ a) (w ∷ b) same left right e =
    let first : arg_kind v ≡ arg_kind w = cc in
    let rest : map arg_kind a ≡ map arg_kind b = cc in
    let both = argument_same v w (flat_map words_of_argument a) (flat_map words_of_argument b) first (All-head IsArgument v a left) (All-head IsArgument w b right)
    (sym (flat_map-cons words_of_argument v a) ∙ e ∙ flat_map-cons words_of_argument w b) in
    let others : a ≡ b = arguments_same a b rest (All-tail IsArgument v a left) (All-tail IsArgument w b right) both.1 in
    ap (λ (u : Value). u ∷ a) both.0 ∙ ap (λ (c : List Value). w ∷ c) others

-- one frame spells one call
pub Frame-unique : (i j s t : ℕ) (a b : List Value) → map arg_kind a ≡ map arg_kind b → All IsArgument a → All IsArgument b → Frame i s a ≡ Frame j t b → (i ≡ j) × (s ≡ t) × (a ≡ b)
Frame-unique i j s t a b same left right e =
    let head : i * 65536 + FrameLen a ≡ j * 65536 + FrameLen b = cc in
    let stamp : s ≡ t = cc in
    let words : flat_map words_of_argument a ≡ flat_map words_of_argument b = cc in
    let args : a ≡ b = arguments_same a b same left right words in
    (omega (arith, head, ap FrameLen args), stamp, args)
