-- Codes and numbers that are written, each behind others of its kind.
use Rattle.std.proofs.Common.{◌≡◌, ℕ, ◌+◌, ◌-◌, ◌*◌, ◌/◌, ◌<◌, ◌≤◌, List, [], ◌∷◌, ◌++◌, length, take, drop, get_or, refl, sym, ap, ◌∙◌, append_assoc, arith, rules}
use Rattle.std.proofs.Math.ListN.{set}
use Rattle.std.proofs.Math.Seq.{take-append-add}
use Rattle.std.proofs.lemmas.List.{length-append, length-set, length-take-le, length-drop, take_all, take-take, take-append-le, drop-append-le, drop-take, drop-drop, drop_at}
use Rattle.std.proofs.lemmas.List.Elements.{All-tail}
use Rattle.std.specs.List.{flat_map}
use Rattle.printf_grammar.specs.declared.arg_type.ArgType.{ArgType}
use Rattle.printf_grammar.specs.declared.arg_type.ArgType.TheVariants as argument_types
use Rattle.printf_grammar.specs.declared.argument.Value.{Value}
use Rattle.arg_records.specs.Frames.{words_of_argument}
use Rattle.arg_records.specs.Kinds.{HoldsBytes}
use Rattle.arg_records.specs.Places.{with_words}
use Rattle.arg_records.proofs.lemmas.Places.{word_first, words_first, no_words}
use Rattle.buffer_extent.specs.Records.{code_bytes, codes_of, packed_bytes}
use Rattle.buffer_extent.specs.Writing.{AreWordsOf, BeginsWithWords, PutsNumber, PutsNumbers}
use Rattle.buffer_extent.proofs.Packing.{codes_room}

-- a byte, and two numbers behind it
pub head_written : (body : List ℕ) (at end codes : ℕ) (xs ys : List ℕ) → at < length body → at + 1 + length xs ≡ end → with_words (with_words (set body at codes) (at + 1) xs) end ys ≡ with_words body at (codes ∷ (xs ++ ys))
head_written body at end codes xs ys within is =
    words_first (set body at codes) (at + 1) end xs ys is (omega (arith, length-set body at codes)) ∙ word_first body at codes (xs ++ ys) within

length-with_words : (list : List ℕ) (at : ℕ) (xs : List ℕ) → at + length xs ≤ length list → length (with_words list at xs) ≡ length list
length-with_words list at xs within =
    omega (arith, length-append (take at list) (xs ++ drop (at + length xs) list), length-append xs (drop (at + length xs) list), length-take-le at list (omega arith), length-drop (at + length xs) list)

-- what is written at two places may be written in either order
apart : (list : List ℕ) (at end : ℕ) (xs ys : List ℕ) → at + length xs ≤ end → end ≤ length list → with_words (with_words list end ys) at xs ≡ with_words (with_words list at xs) end ys
apart list at end xs ys before within =
    let behind : ℕ = at + length xs in
    let gap : ℕ = end - behind in
    let is : behind + gap ≡ end = omega arith in
    let front : List ℕ = take at list ++ xs in
    let rest : List ℕ = drop behind list in
    let back : List ℕ = ys ++ drop (end + length ys) list in
    let long : length front ≡ behind = omega (arith, length-append (take at list) xs, length-take-le at list (omega arith)) in
    let cut : length (take end list) ≡ end = length-take-le end list within in
    let first : take at (take end list ++ back) ≡ take at list = take-append-le at (take end list) back (omega arith) ∙ take-take at end list (omega arith) in
    let others : drop behind (take end list ++ back) ≡ take gap rest ++ back =
    drop-append-le behind (take end list) back (omega arith) ∙ ap (λ (n : ℕ). drop behind (take n list) ++ back) (sym is) ∙ ap (λ (l : List ℕ). l ++ back) (drop-take behind gap list) in
    let split : with_words list at xs ≡ front ++ rest = sym (append_assoc (take at list) xs rest) in
    let until : take end (front ++ rest) ≡ front ++ take gap rest = ap (λ (n : ℕ). take n (front ++ rest)) (omega arith) ∙ take-append-add front rest gap in
    let past : end + length ys ≡ behind + (gap + length ys) = omega arith in
    let from : drop (end + length ys) (front ++ rest) ≡ drop (end + length ys) list =
    ap (λ (n : ℕ). drop n (front ++ rest)) past ∙ sym (drop-drop (gap + length ys) behind (front ++ rest)) ∙ ap (drop (gap + length ys)) (drop_at front rest behind long)
    ∙ drop-drop (gap + length ys) behind list ∙ ap (λ (n : ℕ). drop n list) (sym past) in
    (λ i. first i ++ (xs ++ others i))
    ∙ sym (append_assoc (take at list) xs (take gap rest ++ back))
    ∙ sym (append_assoc front (take gap rest) back)
    ∙ (λ i. sym until i ++ (ys ++ sym from i))
    ∙ ap (λ (l : List ℕ). with_words l end ys) (sym split)

-- a code and a number, and other codes and numbers behind the two
runs_first : (list : List ℕ) (place at end code : ℕ) (codes xs ys : List ℕ) → place + 1 + length codes ≤ at → at + length xs ≡ end → end ≤ length list
    → with_words (with_words (set (with_words list at xs) place code) (place + 1) codes) end ys ≡ with_words (with_words list place (code ∷ codes)) at (xs ++ ys)
runs_first list place at end code codes xs ys before is within =
    let run : List ℕ = code ∷ codes in
    ap (λ (b : List ℕ). with_words b end ys) (word_first (with_words list at xs) place code codes (omega (arith, length-with_words list at xs (omega arith))) ∙ apart list place at run xs (omega arith) (omega arith))
    ∙ words_first (with_words list place run) at end xs ys is (omega (arith, length-with_words list place run (omega arith)))

-- ---- the numbers of arguments

-- of whatever argument of the type these words begin with, the number was written, and these words are behind it
abbrev pub PutsFirst : ArgType → List ℕ → List ℕ → ℕ → ℕ → List ℕ → ℕ → List ℕ → Type 0
PutsFirst type words old at code new end rest = (value : Value) (more : List ℕ) → BeginsWithWords type words value more → PutsNumber type value old at code new end × (rest ≡ more)

-- of whatever arguments of the types these are the words, the numbers were written
abbrev pub PutsAll : List ArgType → List ℕ → List ℕ → ℕ → ℕ → List ℕ → ℕ → Type 0
PutsAll types words old place at new end = (args : List Value) → AreWordsOf types args words → PutsNumbers types args old place at new end

-- two arguments, and others behind them
pub record TwoWords (low high : ArgType) (types : List ArgType) (words : List ℕ) : Type 0 where
  pub first : Value
  pub second : Value
  pub others : List Value
  pub begins : BeginsWithWords low words first (words_of_argument second ++ flat_map words_of_argument others)
  pub begins_too : (middle : List ℕ) → middle ≡ words_of_argument second ++ flat_map words_of_argument others → BeginsWithWords high middle second (flat_map words_of_argument others)
  pub left : (rest : List ℕ) → rest ≡ flat_map words_of_argument others → AreWordsOf types others rest

pub two_words : (low high : ArgType) (types : List ArgType) (args : List Value) (words : List ℕ) → AreWordsOf (low ∷ high ∷ types) args words → TwoWords low high types words
two_words low high types (x ∷ y ∷ args) words are = record {
  first = x;
  second = y;
  others = args;
  begins = record { fits = are.fits.0; is = are.is };
  begins_too = λ middle is. record { fits = are.fits.1.0; is = is };
  left = λ rest is. record { fits = are.fits.1.1; bytes = All-tail HoldsBytes y args (All-tail HoldsBytes x (y ∷ args) are.bytes); is = is };
}
two_words low high types _ words are = absurd (search rules)

pub one_words : (type : ArgType) (args : List Value) (words : List ℕ) → AreWordsOf (type ∷ []) args words → (value : Value) × BeginsWithWords type words value []
one_words type (arg ∷ []) words are = (arg, record { fits = are.fits.0; is = are.is })
one_words type _ words are = absurd (search rules)

-- types, as two of them and the others
pub two_cut : (types : List ArgType) → 2 ≤ length types → types ≡ get_or types 0 argument_types.Int ∷ get_or types 1 argument_types.Int ∷ take (length types - 2) (drop 2 types)
two_cut [] some = absurd (omega arith)
two_cut (low ∷ []) some = absurd (omega arith)
two_cut (low ∷ high ∷ types) some = ap (λ (l : List ArgType). low ∷ high ∷ l) (sym (take_all (length (low ∷ high ∷ types) - 2) types (omega arith)))

pub one_cut : (types : List ArgType) → length types ≡ 1 → types ≡ get_or types 0 argument_types.Int ∷ []
one_cut (type ∷ []) one = refl
one_cut [] one = absurd (omega arith)
one_cut (low ∷ high ∷ types) one = absurd (omega arith)

pub none_put : (words old : List ℕ) (place at : ℕ) → PutsAll [] words old place at old at
none_put words old place at [] are = record { numbers = []; packed = tt; written = sym (ap (λ (b : List ℕ). with_words b at []) (no_words old place) ∙ no_words old at); behind = omega arith }
none_put words old place at (arg ∷ args) are = absurd are.fits

-- the last one of an odd count
pub last_put : (type : ArgType) (words rest old one : List ℕ) (place at code end : ℕ) → place < at → end ≤ length old → PutsFirst type words old at code one end rest → PutsAll (type ∷ []) words old place at (set one place code) end
last_put type words rest old one place at code end before within put (arg ∷ []) are =
    let number = (put arg [] (record { fits = are.fits.0; is = are.is })).0 in
    let bytes : List ℕ = number.bytes in
    let list : List ℕ = set (with_words old at bytes) place code in
    record {
      numbers = record { code = code; bytes = bytes } ∷ [];
      packed = (number.packed, tt);
      written = ap (λ (b : List ℕ). set b place code) number.written ∙ sym (ap (λ (b : List ℕ). with_words b end []) (no_words list (place + 1)) ∙ no_words list end)
          ∙ runs_first old place at end code [] bytes [] (omega arith) (sym number.behind) within;
      behind = omega (arith, number.behind, length-append bytes []);
    }
last_put type words rest old one place at code end before within put _ are = absurd (search rules)

-- two numbers, and others behind them
pub two_put : (low high : ArgType) (types : List ArgType) (words middle rest old one two new : List ℕ) (place at between behind a b end : ℕ) → place + 1 + (length types + 1) / 2 ≤ at → behind ≤ length old
    → PutsFirst low words old at a one between middle → PutsFirst high middle one between b two behind rest → PutsAll types rest (set two place (a + 16 * b)) (place + 1) behind new end → PutsAll (low ∷ high ∷ types) words old place at new end
unfolding two_words
two_put low high types words middle rest old one two new place at between behind a b end before within put put_too put_others (x ∷ y ∷ args) are =
    let parts = two_words low high types (x ∷ y ∷ args) words are in
    let first = put x _ parts.begins in
    let second = put_too y _ (parts.begins_too middle first.1) in
    let others = put_others args (parts.left rest second.1) in
    let xs : List ℕ = first.0.bytes in
    let ys : List ℕ = second.0.bytes in
    let codes : List ℕ = code_bytes (codes_of others.numbers) in
    let zs : List ℕ = packed_bytes others.numbers in
    let len = length-append xs ys in
    let long : at + length (xs ++ ys) ≡ behind = omega (arith, first.0.behind, second.0.behind) in
    let both : two ≡ with_words old at (xs ++ ys) = second.0.written ∙ ap (λ (l : List ℕ). with_words l between ys) first.0.written ∙ words_first old at between xs ys (sym first.0.behind) (omega arith) in
    record {
      numbers = record { code = a; bytes = xs } ∷ record { code = b; bytes = ys } ∷ others.numbers;
      packed = (first.0.packed, (second.0.packed, others.packed));
      written = others.written ∙ ap (λ (l : List ℕ). with_words (with_words (set l place (a + 16 * b)) (place + 1) codes) behind zs) both
          ∙ runs_first old place at behind (a + 16 * b) codes (xs ++ ys) zs (omega (arith, codes_room types args others.numbers others.packed)) long within
          ∙ ap (with_words (with_words old place ((a + 16 * b) ∷ codes)) at) (append_assoc xs ys zs);
      behind = omega (arith, others.behind, long, length-append xs (ys ++ zs), length-append ys zs);
    }
two_put low high types words middle rest old one two new place at between behind a b end before within put put_too put_others _ are = absurd (search rules)
