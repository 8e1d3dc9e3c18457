-- Arguments that are read one after the other.
use Rattle.std.proofs.Common.{◌≡◌, ◌≢◌, ℕ, ℤ, Bool, true, false, cond, eqb, ◌+◌, ◌<◌, List, [], ◌∷◌, ◌++◌, length, get_or, drop, Option, None, Some, Result, Ok, Err, refl, sym, ap, ◌∙◌, append_assoc, append-nil, length-append, ◌*◌, ◌≤◌, arith}
use Rattle.std.specs.Option.{ok_or, option_map, IfSome}
use Rattle.std.proofs.lemmas.Bool.{eqb-true}
use Rattle.std.proofs.lemmas.Option.{some_pair_parts}
use Rattle.std.proofs.lemmas.List.{drop_more}
use Rattle.std.proofs.lemmas.List.Sums.{sum_by-append}
use Rattle.std.proofs.Math.ListN.{drop_of_length-le}
use Rattle.printf_grammar.specs.declared.arg_type.ArgType.{ArgType}
use Rattle.printf_grammar.specs.declared.arg_type.ArgType.TheVariants as types
use Rattle.printf_grammar.specs.declared.argument.Value.{Value}
use Rattle.log_dictionary.specs.declared.numbers.Integer.{Integer}
use Rattle.log_dictionary.specs.Fields.{first_field, of_first_field}
use Rattle.log_dictionary.specs.Numbers.{number_from, integer_of, integer_read}
use Rattle.log_dictionary.specs.Texts.{text_from}
use Rattle.log_dictionary.specs.Texts.TextPlace.{outside}
use Rattle.arg_records.specs.Frames.{FrameLen, argument_words}
use Rattle.trace_text.specs.declared.cause.TraceCause.{TraceCause}
use Rattle.trace_text.specs.declared.cause.TraceCause.TheVariants.{ArgKind}
use Rattle.trace_text.specs.CallReading.{◌>>=◌, Item, number, text, ends_field, number_item, item_behind, item_at, argument_of, arguments_at}
use Rattle.trace_text.specs.CallFields.{item_argument, spaced_argument}

-- arguments, with these in front
abbrev pub with_args : List Value → Result (List Value) TraceCause → Result (List Value) TraceCause
with_args args (Ok more) = Ok (args ++ more)
with_args args (Err cause) = Err cause

with_args_push : (args : List Value) (value : Value) (rest : Result (List Value) TraceCause) → with_args args (with_args (value ∷ []) rest) ≡ with_args (args ++ value ∷ []) rest
with_args_push args value (Ok more) = ap (λ (l : List Value). Ok l) (sym (append_assoc args (value ∷ []) more))
with_args_push args value (Err cause) = refl

-- the arguments behind one that was read
abbrev behind : List ArgType → Value × List ℕ → Result (List Value) TraceCause
behind types found = arguments_at types found.1 >>= (λ values. Ok (found.0 ∷ values))

step_in : (r : Result Value TraceCause) (types : List ArgType) (rest : List ℕ) → (r >>= (λ value. arguments_at types rest >>= (λ values. Ok (value ∷ values)))) ≡ ((r >>= (λ value. Ok (value, rest))) >>= behind types)
step_in (Ok value) types rest = refl
step_in (Err cause) types rest = refl

step_at : (o : Option (Item × List ℕ)) (type : ArgType) (types : List ArgType)
    → (ok_or o ArgKind >>= (λ item. argument_of type item.0 >>= (λ value. arguments_at types item.1 >>= (λ values. Ok (value ∷ values))))) ≡ ((ok_or o ArgKind >>= (λ item. argument_of type item.0 >>= (λ value. Ok (value, item.1)))) >>= behind types)
step_at None type types = refl
step_at (Some item) type types = step_in (argument_of type item.0) types item.1

-- the first argument, and those behind it
argument_step : (type : ArgType) (types : List ArgType) (bytes : List ℕ) → arguments_at (type ∷ types) bytes ≡ (spaced_argument type bytes >>= behind types)
argument_step type types [] = refl
argument_step type types (space ∷ bytes) = step_at (item_at bytes) type types

bound : (rest : Result (List Value) TraceCause) (value : Value) → (rest >>= (λ values. Ok (value ∷ values))) ≡ with_args (value ∷ []) rest
bound (Ok values) value = refl
bound (Err cause) value = refl

-- the arguments of the types up to a place were read, and the rest spells those behind it
pub record AreRead (types : List ArgType) (bytes : List ℕ) (place : ℕ) (rest : List ℕ) (args : List Value) : Type 0 where
  pub goes : arguments_at types bytes ≡ with_args args (arguments_at (drop place types) rest)
  pub len : length args ≡ place

none_before : (r : Result (List Value) TraceCause) → r ≡ with_args [] r
none_before (Ok values) = refl
none_before (Err cause) = refl

pub none_read : (types : List ArgType) (bytes : List ℕ) → AreRead types bytes 0 bytes []
none_read types bytes = record { goes = none_before (arguments_at types bytes); len = refl }

at_place : (types : List ArgType) (place : ℕ) (d : ArgType) (rest : List ℕ) → place < length types → arguments_at (drop place types) rest ≡ (spaced_argument (get_or types place d) rest >>= behind (drop (place + 1) types))
at_place types place d rest within = ap (λ (l : List ArgType). arguments_at l rest) (drop_more types place d within) ∙ argument_step (get_or types place d) (drop (place + 1) types) rest

-- one more argument
pub one_read : (types : List ArgType) (bytes : List ℕ) (place : ℕ) (rest : List ℕ) (args : List Value) (d : ArgType) (value : Value) (after : List ℕ) → AreRead types bytes place rest args → place < length types
    → ◌≡◌ {A = Result (Value × List ℕ) TraceCause} (Ok (value, after)) (spaced_argument (get_or types place d) rest) → AreRead types bytes (place + 1) after (args ++ value ∷ [])
one_read types bytes place rest args d value after read within found = record {
  goes = read.goes
      ∙ ap (with_args args) (at_place types place d rest within ∙ ap (λ (r : Result (Value × List ℕ) TraceCause). r >>= behind (drop (place + 1) types)) (sym found) ∙ bound (arguments_at (drop (place + 1) types) after) value)
      ∙ with_args_push args value (arguments_at (drop (place + 1) types) after);
  len = omega (arith, length-append args (value ∷ []), read.len);
}

-- an argument is refused
pub one_refused : (types : List ArgType) (bytes : List ℕ) (place : ℕ) (rest : List ℕ) (args : List Value) (d : ArgType) (cause : TraceCause) → AreRead types bytes place rest args → place < length types
    → ◌≡◌ {A = Result (Value × List ℕ) TraceCause} (Err cause) (spaced_argument (get_or types place d) rest) → arguments_at types bytes ≡ Err cause
one_refused types bytes place rest args d cause read within found =
    read.goes ∙ ap (with_args args) (at_place types place d rest within ∙ ap (λ (r : Result (Value × List ℕ) TraceCause). r >>= behind (drop (place + 1) types)) (sym found))

-- nothing follows it
pub all_read : (types : List ArgType) (bytes : List ℕ) (place : ℕ) (rest : List ℕ) (args : List Value) → AreRead types bytes place rest args → length types ≤ place → length rest ≤ 0 → arguments_at types bytes ≡ Ok args
all_read types bytes place [] args read past none = read.goes ∙ ap (λ (l : List ArgType). with_args args (arguments_at l [])) (drop_of_length-le types past) ∙ ap (λ (l : List Value). Ok l) (append-nil args)
all_read types bytes place (byte ∷ rest) args read past none = absurd (omega (arith, none))

-- ---- how long the frame is

pub frame_more : (args : List Value) (value : Value) → FrameLen (args ++ value ∷ []) ≡ FrameLen args + argument_words value
frame_more args value = omega (arith, sum_by-append argument_words args (value ∷ []))

-- the arguments so far, of which the values are kept where there was memory for them
pub record AreCounted (types : List ArgType) (bytes : List ℕ) (place : ℕ) (rest : List ℕ) (kept : Option (List Value)) (words : ℕ) : Type 0 where
  pub args : List Value
  pub read : AreRead types bytes place rest args
  pub are_kept : IfSome kept (λ values. values ≡ args)
  pub words_are : words ≡ FrameLen args
  pub few : words ≤ 2 + 501 * place

-- ---- numbers

abbrev of_item : ArgType → Option (Item × List ℕ) → Result (Value × List ℕ) TraceCause
of_item type o = ok_or o ArgKind >>= (λ item. argument_of type item.0 >>= (λ value. Ok (value, item.1)))

no_text : (type : ArgType) (bytes : List ℕ) → type ≢ types.Text → argument_of type (text bytes) ≡ Err ArgKind
no_text types.Int bytes other = refl
no_text types.UInt bytes other = refl
no_text types.Long bytes other = refl
no_text types.ULong bytes other = refl
no_text types.Width bytes other = refl
no_text types.Precision bytes other = refl
no_text types.Text bytes other = absurd (other refl)

mark_is_no_number : (bytes : List ℕ) → number_item (34 ∷ bytes) ≡ None
unfolding number_from
mark_is_no_number bytes = refl

-- an argument of a type other than text is a number
number_alone : (type : ArgType) (bytes : List ℕ) → type ≢ types.Text → item_argument type bytes ≡ of_item type (number_item bytes)
number_alone type [] other = refl
number_alone type (b ∷ bytes) other = by_mark (eqb b 34) refl
  where
    by_end : (t : Bool) (opened : List ℕ × List ℕ) → of_item type (cond t (Some (text opened.0, opened.1)) None) ≡ Err ArgKind
    by_end true opened = ap (λ (r : Result Value TraceCause). r >>= (λ value. Ok (value, opened.1))) (no_text type opened.0 other)
    by_end false opened = refl

    by_text : (o : Option (List ℕ × List ℕ)) → b ≡ 34 → of_item type (item_behind (b ∷ bytes) o) ≡ of_item type (number_item (b ∷ bytes))
    by_text None mark = refl
    by_text (Some opened) mark = by_end (ends_field opened.1) opened ∙ sym (ap (λ (d : ℕ). of_item type (number_item (d ∷ bytes))) mark ∙ ap (of_item type) (mark_is_no_number bytes))

    by_mark : (t : Bool) → eqb b 34 ≡ t → item_argument type (b ∷ bytes) ≡ of_item type (number_item (b ∷ bytes))
    by_mark true mark = rw mark (by_text (text_from outside bytes) (eqb-true b 34 mark))
    by_mark false mark = rw mark refl

-- the argument that a number is
pub number_told : (type : ArgType) (bytes rest : List ℕ) (integer : Integer) (value : Result Value TraceCause) → type ≢ types.Text → ◌≡◌ {A = Option (Integer × List ℕ)} (Some (integer, rest)) (of_first_field (λ field. option_map integer_read (integer_of field)) bytes)
    → ((z : ℤ) → integer ≡ integer_read z → value ≡ argument_of type (number z)) → (value >>= (λ v. Ok (v, rest))) ≡ item_argument type bytes
number_told type bytes rest integer value other read told = by_number (integer_of (first_field bytes).0) refl read ∙ sym (number_alone type bytes other)
  where
    by_number : (o : Option ℤ) → integer_of (first_field bytes).0 ≡ o → ◌≡◌ {A = Option (Integer × List ℕ)} (Some (integer, rest)) (option_map (λ x. (x, (first_field bytes).1)) (option_map integer_read o)) → (value >>= (λ v. Ok (v, rest))) ≡ of_item type (number_item bytes)
    by_number None e same = absurd cc
    by_number (Some z) e same =
        let parts = some_pair_parts integer (integer_read z) rest (first_field bytes).1 same in
        rw (told z parts.0, parts.1, e) refl
