-- The arguments of a call's line as they are read.
use Rattle.std.specs.Prelude.{◌≡◌, ℕ, ℤ, ◌<◌, ◌≤◌, length, List, [], ◌∷◌, ◌++◌, Option, IfSome, Result, Ok, Err}
use Rattle.std.specs.Option.{ok_or}
use Rattle.printf_grammar.specs.declared.arg_type.ArgType.{ArgType}
use Rattle.printf_grammar.specs.declared.argument.Value.{Value}
use Rattle.printf_grammar.specs.declared.limits.TheConstants.{MAX_ARGUMENTS}
use Rattle.log_dictionary.specs.declared.numbers.Integer.{Integer}
use Rattle.log_dictionary.specs.Numbers.{integer_read}
use Rattle.arg_records.specs.Frames.{argument_words}
use Rattle.trace_text.specs.declared.cause.TraceCause.{TraceCause}
use Rattle.trace_text.specs.declared.cause.TraceCause.TheVariants.{ArgCount, ArgKind}
use Rattle.trace_text.specs.CallReading.{◌>>=◌, item_at, argument_of}

-- what was read, seen so, or the cause
abbrev pub result_as : {A B : Type 0} → (A → B) → Result A TraceCause → Result B TraceCause
result_as view (Ok x) = Ok (view x)
result_as view (Err cause) = Err cause

-- an argument of the type, and what follows it
abbrev pub item_argument : ArgType → List ℕ → Result (Value × List ℕ) TraceCause
item_argument type bytes = do
  item ← ok_or (item_at bytes) ArgKind
  value ← argument_of type item.0
  Ok (value, item.1)

-- an argument of the type behind a space, and what follows it
abbrev pub spaced_argument : ArgType → List ℕ → Result (Value × List ℕ) TraceCause
spaced_argument type [] = Err ArgCount
spaced_argument type (space ∷ bytes) = item_argument type bytes

-- ---- keeping arguments, as long as there is memory for them

-- behind those that were kept there may be one more
abbrev pub MayKeepMore : Option (List Value) → Type 0
MayKeepMore kept = IfSome kept (λ values. length values < MAX_ARGUMENTS)

-- the argument stands behind those that were kept, if there was memory for them and for it
abbrev pub KeepsAlso : Value → Option (List Value) → Option (List Value) → Type 0
KeepsAlso value old new =
    (args : List Value) → IfSome old (λ values. values ≡ args) → IfSome new (λ values. values ≡ args ++ value ∷ [])

-- the argument takes so many words, and stands behind those that were kept
pub record Keeps (value : Value) (words : ℕ) (old new : Option (List Value)) : Type 0 where
  pub words_are : words ≡ argument_words value
  pub few : words ≤ 501
  pub kept : KeepsAlso value old new

-- so does the argument that the number is
pub record KeepsNumber (argument : ℤ → Result Value TraceCause) (integer : Integer) (old new : Option (List Value))
    : Type 0 where
  pub value : Value
  pub told : (z : ℤ) → integer ≡ integer_read z → Ok value ≡ argument z
  pub keeps : Keeps value 1 old new

-- so does the argument that was read, and this follows it
pub record KeepsRead (read : Result (Value × List ℕ) TraceCause) (words : ℕ) (rest : List ℕ)
    (old new : Option (List Value)) : Type 0 where
  pub value : Value
  pub is : read ≡ Ok (value, rest)
  pub keeps : Keeps value words old new
