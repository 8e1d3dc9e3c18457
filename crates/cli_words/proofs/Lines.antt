-- The laws of lines.
use Rattle.std.proofs.Common.{◌≡◌, ◌∙◌, ◌≢◌, ◌<◌, ◌≤◌, ◌++◌, Bool, true, false, not, List, [], ◌∷◌, length}
use Rattle.std.proofs.Common.{ℕ, get_or, map, Option, Some, None, refl, sym, ap, ap₂, ◌&&◌, codes, arith}
use Rattle.std.specs.Prelude.{◌==◌, if◌then◌else◌}
use Rattle.std.specs.List.{All, AllByRecursion, list_all, list_any, before_first, after_first}
use Rattle.std.proofs.Math.Numerals.{add-one, one-add}
use Rattle.std.proofs.Math.Bool.{or-true}
use Rattle.std.proofs.lemmas.Bool.{true≢false, le-leb, lt-ltb}
use Rattle.std.proofs.lemmas.List.Sums.{list_all-from_AllPass}
use Rattle.std.specs.Str.{bytes_eq}
use Rattle.std.specs.Fmt.{decimal}
use Rattle.std.proofs.lemmas.Slice.Eq.{bytes_eq-Decides}
use Rattle.std.proofs.lemmas.Bool.Decides.{nat_tests}
use Rattle.std.proofs.lemmas.List.{length-map}
use Rattle.std.proofs.lemmas.List.Folds.{list_all-map}
use Rattle.session_options.specs.Defaults.{default_options}
use Rattle.session_options.specs.declared.limits.TheConstants.{MIN_RING, MAX_RING, MAX_BATCH}
use Rattle.session_options.specs.declared.limits.TheConstants.{MAX_GENERATED, MAX_GENERATED_WRITERS}
use Rattle.session_options.specs.declared.options.Options.{Options}
use Rattle.cli_words.specs.Commands.{WordBytes, Given, Name, Awaits, Sets, Unknown, word_of, after_dashes, is_equals, is_among}
use Rattle.cli_words.specs.Commands.{with_name, with_option, given_of, given_from, options_of, said_by}
use Rattle.cli_words.specs.Commands.{values_given, policy_named, severity_named}
use Rattle.cli_words.specs.Commands.{OperandValue, File, is_name, is_file, is_other, are_sources}
use Rattle.cli_words.specs.Commands.{number_within}
use Rattle.cli_words.specs.Commands.{Command, Preprocess, Direct, Replay, Decompress, Aggregate, Generate, Selftest, Schedule, Migrate, Inject, Header}
use Rattle.cli_words.specs.Commands.{command_of}
use Rattle.cli_words.specs.Rows.{AreGenerated, IsLawful, words_for}
use Rattle.cli_words.specs.declared.numbers.TheConstants.{MAX_ID, MAX_SEED}
use Rattle.cli_words.specs.declared.operands.TheConstants.{MAX_SOURCES}
use Rattle.cli_words.proofs.Spelled.{number_spelled, policy_is, named_severity}

moved_name : (name option value : WordBytes) (given : Option Given)
    → with_name name (with_option option value given) ≡ with_option option value (with_name name given)
moved_name name option value None = refl
moved_name name option value (Some given) = refl

name_first : (name : WordBytes) (words : List WordBytes) → word_of name ≡ Name
    → given_of (name ∷ words) ≡ with_name name (given_of words)
name_first name words e = rw (e, given_from) refl

option_first : (word option value : WordBytes) (words : List WordBytes) → word_of word ≡ Awaits option
    → given_of (word ∷ value ∷ words) ≡ with_option option value (given_of words)
option_first word option value words e = rw (e, given_from) refl

pub option_moved : (name word option value : WordBytes) (words : List WordBytes) → word_of name ≡ Name → word_of word ≡ Awaits option
    → given_of (name ∷ word ∷ value ∷ words) ≡ given_of (word ∷ value ∷ name ∷ words)
option_moved name word option value words e f =
    name_first name (word ∷ value ∷ words) e
    ∙ ap (with_name name) (option_first word option value words f)
    ∙ moved_name name option value (given_of words)
    ∙ ap (with_option option value) (sym (name_first name words e))
    ∙ sym (option_first word option value (name ∷ words) f)

-- ---- two spellings

some_equals : (text value : WordBytes) → list_any is_equals (text ++ 61 ∷ value) ≡ true
some_equals [] value = refl
some_equals (byte ∷ text) value = rw (some_equals text value, or-true) refl

before_equals : (text value : WordBytes) → list_any is_equals text ≡ false
    → before_first is_equals (text ++ 61 ∷ value) ≡ text
before_equals [] value none = refl
before_equals (byte ∷ text) value none = go (is_equals byte) refl (before_equals text value)
  where
    go : (b : Bool) → is_equals byte ≡ b
        → (list_any is_equals text ≡ false → before_first is_equals (text ++ 61 ∷ value) ≡ text)
        → before_first is_equals ((byte ∷ text) ++ 61 ∷ value) ≡ byte ∷ text
    go true e rest = absurd (true≢false (rw e at none))
    go false e rest = rw (e, one-add) (ap (λ (more : WordBytes). byte ∷ more) (rest (rw e at none)))

after_equals : (text value : WordBytes) → list_any is_equals text ≡ false
    → after_first is_equals (text ++ 61 ∷ value) ≡ value
after_equals [] value none = refl
after_equals (byte ∷ text) value none = go (is_equals byte) refl (after_equals text value)
  where
    go : (b : Bool) → is_equals byte ≡ b
        → (list_any is_equals text ≡ false → after_first is_equals (text ++ 61 ∷ value) ≡ value)
        → after_first is_equals ((byte ∷ text) ++ 61 ∷ value) ≡ value
    go true e rest = absurd (true≢false (rw e at none))
    go false e rest = rw (e, one-add, add-one) (rw add-one at (rest (rw e at none)))

joined_dashes : (bytes option value : WordBytes) → after_dashes bytes ≡ Awaits option
    → after_dashes (bytes ++ 61 ∷ value) ≡ Sets option value
joined_dashes [] option value e = cc
joined_dashes (byte ∷ bytes) option value e = go (list_any is_equals (byte ∷ bytes)) refl
  where
    go : (b : Bool) → list_any is_equals (byte ∷ bytes) ≡ b
        → after_dashes ((byte ∷ bytes) ++ 61 ∷ value) ≡ Sets option value
    go true f = let no : Sets (before_first is_equals (byte ∷ bytes)) (after_first is_equals (byte ∷ bytes)) ≡ Awaits option = rw f at e in cc
    go false f =
        let same : Awaits (byte ∷ bytes) ≡ Awaits option = rw f at e in
        let text : byte ∷ bytes ≡ option = cc in
        ap (λ (b : Bool). if b
        then Sets (before_first is_equals ((byte ∷ bytes) ++ 61 ∷ value)) (after_first is_equals ((byte ∷ bytes) ++ 61 ∷ value))
        else Awaits ((byte ∷ bytes) ++ 61 ∷ value)) (some_equals (byte ∷ bytes) value)
        ∙ ap₂ Sets (before_equals (byte ∷ bytes) value f ∙ text) (after_equals (byte ∷ bytes) value f)

joined_word : (word option value : WordBytes) → word_of word ≡ Awaits option → word_of (word ++ 61 ∷ value) ≡ Sets option value
joined_word [] option value e = cc
joined_word (first ∷ []) option value e = cc
joined_word (first ∷ second ∷ bytes) option value e = go (first == 45) refl (second == 45) refl
  where
    go : (a : Bool) → (first == 45) ≡ a → (b : Bool) → (second == 45) ≡ b
        → word_of ((first ∷ second ∷ bytes) ++ 61 ∷ value) ≡ Sets option value
    go false f b g = let no : Name ≡ Awaits option = rw f at e in cc
    go true f false g = let no : Unknown ≡ Awaits option = rw (f, g) at e in cc
    go true f true g = rw (f, g) (joined_dashes bytes option value (rw (f, g) at e))

pub option_spelled : (word option value : WordBytes) (words : List WordBytes) → word_of word ≡ Awaits option
    → given_of (word ∷ value ∷ words) ≡ given_of ((word ++ (codes "=" ++ value)) ∷ words)
option_spelled word option value words e =
    let joined : word_of (word ++ 61 ∷ value) ≡ Sets option value = joined_word word option value e in
    option_first word option value words e ∙ rw (joined, given_from) refl

-- ---- the order of options

crossed : (one other all : Bool) → (one && (other && all)) ≡ (other && (one && all))
crossed true other all = refl
crossed false true all = refl
crossed false false all = refl

-- what an option says, whichever of two others or of its own stands first
said_turned : {A : Type 0} (usual : A) (read : WordBytes → Option A) (one other : WordBytes × WordBytes) (options : List (WordBytes × WordBytes))
    (name : WordBytes)
    → said_by usual read (values_given (one ∷ other ∷ options) name)
    ≡ said_by usual read (values_given (other ∷ one ∷ options) name)
said_turned usual read one other options name = go (bytes_eq one.0 name) refl (bytes_eq other.0 name) refl
  where
    go : (a : Bool) → bytes_eq one.0 name ≡ a → (b : Bool) → bytes_eq other.0 name ≡ b
        → said_by usual read (values_given (one ∷ other ∷ options) name)
        ≡ said_by usual read (values_given (other ∷ one ∷ options) name)
    go true e true f = rw (e, f) refl
    go true e false f = rw (e, f) refl
    go false e true f = rw (e, f) refl
    go false e false f = rw (e, f) refl

pub options_turned : (names : List WordBytes) (one other : WordBytes × WordBytes) (options : List (WordBytes × WordBytes))
    → options_of names (one ∷ other ∷ options) ≡ options_of names (other ∷ one ∷ options)
options_turned names one other options =
    ap₂ (λ (b : Bool) (o : Option Options). if b then o else None)
    (crossed (is_among names one.0) (is_among names other.0) (list_all (λ option. is_among names option.0) options))
    (rw (
      said_turned default_options.ring (number_within MIN_RING MAX_RING) one other options (codes "ring"),
      said_turned default_options.batch (number_within 1 MAX_BATCH) one other options (codes "batch"),
      said_turned default_options.policy policy_named one other options (codes "full"),
      said_turned default_options.level severity_named one other options (codes "level"),
    ) refl)

differ : (trace log : WordBytes) → trace ≢ log → bytes_eq trace log ≡ false
differ trace log apart = go (bytes_eq trace log) refl
  where
    go : (b : Bool) → bytes_eq trace log ≡ b → b ≡ false
    go true e = absurd (apart ((bytes_eq-Decides trace log).0 e))
    go false e = refl

-- a name that is another one than those of the files which are given
abbrev IsApart : List OperandValue → WordBytes → Type 0
IsApart given name = AllByRecursion (λ value. is_file name value ≡ false) given

apart_passes : (given : List OperandValue) (name : WordBytes) → IsApart given name
    → list_all (λ value. not (is_file name value)) given ≡ true
apart_passes [] name apart = refl
apart_passes (value ∷ given) name apart = rw (apart.0, apart_passes given name apart.1) refl

other_passes : (given : List OperandValue) (name : WordBytes) → is_name name ≡ true → IsApart given name
    → is_other given name ≡ true
other_passes given name named apart = rw (named, apart_passes given name apart) refl

sources_pass : (dictionary : WordBytes) (sources : List WordBytes) → 0 < length sources → length sources ≤ MAX_SOURCES
    → All (λ source. (is_name source ≡ true) × (source ≢ dictionary)) sources
    → are_sources (File dictionary ∷ []) sources ≡ true
sources_pass dictionary sources some few all =
    let given = File dictionary ∷ [] in
    let all_pass : list_all (is_other given) sources ≡ true =
    list_all-from_AllPass (is_other given) sources
    (λ k d below.
    let source = get_or sources k d in
    other_passes given source (all k d below).0 (differ dictionary source (λ same. (all k d below).1 (sym same)), tt)) in
    rw (lt-ltb 0 (length sources) some, le-leb (length sources) MAX_SOURCES few, all_pass) refl

-- the same of a name and of names that were looked at one by one
pub other_told : {A : Type 0} (text : A → OperandValue) (given : List A) (name : WordBytes) (passed : Bool)
    → is_name name ≡ true → passed ≡ list_all (λ value. not (is_file name (text value))) given
    → passed ≡ is_other (map text given) name
other_told text given name passed named all =
    rw (named, list_all-map (λ (value : OperandValue). not (is_file name value)) text given) all

pub sources_told : {A : Type 0} (text : A → WordBytes) (given : List OperandValue) (sources : List A) (empty passed : Bool)
    → empty ≡ (length sources == 0) → empty ≡ false → length sources ≤ MAX_SOURCES
    → passed ≡ list_all (λ source. is_other given (text source)) sources
    → passed ≡ are_sources given (map text sources)
sources_told text given sources empty passed is full few all =
    let same = length-map sources text in
    let some : 0 < length sources = grind (arith, nat_tests) in
    let some_is = lt-ltb 0 (length (map text sources)) (omega (arith, some, same)) in
    let few_is = le-leb (length (map text sources)) MAX_SOURCES (omega (arith, few, same)) in
    let all_is = list_all-map (is_other given) text sources in
    rw (some_is, few_is, all_is) all

-- ---- each command has a line

-- the digits of a number of a generated trace spell it
generated_spelled : (seed calls writers : ℕ) → AreGenerated seed calls writers
    → (number_within 0 MAX_SEED (decimal seed) ≡ Some seed)
    × (number_within 0 MAX_GENERATED (decimal calls) ≡ Some calls)
    × (number_within 1 MAX_GENERATED_WRITERS (decimal writers) ≡ Some writers)
generated_spelled seed calls writers lawful = (
  number_spelled 0 MAX_SEED seed (omega arith) lawful.0 (omega (arith, lawful.0)),
  number_spelled 0 MAX_GENERATED calls (omega arith) lawful.1 (omega (arith, lawful.1)),
  number_spelled 1 MAX_GENERATED_WRITERS writers lawful.2 lawful.3 (omega (arith, lawful.3)),
)

pub line_asks : (command : Command) → IsLawful command → command_of (words_for command) ≡ Some command
line_asks (Preprocess dictionary sources) lawful =
    rw (lawful.0, sources_pass dictionary sources lawful.1 lawful.2 lawful.3) refl
line_asks (Direct trace) lawful = rw lawful refl
line_asks (Decompress log) lawful = rw lawful refl
line_asks (Aggregate log id nth) lawful =
    rw (
      lawful.0,
      number_spelled 0 MAX_ID id (omega arith) lawful.1 (omega (arith, lawful.1)),
      number_spelled 0 MAX_ID nth (omega arith) lawful.2 (omega (arith, lawful.2)),
    ) refl
line_asks (Generate seed calls writers) lawful =
    let spelled = generated_spelled seed calls writers lawful in rw (spelled.0, spelled.1, spelled.2) refl
line_asks (Selftest seed calls writers) lawful =
    let spelled = generated_spelled seed calls writers lawful in rw (spelled.0, spelled.1, spelled.2) refl
line_asks (Replay trace log options) lawful =
    rw (
      number_spelled MIN_RING MAX_RING options.ring lawful.3.0 lawful.3.1 (omega (arith, lawful.3.1)),
      number_spelled 1 MAX_BATCH options.batch lawful.3.2 lawful.3.3 (omega (arith, lawful.3.3)),
      policy_is options.policy,
      named_severity options.level,
      lawful.0,
      lawful.1,
      differ trace log lawful.2,
    ) refl
line_asks (Schedule file) lawful = rw lawful refl
line_asks (Migrate old new) lawful = rw (lawful.0, lawful.1, differ old new lawful.2) refl
line_asks (Inject dictionary source output) lawful =
    rw (lawful.0, lawful.1, lawful.2, differ dictionary output lawful.3, differ source output lawful.4) refl
line_asks (Header dictionary output) lawful = rw (lawful.0, lawful.1, differ dictionary output lawful.2) refl
