-- Each command that is asked for is lawful.
use Rattle.std.proofs.Common.{◌≡◌, ◌∙◌, ◌≢◌, ◌<◌, ◌≤◌, Bool, true, false, not, List, [], ◌∷◌, ◌++◌, length, append_assoc, append-nil}
use Rattle.std.proofs.Common.{ℕ, get_or, Option, Some, None, refl, sym, ap, subst, codes, arith}
use Rattle.std.specs.Prelude.{if◌then◌else◌, nat_le, nat_lt, option_map, option_and_then, find, IfOk, IfSome, Result, Ok, Err}
use Rattle.std.specs.List.{All, AllByRecursion, list_all}
use Rattle.std.proofs.lemmas.Bool.{true≢false, leb-true, ltb-true}
use Rattle.std.proofs.lemmas.List.Sums.{AllPass-from_list_all}
use Rattle.std.specs.Str.{bytes_eq}
use Rattle.std.proofs.lemmas.Slice.Eq.{bytes_eq-Decides}
use Rattle.log_dictionary.specs.declared.severity.Severity.{Severity}
use Rattle.session_options.specs.Bounds.{AreInBounds}
use Rattle.session_options.specs.Defaults.{default_options}
use Rattle.session_options.specs.declared.limits.TheConstants.{MIN_RING, MAX_RING, MAX_BATCH}
use Rattle.session_options.specs.declared.options.Options.{Options}
use Rattle.session_options.specs.declared.options.Policy.{Policy}
use Rattle.cli_words.specs.Commands.{WordBytes, Given, is_among}
use Rattle.cli_words.specs.Commands.{given_of, options_of, options_with, said_by}
use Rattle.cli_words.specs.Commands.{values_given, options_by, ring_by, batch_by, policy_by, level_by}
use Rattle.cli_words.specs.Commands.{OperandValue, File, Sources, Number, Seed, is_name, is_file, is_other, are_sources, value_at}
use Rattle.cli_words.specs.Commands.{words_behind, values_from, operand_values, number_within}
use Rattle.cli_words.specs.Commands.{Command}
use Rattle.cli_words.specs.Commands.{made, asked, command_of}
use Rattle.cli_words.specs.CommandViews.{command_is}
use Rattle.cli_words.specs.declared.command.Command.{Command as Asked}
use Rattle.cli_words.specs.Rows.{IsLawful}
use Rattle.cli_words.specs.declared.numbers.TheConstants.{MAX_ID, MAX_SEED}
use Rattle.cli_words.specs.declared.operands.TheConstants.{MAX_SOURCES}
use Rattle.cli_words.specs.declared.table.CommandForm.{CommandForm}
use Rattle.cli_words.specs.declared.table.CommandForm.TheVariants as forms
use Rattle.cli_words.specs.Table.{Operand, CommandRow, called, generated_operands, rows, row_named, options_taken}
use Rattle.cli_words.specs.declared.table.OperandKind.{OperandKind}
use Rattle.cli_words.specs.declared.table.OperandKind.TheVariants as kind
use Rattle.cli_words.proofs.Spelled.{LiesIn, number_lies}

-- a name that is another one than those of the files which are given
abbrev IsApart : List OperandValue → WordBytes → Type 0
IsApart given name = AllByRecursion (λ value. value ≢ File name) given

no_file : (name : WordBytes) (value : OperandValue) → is_file name value ≡ false → value ≢ File name
no_file name (File other) e same =
    let is : other ≡ name = cc in
    true≢false (sym ((bytes_eq-Decides other name).1 is) ∙ e)
no_file name (Sources names) e same = cc
no_file name (Number number) e same = cc
no_file name (Seed seed) e same = cc

apart_fits : (given : List OperandValue) (name : WordBytes) → list_all (λ value. not (is_file name value)) given ≡ true
    → IsApart given name
apart_fits [] name passes = tt
apart_fits (value ∷ given) name passes = go (is_file name value) refl (apart_fits given name)
  where
    go : (b : Bool) → is_file name value ≡ b
        → (list_all (λ other. not (is_file name other)) given ≡ true → IsApart given name) → IsApart (value ∷ given) name
    go true e rest = absurd (true≢false (sym (rw e at passes)))
    go false e rest = (no_file name value e, rest (rw e at passes))

other_fits : (given : List OperandValue) (name : WordBytes) → is_other given name ≡ true
    → (is_name name ≡ true) × IsApart given name
other_fits given name passes = go (is_name name) refl
  where
    go : (a : Bool) → is_name name ≡ a → (is_name name ≡ true) × IsApart given name
    go false e = absurd (true≢false (sym (rw e at passes)))
    go true e = (e, apart_fits given name (rw e at passes))

sources_fit : (given : List OperandValue) (sources : List WordBytes) → are_sources given sources ≡ true
    → (0 < length sources) × (length sources ≤ MAX_SOURCES)
    × All (λ source. (is_name source ≡ true) × IsApart given source) sources
sources_fit given sources fit =
    go (nat_lt 0 (length sources)) refl (nat_le (length sources) MAX_SOURCES) refl
    (list_all (is_other given) sources) refl
  where
    go : (a : Bool) → nat_lt 0 (length sources) ≡ a → (b : Bool) → nat_le (length sources) MAX_SOURCES ≡ b
        → (c : Bool) → list_all (is_other given) sources ≡ c
        → (0 < length sources) × (length sources ≤ MAX_SOURCES)
        × All (λ source. (is_name source ≡ true) × IsApart given source) sources
    go false e b f c g = absurd (true≢false (sym (rw e at fit)))
    go true e false f c g = absurd (true≢false (sym (rw (e, f) at fit)))
    go true e true f false g = absurd (true≢false (sym (rw (e, f, g) at fit)))
    go true e true f true g = (
      ltb-true 0 (length sources) e,
      leb-true (length sources) MAX_SOURCES f,
      λ k d below. other_fits given (get_or sources k d)
          (AllPass-from_list_all (is_other given) sources g k d below),
    )

-- what is true of a value, if there is one
abbrev IfThere : {A : Type 0} → (A → Type 0) → Option A → Type 0
IfThere P None = Unit {0}
IfThere P (Some x) = P x

-- the value fits an operand of this kind, behind what is given before
abbrev Fits : List OperandValue → OperandKind → OperandValue → Type 0
Fits given kind.File (File name) = is_name name ≡ true
Fits given kind.OtherFile (File name) = (is_name name ≡ true) × IsApart given name
Fits given kind.Sources (Sources names) =
    (0 < length names) × (length names ≤ MAX_SOURCES) × All (λ name. (is_name name ≡ true) × IsApart given name) names
Fits given (kind.Number least most) (Number number) = (least ≤ number) × (number ≤ most)
Fits given kind.Seed (Seed seed) = seed ≤ MAX_SEED
Fits _ _ _ = ⊥

-- each value fits its operand
abbrev AllFit : List OperandValue → List Operand → List OperandValue → Type 0
AllFit given [] [] = Unit {0}
AllFit given (operand ∷ operands) (value ∷ values) =
    Fits given operand.kind value × AllFit (given ++ value ∷ []) operands values
AllFit _ _ _ = ⊥

number_fits : (given : List OperandValue) (least most : ℕ) (found : Option ℕ) → LiesIn least most found
    → IfThere (Fits given (kind.Number least most)) (option_map Number found)
number_fits given least most None lies = tt
number_fits given least most (Some number) lies = lies

seed_fits : (given : List OperandValue) (found : Option ℕ) → LiesIn 0 MAX_SEED found
    → IfThere (Fits given kind.Seed) (option_map Seed found)
seed_fits given None lies = tt
seed_fits given (Some seed) lies = lies.1

if_true : {A : Type 0} (P : A → Type 0) (x : A) (b : Bool) → (b ≡ true → P x) → IfThere P (if b then Some x else None)
if_true P x false fits = tt
if_true P x true fits = fits refl

value_fits : (given : List OperandValue) (operand : OperandKind) (words : List WordBytes)
    → IfThere (Fits given operand) (value_at given operand words)
value_fits given kind.Sources words =
    if_true (Fits given kind.Sources) (Sources words) (are_sources given words) (sources_fit given words)
value_fits given kind.File [] = tt
value_fits given kind.OtherFile [] = tt
value_fits given (kind.Number least most) [] = tt
value_fits given kind.Seed [] = tt
value_fits given kind.File (word ∷ words) = if_true (Fits given kind.File) (File word) (is_name word) (λ e. e)
value_fits given kind.OtherFile (word ∷ words) =
    if_true (Fits given kind.OtherFile) (File word) (is_other given word) (other_fits given word)
value_fits given (kind.Number least most) (word ∷ words) =
    number_fits given least most (number_within least most word) (number_lies least most word)
value_fits given kind.Seed (word ∷ words) =
    seed_fits given (number_within 0 MAX_SEED word) (number_lies 0 MAX_SEED word)

-- behind what was given stand values that fit
abbrev GoesOn : List OperandValue → List Operand → List OperandValue → Type 0
GoesOn given operands all = (values : List OperandValue) × (all ≡ given ++ values) × AllFit given operands values

one_more : (given : List OperandValue) (operand : Operand) (operands : List Operand) (value : OperandValue) → Fits given operand.kind value
    → (found : Option (List OperandValue)) → IfThere (GoesOn (given ++ value ∷ []) operands) found → IfThere (GoesOn given (operand ∷ operands)) found
one_more given operand operands value fit None fits = tt
one_more given operand operands value fit (Some all) (values, is, fits) =
    (value ∷ values, is ∙ append_assoc given (value ∷ []) values, (fit, fits))

values_fit : (given : List OperandValue) (operands : List Operand) (words : List WordBytes)
    → IfThere (GoesOn given operands) (values_from given operands words)
values_fit given [] [] = ([], sym (append-nil given), tt)
values_fit given [] (word ∷ words) = tt
values_fit given (operand ∷ operands) words =
    go (value_at given operand.kind words) (value_fits given operand.kind words)
    (λ value. values_fit (given ++ value ∷ []) operands (words_behind operand.kind words))
  where
    go : (found : Option OperandValue) → IfThere (Fits given operand.kind) found
        → ((value : OperandValue) → IfThere (GoesOn (given ++ value ∷ []) operands) (values_from (given ++ value ∷ []) operands (words_behind operand.kind words)))
        → IfThere (GoesOn given (operand ∷ operands))
        (option_and_then (λ (value : OperandValue). values_from (given ++ value ∷ []) operands (words_behind operand.kind words)) found)
    go None fit later = tt
    go (Some value) fit later = one_more given operand operands value fit _ (later value)

-- the options that are set lie in their bounds
abbrev AreOptions : Option Options → Type 0
AreOptions = IfThere AreInBounds

said_lies : (least most usual : ℕ) → least ≤ usual → usual ≤ most → (values : List WordBytes)
    → LiesIn least most (said_by usual (number_within least most) values)
said_lies least most usual low high [] = (low, high)
said_lies least most usual low high (digits ∷ []) = number_lies least most digits
said_lies least most usual low high (digits ∷ other ∷ values) = tt

options_lie : (ring batch : Option ℕ) (policy : Option Policy) (level : Option Severity) → LiesIn MIN_RING MAX_RING ring
    → LiesIn 1 MAX_BATCH batch → AreOptions (options_with ring batch policy level)
options_lie None batch policy level a b = tt
options_lie (Some ring) None policy level a b = tt
options_lie (Some ring) (Some batch) None level a b = tt
options_lie (Some ring) (Some batch) (Some policy) None a b = tt
options_lie (Some ring) (Some batch) (Some policy) (Some level) a b = (a.0, a.1, b.0, b.1)

set_lie : (names : List WordBytes) (options : List (WordBytes × WordBytes)) → AreOptions (options_of names options)
set_lie names options =
    let values = values_given options in
    go (list_all (λ option. is_among names option.0) options)
    (options_lie (ring_by (values (codes "ring"))) (batch_by (values (codes "batch")))
    (policy_by (values (codes "full"))) (level_by (values (codes "level")))
    (said_lies MIN_RING MAX_RING default_options.ring (omega arith) (omega arith) (values (codes "ring")))
    (said_lies 1 MAX_BATCH default_options.batch (omega arith) (omega arith) (values (codes "batch"))))
  where
    go : (b : Bool) → AreOptions (options_by (values_given options))
        → AreOptions (if b then options_by (values_given options) else None)
    go true lie = lie
    go false lie = tt

-- what a row asks for is lawful, where its operands are given what fits them
abbrev AsksLawful : CommandForm → List Operand → Type 0
AsksLawful form operands = (values : List OperandValue) (options : Options) → AllFit [] operands values
    → AreInBounds options → IfThere IsLawful (made form values options)

-- another name than that of the file before it
other_name : (a b : WordBytes) → File a ≢ File b → a ≢ b
other_name a b apart same = apart (ap File same)

preprocess_lawful : AsksLawful forms.Preprocess (called (codes "DICT") kind.File ∷ called (codes "FILE..") kind.Sources ∷ [])
preprocess_lawful (File dictionary ∷ Sources sources ∷ []) options fit bounds = (
  fit.0,
  fit.1.0.0,
  fit.1.0.1,
  λ k d below.
      let source = fit.1.0.2 k d below in
      (source.0, λ same. source.1.0 (ap File (sym same))),
)
preprocess_lawful _ options fit bounds = tt

replay_lawful : AsksLawful forms.Replay (called (codes "TRACE") kind.File ∷ called (codes "LOG") kind.OtherFile ∷ [])
replay_lawful (File trace ∷ File log ∷ []) options fit bounds =
    (fit.0, fit.1.0.0, other_name trace log fit.1.0.1.0, bounds)
replay_lawful _ options fit bounds = tt

decompress_lawful : AsksLawful forms.Decompress (called (codes "LOG") kind.File ∷ [])
decompress_lawful (File log ∷ []) options fit bounds = fit.0
decompress_lawful _ options fit bounds = tt

aggregate_lawful : AsksLawful forms.Aggregate (
    called (codes "LOG") kind.File ∷ called (codes "ID") (kind.Number 0 MAX_ID)
    ∷ called (codes "NTH") (kind.Number 0 MAX_ID) ∷ [])
aggregate_lawful (File log ∷ Number id ∷ Number nth ∷ []) options fit bounds = (fit.0, fit.1.0.1, fit.1.1.0.1)
aggregate_lawful _ options fit bounds = tt

direct_lawful : AsksLawful forms.Direct (called (codes "TRACE") kind.File ∷ [])
direct_lawful (File trace ∷ []) options fit bounds = fit.0
direct_lawful _ options fit bounds = tt

generate_lawful : AsksLawful forms.Generate generated_operands
generate_lawful (Seed seed ∷ Number calls ∷ Number writers ∷ []) options fit bounds =
    (fit.0, fit.1.0.1, fit.1.1.0.0, fit.1.1.0.1)
generate_lawful _ options fit bounds = tt

selftest_lawful : AsksLawful forms.Selftest generated_operands
selftest_lawful (Seed seed ∷ Number calls ∷ Number writers ∷ []) options fit bounds =
    (fit.0, fit.1.0.1, fit.1.1.0.0, fit.1.1.0.1)
selftest_lawful _ options fit bounds = tt

schedule_lawful : AsksLawful forms.Schedule (called (codes "FILE") kind.File ∷ [])
schedule_lawful (File file ∷ []) options fit bounds = fit.0
schedule_lawful _ options fit bounds = tt

migrate_lawful : AsksLawful forms.Migrate (called (codes "OLD") kind.File ∷ called (codes "NEW") kind.OtherFile ∷ [])
migrate_lawful (File old ∷ File new ∷ []) options fit bounds = (fit.0, fit.1.0.0, other_name old new fit.1.0.1.0)
migrate_lawful _ options fit bounds = tt

inject_lawful : AsksLawful forms.Inject (
    called (codes "DICT") kind.File ∷ called (codes "FILE") kind.File ∷ called (codes "OUT") kind.OtherFile ∷ [])
inject_lawful (File dictionary ∷ File source ∷ File output ∷ []) options fit bounds =
    let apart = fit.1.1.0.1 in
    (fit.0, fit.1.0, fit.1.1.0.0, other_name dictionary output apart.0, other_name source output apart.1.0)
inject_lawful _ options fit bounds = tt

header_lawful : AsksLawful forms.Header (called (codes "DICT") kind.File ∷ called (codes "OUT") kind.OtherFile ∷ [])
header_lawful (File dictionary ∷ File output ∷ []) options fit bounds =
    (fit.0, fit.1.0.0, other_name dictionary output fit.1.0.1.0)
header_lawful _ options fit bounds = tt

abbrev AllLawful : List CommandRow → Type 0
AllLawful [] = Unit {0}
AllLawful (row ∷ rows) = AsksLawful row.form row.operands × AllLawful rows

all_lawful : AllLawful rows
all_lawful = (
  preprocess_lawful,
  (
    replay_lawful,
    (
      decompress_lawful,
      (
        aggregate_lawful,
        (
          direct_lawful,
          (
            generate_lawful,
            (
              selftest_lawful,
              (schedule_lawful, (migrate_lawful, (inject_lawful, (header_lawful, tt)))),
            ),
          ),
        ),
      ),
    ),
  ),
)

row_lawful : (word : WordBytes) (rows : List CommandRow) → AllLawful rows
    → IfThere (λ row. AsksLawful row.form row.operands) (find (λ row. bytes_eq row.word word) rows)
row_lawful word [] all = tt
row_lawful word (row ∷ rows) all = go (bytes_eq row.word word) (row_lawful word rows all.1)
  where
    go : (b : Bool)
        → IfThere (λ row. AsksLawful row.form row.operands) (find (λ row. bytes_eq row.word word) rows)
        → IfThere (λ row. AsksLawful row.form row.operands)
        (if b then Some row else find (λ row. bytes_eq row.word word) rows)
    go true rest = all.0
    go false rest = rest

asked_lawful : (row : CommandRow) (given : Given) → AsksLawful row.form row.operands → IfThere IsLawful (asked row given)
asked_lawful row given lawful =
    go (options_of (options_taken row) given.options) (set_lie (options_taken row) given.options)
    (operand_values row.operands given.names) (values_fit [] row.operands given.names)
  where
    go : (options : Option Options) → AreOptions options → (values : Option (List OperandValue))
        → IfThere (GoesOn [] row.operands) values
        → IfThere IsLawful
        (option_and_then (λ (o : Options). option_and_then (λ (v : List OperandValue). made row.form v o) values) options)
    go None lie values fit = tt
    go (Some options) lie None fit = tt
    go (Some options) lie (Some values) (found, is, fit) =
        lawful values options (subst (AllFit [] row.operands) (sym is) fit) lie

words_lawful : (words : List WordBytes) → IfThere IsLawful (command_of words)
words_lawful [] = tt
words_lawful (word ∷ words) = go (row_named word) (row_lawful word rows all_lawful) (given_of words)
  where
    go : (row : Option CommandRow) → IfThere (λ row. AsksLawful row.form row.operands) row → (given : Option Given)
        → IfThere IsLawful (option_and_then (λ (r : CommandRow). option_and_then (asked r) given) row)
    go None lawful given = tt
    go (Some row) lawful None = tt
    go (Some row) lawful (Some given) = asked_lawful row given lawful

pub asks_lawful : (words : List WordBytes) (command : Command) → command_of words ≡ Some command → IsLawful command
asks_lawful words command e = rw e at (words_lawful words)

-- the same of the program's command
pub found_lawful : (words : List WordBytes) (command : Option Asked) → option_map command_is command ≡ command_of words
    → IfSome command (λ found. IsLawful (command_is found))
found_lawful words None is = tt
found_lawful words (Some command) is = asks_lawful words (command_is command) (sym is)

pub result_lawful : {E : Type 0} (words : List WordBytes) (result : Result (Option Asked) E)
    → IfOk result (λ command. option_map command_is command ≡ command_of words)
    → IfOk result (λ command. IfSome command (λ found. IsLawful (command_is found)))
result_lawful words (Ok command) is = found_lawful words command is
result_lawful words (Err error) is = tt
