-- The table as the program has it.
use Rattle.std.proofs.Common.{◌≡◌, ◌∙◌, ◌++◌, ℕ, Bool, true, false, List, [], ◌∷◌, map, Option, Some, None, Bor, refl, ap, ap₂, codes, append_assoc}
use Rattle.std.specs.Prelude.{find, flat_map, option_map, if◌then◌else◌}
use Rattle.std.specs.Str.{bytes_eq}
use Rattle.cli_words.specs.Table.{CommandRow, SessionOption, rows, row_named, row_options}
use Rattle.cli_words.specs.TableViews.{row_is, operand_is, option_is}
use Rattle.cli_words.specs.Usage.{shown_operand, shown_option, usage_line}
use Rattle.cli_words.specs.declared.table.CommandRow.{CommandRow as RowRead}
use Rattle.cli_words.specs.declared.table.SessionOption.{SessionOption as OptionRead}

find_viewed : {A B : Type 0} (view : A → B) (test : B → Bool) (xs : List A)
    → option_map view (find (λ x. test (view x)) xs) ≡ find test (map view xs)
find_viewed view test [] = refl
find_viewed view test (x ∷ xs) = go (test (view x)) (find_viewed view test xs)
  where
    go : (b : Bool) → option_map view (find (λ y. test (view y)) xs) ≡ find test (map view xs)
        → option_map view (if b then Some x else find (λ y. test (view y)) xs)
        ≡ (if b then Some (view x) else find test (map view xs))
    go true rest = refl
    go false rest = rest

twice : (found : Option (Bor RowRead))
    → option_map (λ command. row_is command.now) found ≡ option_map row_is (option_map (λ command. command.now) found)
twice None = refl
twice (Some command) = refl

-- the row that is found among all of them
pub row_found : (word : List ℕ) (found : Option (Bor RowRead)) (all : List RowRead)
    → option_map (λ command. command.now) found ≡ find (λ command. bytes_eq command.word.now word) all
    → map row_is all ≡ rows → option_map (λ command. row_is command.now) found ≡ row_named word
row_found word found all is are =
    twice found ∙ ap (option_map row_is) is
    ∙ find_viewed row_is (λ (command : CommandRow). bytes_eq command.word word) all
    ∙ ap (find (λ (command : CommandRow). bytes_eq command.word word)) are

-- the names of options
pub names_viewed : (options : List OptionRead) (named : List SessionOption) → map option_is options ≡ named
    → map (λ option. option.name.now) options ≡ map (λ option. option.name) named
names_viewed options named are = go options ∙ ap (map (λ (option : SessionOption). option.name)) are
  where
    go : (options : List OptionRead)
        → map (λ option. option.name.now) options ≡ map (λ option. option.name) (map option_is options)
    go [] = refl
    go (option ∷ options) = ap (λ (names : List (List ℕ)). option.name.now ∷ names) (go options)

-- what is shown of each
shown_viewed : {A B : Type 0} (view : A → B) (shown : B → List ℕ) (xs : List A)
    → flat_map (λ x. shown (view x)) xs ≡ flat_map shown (map view xs)
shown_viewed view shown [] = refl
shown_viewed view shown (x ∷ xs) = ap (λ (text : List ℕ). shown (view x) ++ text) (shown_viewed view shown xs)

reassociated : (before head word operands options end : List ℕ)
    → ((((before ++ head) ++ word) ++ operands) ++ options) ++ end ≡ before ++ ((((head ++ word) ++ operands) ++ options) ++ end)
reassociated before head word operands options end =
    ap (λ (text : List ℕ). (((text ++ operands) ++ options) ++ end)) (append_assoc before head word)
    ∙ ap (λ (text : List ℕ). ((text ++ options) ++ end)) (append_assoc before (head ++ word) operands)
    ∙ ap (λ (text : List ℕ). text ++ end) (append_assoc before ((head ++ word) ++ operands) options)
    ∙ append_assoc before (((head ++ word) ++ operands) ++ options) end

-- the line of a command, by its parts
pub line_shown : (row : RowRead) (options : List OptionRead) (before headed named filled all line : List ℕ)
    → map option_is options ≡ row_options (row_is row)
    → headed ≡ before ++ codes "  nanolog " → named ≡ headed ++ row.word.now
    → filled ≡ named ++ flat_map (λ operand. shown_operand (operand_is operand)) row.operands.now
    → all ≡ filled ++ flat_map (λ option. shown_option (option_is option)) options
    → line ≡ all ++ codes "\n" → line ≡ before ++ usage_line (row_is row)
line_shown row options before headed named filled all line are a b c d e =
    let end = codes "\n" in
    e
    ∙ ap (λ (text : List ℕ). text ++ end) (d
    ∙ ap₂ (λ (text shown : List ℕ). text ++ shown)
    (c ∙ ap₂ (λ (text shown : List ℕ). text ++ shown) (b ∙ ap (λ (text : List ℕ). text ++ row.word.now) a)
    (shown_viewed operand_is shown_operand row.operands.now))
    (shown_viewed option_is shown_option options ∙ ap (flat_map shown_option) are))
    ∙ reassociated before (codes "  nanolog ") row.word.now (flat_map shown_operand (map operand_is row.operands.now))
    (flat_map shown_option (row_options (row_is row))) end
