-- What the reader answers.
use Rattle.std.proofs.Common.{◌≡◌, ◌∙◌, ◌&&◌, ◌++◌, ◌+◌, ◌<◌, ◌≤◌, not, map, ℕ, suc, Bool, true, false, List, [], ◌∷◌, Option, Some, None}
use Rattle.std.proofs.Common.{add-one, arith, get_or, length, take, refl, sym, ap, ap₂, cond, codes}
use Rattle.std.proofs.Math.Seq.{take-length, take-suc}
use Rattle.std.proofs.lemmas.List.{map-append}
use Rattle.std.specs.Prelude.{if◌then◌else◌, fold, String}
use Rattle.std.proofs.Math.Bool.{or-true}
use Rattle.std.proofs.lemmas.Str.{IsUtf8-string_bytes}
use Rattle.std.proofs.Common.{inl, inr, subst}
use Rattle.clap.specs.Matches.{found_of}
use Rattle.clap.specs.Values.{kind_of}
use Rattle.clap.specs.declared.parser.matches.ArgMatches.{ArgMatches}
use Rattle.clap.specs.declared.error.Error.{Error}
use Rattle.clap.specs.declared.error.kind.ErrorKind.TheVariants.{OutOfMemory}
use Rattle.clap.specs.declared.builder.command.Command.{Command}
use Rattle.clap.specs.declared.builder.command.Command.TheViews.{out-Command as fields_of}
use Rattle.clap.specs.Walk.{Row, Rule, Text, Held, rows_of, finished, idle, nothing_held, walk, walk_from, rows_after, has_row, with_default}
use Rattle.clap.specs.Kinds.{HasKind, Kinds, check_kinds, or_else}
use Rattle.clap.specs.Takes.{is_given}
use Rattle.clap.specs.Faults.{built_fault, check_fault, defaults_fault, fault_of, is_simple_and_free, level_fault, settle_fault, walk_fault}
use Rattle.clap.specs.Simple.{App, HasMatchesOf, app_of, app_of_fields, is_simple, matches_of, names_of, new_app, on_top, with_rule}
use Rattle.clap.proofs.FaultLemmas.{leaf_fault}
use Rattle.cli_words.specs.Apps.{app, names_argument, option_argument}
use Rattle.cli_words.specs.Uses.{AreParsed, IsParsed, read_from}
use Rattle.cli_words.specs.Commands.{texts_of}
use Rattle.cli_words.proofs.Shapes.{IsPlain, names_rule, option_rule, rules, shape, app_is_free, app_is_simple, built_is, no_option, one_more}
use Rattle.cli_words.proofs.Walks.{is_right, held, at, rows_at, ended}
use Rattle.cli_words.proofs.WalkedWords.{AreTexts, all_read}

-- words of the program are texts
pub are_texts : {A : Type 0} (words : List (String A)) → AreTexts (texts_of words)
are_texts [] = tt
are_texts (word ∷ words) = (IsUtf8-string_bytes word, are_texts words)

cond_same : {X : Type 0} (b : Bool) (x : X) → cond b x x ≡ x
cond_same true x = refl
cond_same false x = refl

-- no argument has a default
options_default : (taken : List Text) (rows : List Row) → defaults_fault rows (map option_rule taken) ≡ []
unfolding defaults_fault
options_default [] rows = refl
options_default (option ∷ taken) rows = rw or-true (options_default taken (with_default rows (option_rule option)))

no_default : (taken : List Text) (rows : List Row) → defaults_fault rows (rules taken) ≡ []
unfolding defaults_fault
no_default taken rows = rw or-true (options_default taken (with_default rows names_rule))

options_used : (taken : List Text) (rows : List Row) → fold with_default rows (map option_rule taken) ≡ rows
options_used [] rows = refl
options_used (option ∷ taken) rows =
    ap (λ (r : List Row). fold with_default r (map option_rule taken)) (cond_same (has_row option rows) rows)
    ∙ options_used taken rows

all_used : (taken : List Text) (h : Held) → finished (rules taken) h ≡ rows_at taken h
all_used taken h =
    ap (λ (r : List Row). fold with_default r (map option_rule taken))
    (cond_same (has_row (codes "names") (rows_at taken h)) (rows_at taken h))
    ∙ options_used taken (rows_at taken h)

-- no argument is required
no_check : (taken : List Text) (rows : List Row) → check_fault (shape taken) rows false ≡ []
no_check taken rows =
    ap (λ (b : Bool). check_kinds false false b)
    (no_option (λ rule. rule.required && not (is_given rule.id rows)) (λ option. refl) taken)

-- where the walk over the words ends
abbrev end : List Text → List Text → Held
end taken words = (walk (rules taken) [] nothing_held words).held

-- what may be wrong: a word, or the use that isn't settled at the end
level_fault_is : (taken : List Text) (words : List Text)
    → level_fault (shape taken) [] nothing_held words false []
    ≡ or_else (walk_fault (shape taken) [] (walk_from nothing_held) words)
    (or_else [] (or_else (settle_fault (rules taken) false (end taken words)) (or_else [] [])))
level_fault_is taken words =
    rw (
      no_default taken (rows_at taken (end taken words)),
      no_check taken (finished (rules taken) (end taken words)),
    ) refl

-- all is found at the end
found_is : (taken : List Text) (words : List Text)
    → (if is_right (level_fault (shape taken) [] nothing_held words false [])
    then Some (finished (rules taken) (end taken words)) else None)
    ≡ ended taken (at (held [] None) idle false) words
found_is taken words =
    rw (level_fault_is taken words, all_used taken (end taken words))
    (go (walk_fault (shape taken) [] (walk_from nothing_held) words)
    (settle_fault (rules taken) false (end taken words)))
  where
    go : (words_fault end_fault : Kinds)
        → (if is_right (or_else words_fault (or_else [] (or_else end_fault (or_else [] []))))
        then Some (rows_at taken (end taken words)) else None)
        ≡ (if is_right words_fault
        then (if is_right end_fault then Some (rows_at taken (end taken words)) else None) else None)
    go [] [] = refl
    go [] (kind ∷ kinds) = refl
    go (kind ∷ kinds) end_fault = refl

fault_is : (taken : List Text) (words : List Text)
    → fault_of (app taken) words ≡ level_fault (shape taken) [] nothing_held words false []
fault_is taken words =
    ap (λ (a : App). built_fault a nothing_held words) (built_is taken)
    ∙ leaf_fault (record { top = shape taken; subs = [] }) nothing_held words refl

matches_is : (taken : List Text) (words : List Text)
    → matches_of (app taken) words ≡ finished (rules taken) (end taken words)
matches_is taken words = ap (λ (a : App). rows_after a.top.rules (names_of a) words) (built_is taken)

-- what is found is what is read of the words
pub answer_is : (taken : List Text) (words : List Text) → IsPlain taken → AreTexts words
    → AreParsed (if is_right (fault_of (app taken) words) then Some (matches_of (app taken) words) else None)
    (read_from taken None words)
answer_is taken words plain texts =
    rw (fault_is taken words, matches_is taken words, found_is taken words) (all_read taken words plain texts)

-- ---- the program's calls

-- where the reader finds something
pub found_by : (a : App) (taken : List Text) (words : List Text) (found : ArgMatches) → a ≡ app taken → IsPlain taken
    → AreTexts words → HasMatchesOf a words found → (is_simple_and_free a ≡ true → fault_of a words ≡ [])
    → IsParsed taken words (Some found)
found_by a taken words found same plain texts matches right =
    let simple : is_simple a ≡ true = ap is_simple same ∙ app_is_simple taken in
    let free : is_simple_and_free a ≡ true = ap is_simple_and_free same ∙ app_is_free taken in
    let rows : rows_of (found_of found) ≡ matches_of (app taken) words =
    (matches simple).0 ∙ ap (λ (x : App). matches_of x words) same in
    let no_fault : fault_of (app taken) words ≡ [] = ap (λ (x : App). fault_of x words) (sym same) ∙ right free in
    subst (λ (o : Option (List Row)). AreParsed o (read_from taken None words))
    (ap (λ (kinds : Kinds). if is_right kinds then Some (matches_of (app taken) words) else None) no_fault
    ∙ ap (λ (r : List Row). Some r) (sym rows))
    (answer_is taken words plain texts)

-- where it refuses the words
pub refused_by : (a : App) (taken : List Text) (words : List Text) (error : Error) → a ≡ app taken → IsPlain taken
    → AreTexts words → (is_simple_and_free a ≡ true → HasKind (fault_of a words) error)
    → (kind_of error ≡ OutOfMemory → ⊥) → IsParsed taken words None
refused_by a taken words error same plain texts wrong memory =
    let free : is_simple_and_free a ≡ true = ap is_simple_and_free same ∙ app_is_free taken in
    go (fault_of (app taken) words) refl
    (subst (λ (x : App). HasKind (fault_of x words) error) same (wrong free))
  where
    go : (kinds : Kinds) → fault_of (app taken) words ≡ kinds → HasKind kinds error → IsParsed taken words None
    go kinds e (inl is) = absurd (memory is)
    go [] e (inr among) = absurd among
    go (kind ∷ kinds) e (inr among) =
        subst (λ (o : Option (List Row)). AreParsed o (read_from taken None words))
        (ap (λ (faults : Kinds). if is_right faults then Some (matches_of (app taken) words) else None) e)
        (answer_is taken words plain texts)

-- what the reader is told: of the names, and then of the options
pub plain_is : (made named plain : Command) → app_of made ≡ new_app (codes "nanolog")
    → fields_of named ≡ record (fields_of made) { no_binary_name = true }
    → fields_of plain ≡ record (fields_of named) { disable_help_flag = true }
    → with_rule (app_of plain) names_argument ≡ app []
plain_is made named plain is_made is_named is_plain =
    ap (λ (a : App). with_rule a names_argument) (ap app_of_fields is_plain
    ∙ ap (on_top (λ s. record s { disable_help_flag = true }))
    (ap app_of_fields is_named ∙ ap (on_top (λ s. record s { no_binary_name = true })) is_made))

-- ---- one option after another

pub one_more_taken : {A : Type 0} (name : A → Text) (options : List A) (place : ℕ) (d : A) (before after : App)
    (rule : Rule) → place < length options → after ≡ with_rule before rule
    → before ≡ app (map name (take place options)) → rule ≡ option_argument (name (get_or options place d))
    → after ≡ app (map name (take (place + 1) options))
one_more_taken {A = A} name options place d before after rule below added all is =
    let option = get_or options place d in
    let more : take (suc place) options ≡ take place options ++ option ∷ [] = take-suc options place d below in
    added ∙ ap₂ with_rule all is
    ∙ one_more (map name (take place options)) (name option)
    ∙ ap app (sym (map-append name (take place options) (option ∷ [])))
    ∙ ap (λ (all : List A). app (map name all)) (sym more)
    ∙ ap (λ (n : ℕ). app (map name (take n options))) (sym (add-one place))

pub all_taken : {A : Type 0} (name : A → Text) (options : List A) (place : ℕ) (names : List Text) (a : App)
    → a ≡ app (map name (take place options)) → place ≤ length options → length options ≤ place
    → map name options ≡ names → a ≡ app names
all_taken {A = A} name options place names a all within whole are =
    let end : place ≡ length options = omega arith in
    all ∙ ap (λ (n : ℕ). app (map name (take n options))) end
    ∙ ap (λ (xs : List A). app (map name xs)) (take-length options)
    ∙ ap app are
