-- That what is read asks for the same command as what is given.
use Rattle.std.proofs.Common.{eqb, ◌≡◌, ◌∙◌, ◌||◌, Bool, true, false, not, List, [], ◌∷◌, map, Option, Some, None}
use Rattle.std.proofs.Common.{Bor, refl, sym, ap, ap₂, subst, codes, ℕ}
use Rattle.std.proofs.Math.Bool.{or-true}
use Rattle.std.specs.Prelude.{option_map, option_and_then, unwrap_or, if◌then◌else◌, String}
use Rattle.std.specs.List.{list_all, list_any}
use Rattle.std.specs.Option.{UnwrapsOrElse}
use Rattle.std.specs.String.{string_bytes}
use Rattle.std.specs.Str.{bytes_eq}
use Rattle.std.proofs.lemmas.Bool.{true≢false, eqb-true}
use Rattle.std.proofs.lemmas.Slice.Eq.{bytes_eq-Decides}
use Rattle.clap.specs.Matches.{found_of, matched_of, raw_values}
use Rattle.clap.specs.Walk.{Row, all_of, rows_of}
use Rattle.clap.specs.declared.parser.matches.ArgMatches.{ArgMatches}
use Rattle.clap.proofs.WalkLemmas.{raw_values-rows}
use Rattle.log_dictionary.specs.declared.severity.Severity.{Severity}
use Rattle.session_options.specs.Defaults.{default_options}
use Rattle.session_options.specs.declared.limits.TheConstants.{MIN_RING, MAX_RING, MAX_BATCH}
use Rattle.session_options.specs.declared.options.Options.{Options}
use Rattle.session_options.specs.declared.options.Policy.{Policy}
use Rattle.cli_words.specs.Commands.{WordBytes, Given, Word, Name, End, Awaits, Sets, Unknown, word_of, with_name, with_option}
use Rattle.cli_words.specs.Commands.{given_from, given_of, said_by, ring_by, batch_by, policy_by, level_by}
use Rattle.cli_words.specs.Commands.{number_within, policy_named, severity_named, options_with, options_by, options_of}
use Rattle.cli_words.specs.Commands.{values_given, is_among}
use Rattle.cli_words.specs.Commands.{OperandValue, operand_values, made, asked, command_of, command_with, texts_of}
use Rattle.cli_words.specs.Uses.{AreParsed, IsParsed, read_from, given_at, values_in, found_values, options_in, found_command}
use Rattle.cli_words.specs.Table.{CommandRow, row_named, options_taken, option_rows}
use Rattle.cli_words.proofs.Shapes.{IsPlain}
use Rattle.cli_words.proofs.Words.{same_text}

-- the word could be an option
abbrev is_option : Word → Bool
is_option Name = false
is_option _ = true

-- the option isn't taken
abbrev is_untaken : List WordBytes → WordBytes × WordBytes → Bool
is_untaken taken option = not (is_among taken option.0)

-- no command takes this option with this value
abbrev is_bad : List WordBytes → WordBytes × WordBytes → Bool
is_bad taken option = is_untaken taken option || is_option (word_of option.1)

-- what is read and what is given are the same, or nothing is read where no command takes what is given
data Agree (taken : List WordBytes) : Option Given → Option Given → Type 0 where
  neither : Agree taken None None
  same : (given : Given) → list_any (is_untaken taken) given.options ≡ false → Agree taken (Some given) (Some given)
  refused : (given : Given) → list_any (is_bad taken) given.options ≡ true → Agree taken None (Some given)

agree_name : (taken : List WordBytes) (name : WordBytes) (read given : Option Given) → Agree taken read given
    → Agree taken (with_name name read) (with_name name given)
agree_name taken name _ _ neither = neither
agree_name taken name _ _ (same given good) = same (record given { names = name ∷ given.names }) good
agree_name taken name _ _ (refused given bad) = refused (record given { names = name ∷ given.names }) bad

agree_option : (taken : List WordBytes) (option value : WordBytes) (read given : Option Given) → is_among taken option ≡ true
    → Agree taken read given → Agree taken (with_option option value read) (with_option option value given)
agree_option taken option value _ _ known neither = neither
agree_option taken option value _ _ known (same given good) =
    same (record given { options = (option, value) ∷ given.options }) (rw known good)
agree_option taken option value _ _ known (refused given bad) =
    refused (record given { options = (option, value) ∷ given.options }) (rw (bad, or-true) refl)

agree_bad : (taken : List WordBytes) (option value : WordBytes) (given : Option Given) → is_bad taken (option, value) ≡ true
    → Agree taken None (with_option option value given)
agree_bad taken option value None bad = neither
agree_bad taken option value (Some given) bad =
    refused (record given { options = (option, value) ∷ given.options }) (rw bad refl)

agree_untaken : (taken : List WordBytes) (option : WordBytes) (words : List WordBytes) → is_among taken option ≡ false
    → Agree taken None (given_from (Some option) words)
agree_untaken taken option [] unknown = neither
agree_untaken taken option (value ∷ words) unknown =
    agree_bad taken option value (given_from None words) (rw unknown refl)

abbrev Idle : List WordBytes → List WordBytes → Type 0
Idle taken words = Agree taken (read_from taken None words) (given_from None words)

abbrev Waits : List WordBytes → List WordBytes → Type 0
Waits taken words = (option : WordBytes) → is_among taken option ≡ true
    → Agree taken (read_from taken (Some option) words) (given_from (Some option) words)

-- an option that is taken, with a value that could be an option
bad_value : (taken : List WordBytes) (option value : WordBytes) → is_option (word_of value) ≡ true → is_bad taken (option, value) ≡ true
bad_value taken option value e = rw (e, or-true) refl

idle_step : (taken : List WordBytes) (word : WordBytes) (words : List WordBytes) → Idle taken words → Waits taken words
    → (kind : Word) → word_of word ≡ kind → Idle taken (word ∷ words)
idle_step taken word words idle waits Name e =
    rw (e, read_from, given_from) (agree_name taken word _ _ idle)
idle_step taken word words idle waits End e = rw (e, read_from, given_from) (same (record { options = []; names = words }) refl)
idle_step taken word words idle waits (Awaits option) e = rw (e, read_from, given_from) (go (is_among taken option) refl)
  where
    go : (known : Bool) → is_among taken option ≡ known
        → Agree taken (if known then read_from taken (Some option) words else None) (given_from (Some option) words)
    go true known = waits option known
    go false unknown = agree_untaken taken option words unknown
idle_step taken word words idle waits (Sets option value) e = rw (e, read_from, given_from) (go (is_among taken option) refl)
  where
    go : (known : Bool) → is_among taken option ≡ known
        → Agree taken (if known then with_option option value (read_from taken None words) else None)
        (with_option option value (given_from None words))
    go true known =
        agree_option taken option value (read_from taken None words) (given_from None words) known idle
    go false unknown = agree_bad taken option value (given_from None words) (rw unknown refl)
idle_step taken word words idle waits Unknown e = rw (e, read_from, given_from) neither

waits_step : (taken : List WordBytes) (value : WordBytes) (words : List WordBytes) → Idle taken words
    → (kind : Word) → word_of value ≡ kind → Waits taken (value ∷ words)
waits_step taken value words idle Name e option known =
    rw e (agree_option taken option value (read_from taken None words) (given_from None words) known idle)
waits_step taken value words idle End e option known =
    rw e (agree_bad taken option value (given_from None words) (bad_value taken option value (rw e refl)))
waits_step taken value words idle (Awaits other) e option known =
    rw e (agree_bad taken option value (given_from None words) (bad_value taken option value (rw e refl)))
waits_step taken value words idle (Sets other other_value) e option known =
    rw e (agree_bad taken option value (given_from None words) (bad_value taken option value (rw e refl)))
waits_step taken value words idle Unknown e option known =
    rw e (agree_bad taken option value (given_from None words) (bad_value taken option value (rw e refl)))

agree : (taken : List WordBytes) (words : List WordBytes) → Idle taken words × Waits taken words
agree taken [] = (same (record { options = []; names = [] }) refl, λ option known. neither)
agree taken (word ∷ words) =
    let rest = agree taken words in (
      idle_step taken word words rest.0 rest.1 (word_of word) refl,
      waits_step taken word words rest.0 (word_of word) refl,
    )

-- ---- a value that could be an option

-- a value that a command refuses where it could be an option
no_value : {A : Type 0} (read : WordBytes → Option A) → ((second : ℕ) (bytes : WordBytes) → read (45 ∷ second ∷ bytes) ≡ None)
    → (value : WordBytes) → is_option (word_of value) ≡ true → read value ≡ None
no_value read refuses [] other = absurd (true≢false (sym other))
no_value read refuses (first ∷ []) other = absurd (true≢false (sym other))
no_value read refuses (first ∷ second ∷ bytes) other = go (eqb first 45) refl
  where
    go : (b : Bool) → eqb first 45 ≡ b → read (first ∷ second ∷ bytes) ≡ None
    go true e = let dash : first ≡ 45 = eqb-true first 45 e in rw dash (refuses second bytes)
    go false e = absurd (true≢false (sym (rw e at other)))

no_second : (ring : Option ℕ) (policy : Option Policy) (level : Option Severity)
    → options_with ring None policy level ≡ None
no_second None policy level = refl
no_second (Some ring) policy level = refl

no_third : (ring batch : Option ℕ) (level : Option Severity) → options_with ring batch None level ≡ None
no_third None batch level = refl
no_third (Some ring) None level = refl
no_third (Some ring) (Some batch) level = refl

no_fourth : (ring batch : Option ℕ) (policy : Option Policy) → options_with ring batch policy None ≡ None
no_fourth None batch policy = refl
no_fourth (Some ring) None policy = refl
no_fourth (Some ring) (Some batch) None = refl
no_fourth (Some ring) (Some batch) (Some policy) = refl

-- one of the values could be an option
abbrev HasBad : List WordBytes → Type 0
HasBad values = list_any (λ value. is_option (word_of value)) values ≡ true

none_said : {A : Type 0} (usual : A) (read : WordBytes → Option A)
    → ((second : ℕ) (bytes : WordBytes) → read (45 ∷ second ∷ bytes) ≡ None)
    → (values : List WordBytes) → HasBad values → said_by usual read values ≡ None
none_said usual read refuses [] bad = absurd (true≢false (sym bad))
none_said usual read refuses (value ∷ []) bad = go (is_option (word_of value)) refl
  where
    go : (b : Bool) → is_option (word_of value) ≡ b → read value ≡ None
    go true e = no_value read refuses value e
    go false e = absurd (true≢false (sym (rw e at bad)))
none_said usual read refuses (value ∷ other ∷ values) bad = refl

-- the options that a command takes are those of a session, or none
abbrev pub taken_by : Bool → List WordBytes
taken_by has_options = map (λ option. option.name) (if has_options then option_rows else [])

-- the names of the options of a session
abbrev session_names : List WordBytes
session_names = taken_by true

-- no options of a session are given such a value
no_options : (values : WordBytes → List WordBytes) (name : WordBytes) → is_among session_names name ≡ true → HasBad (values name)
    → options_by values ≡ None
no_options values name known bad =
    go (bytes_eq (codes "ring") name) refl (bytes_eq (codes "batch") name) refl
    (bytes_eq (codes "full") name) refl (bytes_eq (codes "level") name) refl
  where
    -- the values of the option that has this name
    at_name : (option : WordBytes) → bytes_eq option name ≡ true → HasBad (values option)
    at_name option e = subst (λ (text : WordBytes). HasBad (values text)) (sym ((bytes_eq-Decides option name).0 e)) bad

    go : (a : Bool) → bytes_eq (codes "ring") name ≡ a → (b : Bool) → bytes_eq (codes "batch") name ≡ b
        → (c : Bool) → bytes_eq (codes "full") name ≡ c → (d : Bool) → bytes_eq (codes "level") name ≡ d
        → options_by values ≡ None
    go true e b f c g d h =
        let none : ring_by (values (codes "ring")) ≡ None =
        none_said default_options.ring (number_within MIN_RING MAX_RING) (λ second bytes. refl) (values (codes "ring"))
        (at_name (codes "ring") e) in
        rw none refl
    go false e true f c g d h =
        let none : batch_by (values (codes "batch")) ≡ None =
        none_said default_options.batch (number_within 1 MAX_BATCH) (λ second bytes. refl) (values (codes "batch"))
        (at_name (codes "batch") f) in
        rw none (no_second (ring_by (values (codes "ring"))) (policy_by (values (codes "full")))
        (level_by (values (codes "level"))))
    go false e false f true g d h =
        let none : policy_by (values (codes "full")) ≡ None =
        none_said default_options.policy policy_named (λ second bytes. refl) (values (codes "full"))
        (at_name (codes "full") g) in
        rw none (no_third (ring_by (values (codes "ring"))) (batch_by (values (codes "batch")))
        (level_by (values (codes "level"))))
    go false e false f false g true h =
        let none : level_by (values (codes "level")) ≡ None =
        none_said default_options.level severity_named (λ second bytes. refl) (values (codes "level"))
        (at_name (codes "level") h) in
        rw none (no_fourth (ring_by (values (codes "ring"))) (batch_by (values (codes "batch")))
        (policy_by (values (codes "full"))))
    go false e false f false g false h = absurd (true≢false (sym (rw (e, f, g, h) at known)))

-- each option is one of these
abbrev are_among : List WordBytes → List (WordBytes × WordBytes) → Bool
are_among taken options = list_all (λ option. is_among taken option.0) options

-- an option with such a value, where all are taken
bad_option : (taken : List WordBytes) (options : List (WordBytes × WordBytes)) → list_any (is_bad taken) options ≡ true
    → are_among taken options ≡ true
    → (name : WordBytes) × (is_among taken name ≡ true) × HasBad (values_given options name)
bad_option taken [] bad all = absurd (true≢false (sym bad))
bad_option taken (option ∷ options) bad all =
    go (is_among taken option.0) refl (is_option (word_of option.1)) refl (bad_option taken options)
  where
    go : (k : Bool) → is_among taken option.0 ≡ k → (b : Bool) → is_option (word_of option.1) ≡ b
        → (list_any (is_bad taken) options ≡ true → are_among taken options ≡ true
        → (name : WordBytes) × (is_among taken name ≡ true) × HasBad (values_given options name))
        → (name : WordBytes) × (is_among taken name ≡ true) × HasBad (values_given (option ∷ options) name)
    go false k b e rest = absurd (true≢false (sym (rw k at all)))
    go true k true e rest = (option.0, k, rw (same_text option.0, e) refl)
    go true k false e rest =
        let found = rest (rw (k, e) at bad) (rw k at all) in
        (found.0, found.1, behind found.0 (bytes_eq option.0 found.0) refl found.2)
      where
        behind : (name : WordBytes) (c : Bool) → bytes_eq option.0 name ≡ c → HasBad (values_given options name)
            → HasBad (values_given (option ∷ options) name)
        behind name true f later = rw (f, e) later
        behind name false f later = rw f later

no_options_set : (has_options : Bool) (options : List (WordBytes × WordBytes))
    → list_any (is_bad (taken_by has_options)) options ≡ true → options_of (taken_by has_options) options ≡ None
no_options_set false [] bad = absurd (true≢false (sym bad))
no_options_set false (option ∷ options) bad = refl
no_options_set true options bad = go (are_among session_names options) refl
  where
    go : (b : Bool) → are_among session_names options ≡ b → options_of session_names options ≡ None
    go false e = rw e refl
    go true e =
        let found = bad_option session_names options bad e in
        rw e (no_options (values_given options) found.0 found.1 found.2)

-- no command takes an option with the id of the names
pub are_plain : (has_options : Bool) → IsPlain (taken_by has_options)
are_plain false = refl
are_plain true = refl

-- all options are taken
all_among : (taken : List WordBytes) (options : List (WordBytes × WordBytes)) → list_any (is_untaken taken) options ≡ false
    → are_among taken options ≡ true
all_among taken [] known = refl
all_among taken (option ∷ options) known = go (is_among taken option.0) refl (all_among taken options)
  where
    go : (k : Bool) → is_among taken option.0 ≡ k
        → (list_any (is_untaken taken) options ≡ false → are_among taken options ≡ true)
        → are_among taken (option ∷ options) ≡ true
    go true k rest = rw k (rest (rw k at known))
    go false k rest = absurd (true≢false (rw k at known))

-- ---- what is found

pub same_options : (found given : WordBytes → List WordBytes) → found (codes "ring") ≡ given (codes "ring")
    → found (codes "batch") ≡ given (codes "batch") → found (codes "full") ≡ given (codes "full")
    → found (codes "level") ≡ given (codes "level") → options_by found ≡ options_by given
same_options found given a b c d = rw (a, b, c, d) refl

-- the options by what is found, where all options are taken
options_found : (has_options : Bool) (given : Given) (values : WordBytes → List WordBytes)
    → list_any (is_untaken (taken_by has_options)) given.options ≡ false
    → ((id : WordBytes) → values id ≡ given_at given id)
    → options_in has_options values ≡ options_of (taken_by has_options) given.options
options_found true given values known are =
    let all = all_among session_names given.options known in
    rw all
    (same_options values (values_given given.options) (are (codes "ring")) (are (codes "batch"))
    (are (codes "full")) (are (codes "level")))
options_found false given values known are = none given.options known
  where
    none : (options : List (WordBytes × WordBytes)) → list_any (is_untaken []) options ≡ false
        → Some default_options ≡ options_of [] options
    none [] known = refl
    none (option ∷ options) known = absurd (true≢false known)

-- the command by what is found is the one by what is given
found_agrees : (row : CommandRow) (rows : Option (List Row)) (read given : Option Given) → AreParsed rows read
    → Agree (options_taken row) read given
    → option_and_then (λ (r : List Row). found_command row (values_in r)) rows ≡ option_and_then (asked row) given
found_agrees row None _ _ are neither = refl
found_agrees row None _ _ are (refused given bad) =
    ap (option_and_then (command_with row given.names)) (sym (no_options_set row.has_options given.options bad))
found_agrees row None _ _ are (same given known) = absurd are
found_agrees row (Some rows) _ _ are neither = absurd are
found_agrees row (Some rows) _ _ are (refused given bad) = absurd are
found_agrees row (Some rows) _ _ are (same given known) =
    ap₂ (λ (names : List WordBytes) (o : Option Options). option_and_then (command_with row names) o)
    (are (codes "names")) (options_found row.has_options given (values_in rows) known are)

-- the texts of the first word and of those after it
whole_line : {A : Type 0} (words rest : List (String A)) (word : String A) (text : WordBytes) → words ≡ word ∷ rest
    → text ≡ string_bytes word → text ∷ texts_of rest ≡ texts_of words
whole_line words rest word text cut is =
    ap (λ (first : WordBytes). first ∷ texts_of rest) is ∙ sym (ap texts_of cut)

-- words of the program whose first is of no command
pub none_from : {A : Type 0} (words rest : List (String A)) (word : String A) (text : WordBytes) → words ≡ word ∷ rest
    → text ≡ string_bytes word → None ≡ row_named text → None ≡ command_of (texts_of words)
none_from words rest word text cut is named =
    ap (option_and_then (λ (row : CommandRow). option_and_then (asked row) (given_of (texts_of rest)))) named
    ∙ ap command_of (whole_line words rest word text cut is)

-- the command that is found is the one that the words of the program ask for
pub command_from : {A : Type 0} (words rest : List (String A)) (word : String A) (text : WordBytes) (row : CommandRow)
    (found read : Option ArgMatches) → words ≡ word ∷ rest → text ≡ string_bytes word → Some row ≡ row_named text
    → read ≡ found → IsParsed (options_taken row) (texts_of rest) read
    → option_and_then (λ (m : ArgMatches). found_command row (found_values m)) found ≡ command_of (texts_of words)
command_from words rest word text row found read cut is named told are =
    ap (option_and_then (λ (m : ArgMatches). found_command row (found_values m))) (sym told)
    ∙ go read
    ∙ found_agrees row (option_map (λ m. rows_of (found_of m)) read) _ _ are
    (agree (options_taken row) (texts_of rest)).0
    ∙ ap (option_and_then (λ (row : CommandRow). option_and_then (asked row) (given_of (texts_of rest)))) named
    ∙ ap command_of (whole_line words rest word text cut is)
  where
    go : (found : Option ArgMatches)
        → option_and_then (λ (m : ArgMatches). found_command row (found_values m)) found
        ≡ option_and_then (λ (r : List Row). found_command row (values_in r))
        (option_map (λ m. rows_of (found_of m)) found)
    go None = refl
    go (Some m) = refl

-- the command that is made is the one by what is found
pub made_found : (row : CommandRow) (found : WordBytes → List WordBytes) (names : List WordBytes) (options : Options)
    (values : Option (List OperandValue)) → Some options ≡ options_in row.has_options found
    → values ≡ operand_values row.operands names → names ≡ found (codes "names")
    → option_and_then (λ (v : List OperandValue). made row.form v options) values ≡ found_command row found
made_found row found names options values set is are =
    ap (option_and_then (λ (v : List OperandValue). made row.form v options)) is
    ∙ ap (λ (all : List WordBytes). command_with row all options) are
    ∙ ap (option_and_then (command_with row (found (codes "names")))) set

-- what is found of an id
pub found_are : (matches : ArgMatches) (id : WordBytes)
    → option_map raw_values (matched_of (found_of matches) id) ≡ all_of id (rows_of (found_of matches))
found_are matches id = raw_values-rows (found_of matches) id

-- the values that are found, or none
pub values_or_none : (found : Option (Bor (List (Bor WordBytes)))) (all : Bor (List (Bor WordBytes)))
    (values : Option (List WordBytes)) → UnwrapsOrElse found (λ none. none.now ≡ []) all
    → option_map (λ (all : Bor (List (Bor WordBytes))). map (λ value. value.now) all.now) found ≡ values
    → map (λ value. value.now) all.now ≡ unwrap_or values []
values_or_none None all values empty is =
    ap (map (λ (value : Bor WordBytes). value.now)) empty
    ∙ ap (λ (all : Option (List WordBytes)). unwrap_or all []) is
values_or_none (Some found) all values e is =
    ap (λ (all : Bor (List (Bor WordBytes))). map (λ (value : Bor WordBytes). value.now) all.now) e
    ∙ ap (λ (all : Option (List WordBytes)). unwrap_or all []) is
