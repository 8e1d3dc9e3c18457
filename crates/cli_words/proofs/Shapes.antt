-- The reader of words as it is built.
use Rattle.std.proofs.Common.{◌≡◌, ◌∙◌, ◌&&◌, not, ℕ, Bool, true, false, List, [], ◌∷◌, ◌++◌, map, Some, None, refl, sym, ap, codes}
use Rattle.std.specs.Prelude.{if◌then◌else◌, count_by, is_some}
use Rattle.std.specs.List.{list_all, list_any}
use Rattle.std.specs.Str.{bytes_eq}
use Rattle.std.proofs.lemmas.Bool.{true≢false}
use Rattle.std.proofs.lemmas.Slice.Eq.{bytes_eq-Decides}
use Rattle.std.proofs.lemmas.List.{map-append}
use Rattle.clap.specs.Walk.{Rule, Text, arg_by_id, arg_by_long, arg_by_short, is_early_multiple}
use Rattle.clap.specs.Simple.{App, Shape, new_shape, is_buildable, is_in_order, is_ready, is_ready_leaf, is_simple}
use Rattle.clap.specs.Simple.{new_rule, built, filled_from, with_rule}
use Rattle.clap.specs.Faults.{has_free_rules, is_free_app, is_simple_and_free}
use Rattle.clap.specs.declared.builder.action.ArgAction.TheVariants.{Append}
use Rattle.clap.specs.declared.builder.value_parser.ValueParser.TheVariants as vp
use Rattle.cli_words.specs.Apps.{app, option_argument}
use Rattle.cli_words.specs.Commands.{is_among}

-- the names, as the first argument
abbrev pub names_rule : Rule
names_rule = record (new_rule (codes "names")) {
  action = Some Append;
  range = Some (record { start_inclusive = 1; end_inclusive = 1 });
  parser = Some vp.String;
  index = Some 1;
}

-- an option
abbrev pub option_rule : Text → Rule
option_rule option = record (new_rule option) {
  long = Some option;
  action = Some Append;
  range = Some (record { start_inclusive = 1; end_inclusive = 1 });
  parser = Some vp.String;
}

-- the arguments
abbrev pub rules : List Text → List Rule
rules taken = names_rule ∷ map option_rule taken

abbrev pub shape : List Text → Shape
shape taken = record (new_shape (codes "nanolog")) {
  no_binary_name = true;
  disable_help_flag = true;
  disable_help_subcommand = true;
  rules = rules taken;
  is_built = true;
}

-- ---- building

filled_options : (taken : List Text) → filled_from 2 (map option_argument taken) ≡ map option_rule taken
filled_options [] = refl
filled_options (option ∷ taken) = ap (λ (rest : List Rule). option_rule option ∷ rest) (filled_options taken)

pub built_is : (taken : List Text) → built (app taken) ≡ record { top = shape taken; subs = [] }
built_is taken = ap (λ (options : List Rule). record { top = record (shape []) { rules = names_rule ∷ options }; subs = [] }) (filled_options taken)

-- an option is read as others are
all_options : (test : Rule → Bool) → ((option : Text) → test (option_rule option) ≡ true) → (taken : List Text)
    → list_all test (map option_rule taken) ≡ true
all_options test passes [] = refl
all_options test passes (option ∷ taken) = rw (passes option) (all_options test passes taken)

all_arguments : (test : Rule → Bool) → ((option : Text) → test (option_argument option) ≡ true) → (taken : List Text)
    → list_all test (map option_argument taken) ≡ true
all_arguments test passes [] = refl
all_arguments test passes (option ∷ taken) = rw (passes option) (all_arguments test passes taken)

pub no_option : (test : Rule → Bool) → ((option : Text) → test (option_rule option) ≡ false) → (taken : List Text)
    → list_any test (map option_rule taken) ≡ false
no_option test fails [] = refl
no_option test fails (option ∷ taken) = rw (fails option) (no_option test fails taken)

one_index : (taken : List Text) → count_by (λ rule. is_some rule.index) (rules taken) ≡ 1
one_index [] = refl
one_index (option ∷ taken) = one_index taken

in_order : (taken : List Text) → is_in_order (rules taken) ≡ true
in_order taken =
    ap (λ (n : ℕ). not (list_any (is_early_multiple n) (rules taken))) (one_index taken)
    ∙ ap not (no_option (is_early_multiple 1) (λ option. refl) taken)

both : (a b : Bool) → a ≡ true → b ≡ true → (a && (b && true)) ≡ true
both a b p q = rw (p, q) refl

pub app_is_simple : (taken : List Text) → is_simple (app taken) ≡ true
app_is_simple taken =
    let buildable : is_buildable (app taken) ≡ true = rw (all_arguments (λ rule. rule.is_simple) (λ option. refl) taken) refl in
    let ready : is_ready (shape taken) ≡ true =
    rw (all_options (λ rule. rule.is_simple) (λ option. refl) taken) (in_order taken) in
    ap (λ (a : App). is_buildable (app taken) && (is_ready a.top && list_all is_ready_leaf a.subs)) (built_is taken)
    ∙ both (is_buildable (app taken)) (is_ready (shape taken)) buildable ready

pub app_is_free : (taken : List Text) → is_simple_and_free (app taken) ≡ true
app_is_free taken =
    ap (λ (a : App). is_simple (app taken) && is_free_app a) (built_is taken)
    ∙ both (is_simple (app taken)) (has_free_rules (shape taken)) (app_is_simple taken)
    (all_options (λ rule. rule.is_free) (λ option. refl) taken)

-- one option more
pub one_more : (taken : List Text) (option : Text) → with_rule (app taken) (option_argument option) ≡ app (taken ++ option ∷ [])
one_more taken option = rw (map-append option_argument taken (option ∷ [])) refl

-- ---- the argument of a word

-- no option has the id of the names
abbrev pub IsPlain : List Text → Type 0
IsPlain taken = is_among taken (codes "names") ≡ false

-- the argument of a long option
pub by_long : (taken : List Text) (option : Text)
    → arg_by_long (rules taken) option ≡ (if is_among taken option then Some (option_rule option) else None)
by_long [] option = refl
by_long (known ∷ taken) option = go (bytes_eq known option) refl (by_long taken option)
  where
    go : (b : Bool) → bytes_eq known option ≡ b
        → arg_by_long (rules taken) option ≡ (if is_among taken option then Some (option_rule option) else None)
        → arg_by_long (rules (known ∷ taken)) option
        ≡ (if is_among (known ∷ taken) option then Some (option_rule option) else None)
    go true e rest =
        let same : known ≡ option = (bytes_eq-Decides known option).0 e in
        rw e (ap (λ (text : Text). Some (option_rule text)) same)
    go false e rest = rw e rest

-- the same by its id
options_by_id : (taken : List Text) (option : Text) → is_among taken option ≡ true
    → arg_by_id (map option_rule taken) option ≡ Some (option_rule option)
options_by_id [] option known = absurd (true≢false (sym known))
options_by_id (first ∷ taken) option known = go (bytes_eq first option) refl (options_by_id taken option)
  where
    go : (b : Bool) → bytes_eq first option ≡ b
        → (is_among taken option ≡ true → arg_by_id (map option_rule taken) option ≡ Some (option_rule option))
        → arg_by_id (map option_rule (first ∷ taken)) option ≡ Some (option_rule option)
    go true e rest =
        let same : first ≡ option = (bytes_eq-Decides first option).0 e in
        rw e (ap (λ (text : Text). Some (option_rule text)) same)
    go false e rest = rw e (rest (rw e at known))

-- an option that is taken isn't the names
pub apart : (taken : List Text) (option : Text) → IsPlain taken → is_among taken option ≡ true
    → bytes_eq (codes "names") option ≡ false
apart taken option plain known = go (bytes_eq (codes "names") option) refl
  where
    go : (b : Bool) → bytes_eq (codes "names") option ≡ b → b ≡ false
    go true e =
        let same : codes "names" ≡ option = (bytes_eq-Decides (codes "names") option).0 e in
        absurd (true≢false (sym (ap (λ (text : Text). is_among taken text) same ∙ known) ∙ plain))
    go false e = refl

pub by_id : (taken : List Text) (option : Text) → IsPlain taken → is_among taken option ≡ true
    → arg_by_id (rules taken) option ≡ Some (option_rule option)
by_id taken option plain known = rw (apart taken option plain known) (options_by_id taken option known)

-- no option has one letter
pub by_short : (taken : List Text) (letter : ℕ) → arg_by_short (rules taken) letter ≡ None
by_short [] letter = refl
by_short (option ∷ taken) letter = by_short taken letter
