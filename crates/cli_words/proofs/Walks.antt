-- What a word does to the walk of the reader over the words.
use Rattle.std.proofs.Common.{arith, length, ◌≡◌, ◌∙◌, ℕ, ◌&&◌, Bool, true, false, List, [], ◌∷◌, Option, Some, None, refl, ap, ap₂, cond, codes}
use Rattle.std.specs.Prelude.{fold, if◌then◌else◌}
use Rattle.std.specs.Str.{bytes_eq}
use Rattle.std.specs.Str.{IsUtf8, chars}
use Rattle.std.specs.Prelude.{slice_get}
use Rattle.clap.specs.Lexer.{long_of}
use Rattle.clap.specs.Simple.{Shape}
use Rattle.clap.specs.Walk.{Row, Text, Held, Waiting, Walk, idle, option as waiting_for, positional, settled_rows, used, walked}
use Rattle.clap.specs.Walk.{arg_by_long, positional_held, pushed, subcommand_met}
use Rattle.clap.specs.Kinds.{Kinds, or_else}
use Rattle.clap.specs.Faults.{flags_fault, settle_fault, turn_fault, walk_fault}
use Rattle.clap.specs.declared.error.kind.ErrorKind.TheVariants.{UnknownArgument}
use Rattle.std.proofs.lemmas.Str.{IsUtf8-drop, IsCharBoundary-after_ascii, encodes-chars}
use lib.Utf8.{encodes}
use Rattle.cli_words.specs.Commands.{Name, End, Awaits, Sets, Unknown, is_among}
use Rattle.cli_words.proofs.Words.{Tells, dashes, same_text}
use Rattle.cli_words.proofs.Shapes.{IsPlain, rules, shape, names_rule, option_rule, by_id, by_long, by_short}

-- there is no fault
abbrev pub is_right : Kinds → Bool
is_right [] = true
is_right (kind ∷ kinds) = false

-- the rows so far, and the argument that isn't settled
abbrev pub held : List Row → Option (Text × List Text) → Held
held rows pending = record { rows = rows; pending = pending; skip = 0 }

-- between two words of which none has ended the options, or after that
abbrev pub at : Held → Waiting → Bool → Walk
at h waiting is_trailing = record {
  held = h;
  waiting = waiting;
  position = 1;
  is_trailing = is_trailing;
  stopped = None;
}

-- no option waits for a value
abbrev pub no_option : Bool → Waiting
no_option false = idle
no_option true = positional

-- the rows once the argument is settled
abbrev pub rows_at : List Text → Held → List Row
rows_at taken h = settled_rows (rules taken) h.pending h.rows

-- a name that isn't settled
abbrev pub named : List Row → Text → Held
named rows name = held rows (Some (codes "names", name ∷ []))

-- what is pending can be settled, whatever the rows are
abbrev pub CanSettle : List Text → Option (Text × List Text) → Type 0
CanSettle taken pending = (rows : List Row) → settle_fault (rules taken) false (held rows pending) ≡ []

-- the rows, where what is pending can be settled
abbrev pub settled_at : List Text → Held → Option (List Row)
settled_at taken h = if is_right (settle_fault (rules taken) false h) then Some (rows_at taken h) else None

-- the rows at the end of the words, if they are right
abbrev pub ended : List Text → Walk → List Text → Option (List Row)
ended taken w words =
    if is_right (walk_fault (shape taken) [] w words)
    then settled_at taken (fold (walked (rules taken) []) w words).held else None

walk_fault_step : (s : Shape) (w : Walk) (word : Text) (words : List Text)
    → walk_fault s [] w (word ∷ words) ≡ or_else (turn_fault s [] w word) (walk_fault s [] (walked s.rules [] w word) words)
unfolding walk_fault
walk_fault_step s w word words = refl

-- one word more
pub ended_step : (taken : List Text) (w : Walk) (word : Text) (words : List Text) (fault : Kinds) (after : Walk)
    → turn_fault (shape taken) [] w word ≡ fault → walked (rules taken) [] w word ≡ after
    → ended taken w (word ∷ words) ≡ (if is_right fault then ended taken after words else None)
ended_step taken w word words fault after turn walk =
    let faults : walk_fault (shape taken) [] w (word ∷ words) ≡ or_else fault (walk_fault (shape taken) [] after words) =
    walk_fault_step (shape taken) w word words
    ∙ ap₂ or_else turn (ap (λ (x : Walk). walk_fault (shape taken) [] x words) walk) in
    ap₂ (λ (f : Kinds) (x : Walk). if is_right f then settled_at taken (fold (walked (rules taken) []) x words).held else None)
    faults walk
    ∙ go fault
  where
    go : (f : Kinds)
        → (if is_right (or_else f (walk_fault (shape taken) [] after words))
        then settled_at taken (fold (walked (rules taken) []) after words).held else None)
        ≡ (if is_right f then ended taken after words else None)
    go [] = refl
    go (kind ∷ kinds) = refl

cond_no : {X : Type 0} (b : Bool) (x y : X) → cond (b && false) x y ≡ y
cond_no true x y = refl
cond_no false x y = refl

or_none : (kinds : Kinds) → or_else kinds [] ≡ kinds
or_none [] = refl
or_none (kind ∷ kinds) = refl

-- after the options each word is a name
pub trailing_turn : (taken : List Text) (h : Held) (waiting : Waiting) (word : Text)
    → turn_fault (shape taken) [] (at h waiting true) word ≡ settle_fault (rules taken) false h
trailing_turn taken h waiting word = cond_no _ _ _

-- a name waits, and what waited is settled
name_held : (taken : List Text) (rows : List Row) (pending : Option (Text × List Text)) (word : Text)
    → positional_held (rules taken) names_rule word (held rows pending)
    ≡ named (rows_at taken (held rows pending)) word
name_held taken rows pending word = ap (pushed (codes "names") word) (cond_no _ _ _)

pub trailing_walked : (taken : List Text) (rows : List Row) (pending : Option (Text × List Text)) (waiting : Waiting) (word : Text)
    → walked (rules taken) [] (at (held rows pending) waiting true) word
    ≡ at (named (rows_at taken (held rows pending)) word) positional true
unfolding walked
trailing_walked taken rows pending waiting word =
    ap (λ (h : Held). at h positional true) (name_held taken rows pending word)

pub name_turn : (taken : List Text) (b : Bool) (h : Held) (word : Text) → Tells word Name
    → turn_fault (shape taken) [] (at h (no_option b) false) word ≡ settle_fault (rules taken) false h
name_turn taken true h word tells = rw (tells.0, tells.1, tells.2) (cond_no _ _ _)
name_turn taken false h word tells = rw (tells.0, tells.1, tells.2) (cond_no _ _ _)

pub name_walked : (taken : List Text) (b : Bool) (rows : List Row) (pending : Option (Text × List Text)) (word : Text) → Tells word Name
    → walked (rules taken) [] (at (held rows pending) (no_option b) false) word
    ≡ at (named (rows_at taken (held rows pending)) word) positional false
unfolding walked
name_walked taken true rows pending word tells =
    rw (tells.0, tells.1, tells.2) (ap (λ (h : Held). at h positional false) (name_held taken rows pending word))
name_walked taken false rows pending word tells =
    rw (tells.0, tells.1, tells.2) (ap (λ (h : Held). at h positional false) (name_held taken rows pending word))

-- `--` ends the options
pub end_turn : (taken : List Text) (b : Bool) (h : Held) (word : Text) → Tells word End
    → turn_fault (shape taken) [] (at h (no_option b) false) word ≡ []
end_turn taken true h word tells = rw tells refl
end_turn taken false h word tells = rw tells refl

pub end_walked : (taken : List Text) (b : Bool) (h : Held) (word : Text) → Tells word End
    → walked (rules taken) [] (at h (no_option b) false) word ≡ at h (no_option b) true
unfolding walked
end_walked taken true h word tells = rw tells refl
end_walked taken false h word tells = rw tells refl

-- an option that isn't taken
pub unknown_turn : (taken : List Text) (b : Bool) (h : Held) (word option : Text) (value : Option Text)
    → bytes_eq word dashes ≡ false → long_of word ≡ Some (option, value) → is_among taken option ≡ false
    → is_right (turn_fault (shape taken) [] (at h (no_option b) false) word) ≡ false
unknown_turn taken true h word option value no_end long unknown =
    let none : arg_by_long (rules taken) option ≡ None = by_long taken option ∙ rw unknown refl in
    rw (no_end, long, none) refl
unknown_turn taken false h word option value no_end long unknown =
    let none : arg_by_long (rules taken) option ≡ None = by_long taken option ∙ rw unknown refl in
    rw (no_end, long, none) refl

-- an option that is taken
long_rule : (taken : List Text) (option : Text) → is_among taken option ≡ true
    → arg_by_long (rules taken) option ≡ Some (option_rule option)
long_rule taken option known = by_long taken option ∙ rw known refl

-- an option, without its value
pub awaits_turn : (taken : List Text) (b : Bool) (h : Held) (word option : Text) → Tells word (Awaits option)
    → is_among taken option ≡ true
    → turn_fault (shape taken) [] (at h (no_option b) false) word ≡ settle_fault (rules taken) false h
awaits_turn taken true h word option tells known = rw (tells.0, tells.1, long_rule taken option known) (or_none _)
awaits_turn taken false h word option tells known = rw (tells.0, tells.1, long_rule taken option known) (or_none _)

-- an option waits for its value
abbrev pub awaiting : Text → List Row → Walk
awaiting option rows = at (held rows (Some (option, []))) (waiting_for option) false

pub awaits_walked : (taken : List Text) (b : Bool) (rows : List Row) (pending : Option (Text × List Text)) (word option : Text)
    → Tells word (Awaits option) → is_among taken option ≡ true
    → walked (rules taken) [] (at (held rows pending) (no_option b) false) word
    ≡ awaiting option (rows_at taken (held rows pending))
unfolding walked
awaits_walked taken true rows pending word option tells known = rw (tells.0, tells.1, long_rule taken option known) refl
awaits_walked taken false rows pending word option tells known = rw (tells.0, tells.1, long_rule taken option known) refl

-- an option, with its value
pub sets_turn : (taken : List Text) (b : Bool) (h : Held) (word option value : Text) → Tells word (Sets option value)
    → is_among taken option ≡ true
    → turn_fault (shape taken) [] (at h (no_option b) false) word ≡ or_else (settle_fault (rules taken) false h) []
sets_turn taken true h word option value tells known = rw (tells.0, tells.1, long_rule taken option known) (or_none _)
sets_turn taken false h word option value tells known = rw (tells.0, tells.1, long_rule taken option known) (or_none _)

pub sets_walked : (taken : List Text) (b : Bool) (rows : List Row) (pending : Option (Text × List Text))
    (word option value : Text) → Tells word (Sets option value) → is_among taken option ≡ true
    → walked (rules taken) [] (at (held rows pending) (no_option b) false) word
    ≡ at (held (used (option_rule option) (value ∷ []) (rows_at taken (held rows pending))) None) idle false
unfolding walked
sets_walked taken true rows pending word option value tells known = rw (tells.0, tells.1, long_rule taken option known) refl
sets_walked taken false rows pending word option value tells known = rw (tells.0, tells.1, long_rule taken option known) refl

-- ---- where an option waits for its value

-- a word that can be its value
pub value_turn : (taken : List Text) (option : Text) (rows : List Row) (word : Text) → Tells word Name
    → turn_fault (shape taken) [] (awaiting option rows) word ≡ []
value_turn taken option rows word tells = rw (tells.0, tells.1, tells.2) refl

pub value_walked : (taken : List Text) (option : Text) (rows : List Row) (word : Text) → IsPlain taken
    → is_among taken option ≡ true → Tells word Name
    → walked (rules taken) [] (awaiting option rows) word ≡ at (held rows (Some (option, word ∷ []))) idle false
unfolding walked
value_walked taken option rows word plain known tells =
    rw (tells.0, tells.1, tells.2, by_id taken option plain known, same_text option) refl

-- the option has its value
pub value_settles : (taken : List Text) (option word : Text) → IsPlain taken → is_among taken option ≡ true
    → CanSettle taken (Some (option, word ∷ []))
value_settles taken option word plain known rows = rw (by_id taken option plain known) refl

-- and then its row
pub value_row : (taken : List Text) (option : Text) (rows : List Row) (word : Text) → IsPlain taken
    → is_among taken option ≡ true
    → rows_at taken (held rows (Some (option, word ∷ []))) ≡ used (option_rule option) (word ∷ []) rows
value_row taken option rows word plain known = rw (by_id taken option plain known) refl

-- it has none
pub none_settles : (taken : List Text) (option : Text) (rows : List Row) → IsPlain taken → is_among taken option ≡ true
    → is_right (settle_fault (rules taken) false (held rows (Some (option, [])))) ≡ false
none_settles taken option rows plain known = rw (by_id taken option plain known) refl

pub no_value_end_turn : (taken : List Text) (option : Text) (rows : List Row) (word : Text) → Tells word End
    → turn_fault (shape taken) [] (awaiting option rows) word ≡ []
no_value_end_turn taken option rows word tells = rw tells refl

pub no_value_end_walked : (taken : List Text) (option : Text) (rows : List Row) (word : Text) → Tells word End
    → walked (rules taken) [] (awaiting option rows) word
    ≡ at (held rows (Some (option, []))) (waiting_for option) true
unfolding walked
no_value_end_walked taken option rows word tells = rw tells refl

-- a long option in place of the value
pub no_value_turn : (taken : List Text) (option : Text) (rows : List Row) (word other : Text) (value : Option Text)
    → IsPlain taken → is_among taken option ≡ true
    → bytes_eq word dashes ≡ false → long_of word ≡ Some (other, value)
    → is_right (turn_fault (shape taken) [] (awaiting option rows) word) ≡ false
no_value_turn taken option rows word other value plain taken_option no_end long =
    go (is_among taken other) refl value long
  where
    go : (b : Bool) → is_among taken other ≡ b → (value : Option Text) → long_of word ≡ Some (other, value)
        → is_right (turn_fault (shape taken) [] (awaiting option rows) word) ≡ false
    go false known value long =
        let none : arg_by_long (rules taken) other ≡ None = by_long taken other ∙ rw known refl in
        rw (no_end, long, none) refl
    go true known None long =
        rw (no_end, long, long_rule taken other known, by_id taken option plain taken_option) refl
    go true known (Some value) long =
        rw (no_end, long, long_rule taken other known, by_id taken option plain taken_option) refl

-- ---- options of one letter

-- a text that goes on after `-` has a character there
first_letter : (first : ℕ) (rest : Text) → IsUtf8 (45 ∷ first ∷ rest)
    → (letter : ℕ) × (slice_get (chars (first ∷ rest)) 0 ≡ Some letter)
first_letter first rest utf8 =
    let after : IsUtf8 (first ∷ rest) =
    IsUtf8-drop (45 ∷ first ∷ rest) 1 utf8
    (IsCharBoundary-after_ascii (45 ∷ first ∷ rest) 0 utf8 (omega arith) (omega arith)) in
    go (chars (first ∷ rest)) (encodes-chars (first ∷ rest) after)
  where
    go : (letters : List ℕ) → encodes letters ≡ first ∷ rest → (letter : ℕ) × (slice_get letters 0 ≡ Some letter)
    go [] e = cc
    go (letter ∷ letters) e = (letter, refl)

letters_fault : (taken : List Text) (first : ℕ) (rest : Text) (letter : ℕ) (h : Held)
    → slice_get (chars (first ∷ rest)) 0 ≡ Some letter
    → flags_fault (rules taken) false (length (first ∷ rest)) (first ∷ rest) 0 h ≡ UnknownArgument ∷ []
unfolding flags_fault
letters_fault taken first rest letter h is = rw (is, by_short taken letter) refl

-- a word such as `-o` is an option that isn't taken
pub letters_turn : (taken : List Text) (rows : List Row) (pending : Option (Text × List Text)) (waiting : Waiting) (word : Text)
    → subcommand_met [] waiting word ≡ None → IsUtf8 word → Tells word Unknown
    → is_right (turn_fault (shape taken) [] (at (held rows pending) waiting false) word) ≡ false
letters_turn taken rows pending waiting word no_command utf8 tells =
    let first = tells.2.0 in
    let rest = tells.2.1 in
    let found = first_letter first rest (rw tells.2.3 at utf8) in
    let fault : flags_fault (rules taken) false (length (first ∷ rest)) (first ∷ rest) 0 (held rows pending)
    ≡ UnknownArgument ∷ [] = letters_fault taken first rest found.0 (held rows pending) found.1 in
    rw (no_command, tells.0, tells.1, tells.2.2, fault) refl
