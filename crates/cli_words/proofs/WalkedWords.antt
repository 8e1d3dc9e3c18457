-- What the reader makes of all the words, by one word after another.
use Rattle.std.proofs.Common.{◌≡◌, ◌∙◌, Bool, true, false, List, [], ◌∷◌, ◌++◌, Option, Some, None, refl, sym, ap, subst, codes}
use Rattle.std.specs.Prelude.{if◌then◌else◌}
use Rattle.std.specs.Str.{IsUtf8, bytes_eq}
use Rattle.std.proofs.lemmas.Bool.{true≢false}
use Rattle.std.proofs.lemmas.List.{append_assoc, append-nil}
use Rattle.std.proofs.lemmas.Slice.Eq.{bytes_eq-Decides}
use Rattle.clap.specs.Lexer.{long_of}
use Rattle.clap.specs.Walk.{Row, Text, Waiting, Walk, idle, option as waiting_for, positional, used, with_values, walked}
use Rattle.clap.specs.Kinds.{Kinds, or_else}
use Rattle.clap.specs.Faults.{turn_fault, walk_fault}
use Rattle.clap.specs.declared.builder.value_parser.Reading.{Reading}
use Rattle.clap.specs.declared.builder.value_parser.Reading.TheVariants.{AsWritten}
use Rattle.clap.specs.declared.parser.matches.ValueSource.{ValueSource}
use Rattle.clap.specs.declared.parser.matches.ValueSource.TheVariants.{CommandLine}
use Rattle.cli_words.specs.Uses.{values_in, given_at, read_from, AreParsed}
use Rattle.cli_words.specs.Commands.{Given, Word, Name, End, Awaits, Sets, Unknown, word_of, with_name, with_option, is_among}
use Rattle.cli_words.proofs.Words.{Tells, dashes, tells as told}
use Rattle.cli_words.proofs.Shapes.{IsPlain, rules, shape, apart, names_rule, option_rule}
use Rattle.cli_words.proofs.Walks as walks
use Rattle.cli_words.proofs.Walks.{CanSettle, is_right, held, at, no_option, rows_at, settled_at, ended, ended_step, awaiting}

-- ---- one value more

-- the value is one of this id
abbrev value_at : Text → Text → Text → List Text
value_at id value other = if bytes_eq id other then value ∷ [] else []

more_values : (id other : Text) (how : Reading) (s : ValueSource) (value : Text) (rows : List Row)
    → values_in (with_values id how s (value ∷ []) rows) other ≡ values_in rows other ++ value_at id value other
more_values id other how s value [] = go (bytes_eq id other) refl
  where
    go : (b : Bool) → bytes_eq id other ≡ b
        → values_in (with_values id how s (value ∷ []) []) other ≡ value_at id value other
    go true e = rw e refl
    go false e = rw e refl
more_values id other how s value (row ∷ rows) =
    go (bytes_eq row.id id) refl (bytes_eq row.id other) refl (bytes_eq id other) refl
    (more_values id other how s value rows)
  where
    go : (a : Bool) → bytes_eq row.id id ≡ a → (b : Bool) → bytes_eq row.id other ≡ b
        → (c : Bool) → bytes_eq id other ≡ c
        → values_in (with_values id how s (value ∷ []) rows) other ≡ values_in rows other ++ value_at id value other
        → values_in (with_values id how s (value ∷ []) (row ∷ rows)) other
        ≡ values_in (row ∷ rows) other ++ value_at id value other
    go true e b f c g rest =
        let same : row.id ≡ id = (bytes_eq-Decides row.id id).0 e in
        whose c (ap (λ (text : Text). bytes_eq text other) same ∙ g) g
      where
        whose : (c : Bool) → bytes_eq row.id other ≡ c → bytes_eq id other ≡ c
            → values_in (with_values id how s (value ∷ []) (row ∷ rows)) other
            ≡ values_in (row ∷ rows) other ++ value_at id value other
        whose true h g = rw (e, h, g) refl
        whose false h g = rw (e, h, g) (sym (append-nil (values_in rows other)))
    go false e true f true g rest =
        let same : row.id ≡ id =
        (bytes_eq-Decides row.id other).0 f ∙ sym ((bytes_eq-Decides id other).0 g) in
        absurd (true≢false (sym ((bytes_eq-Decides row.id id).1 same) ∙ e))
    go false e true f false g rest = rw (e, f, g) (sym (append-nil row.values))
    go false e false f c g rest = rw (e, f) rest

-- ---- what follows

-- the rows at the end have the values of these rows, and behind them those that are given
data WalkGives (rows : List Row) : Option (List Row) → Option Given → Type 0 where
  nothing : WalkGives rows None None
  more : (final : List Row) (given : Given) → ((id : Text) → values_in final id ≡ values_in rows id ++ given_at given id)
      → WalkGives rows (Some final) (Some given)

name_more : (name : Text) (rows : List Row) (given : Given) (id : Text)
    → values_in (used names_rule (name ∷ []) rows) id ++ given_at given id
    ≡ values_in rows id ++ given_at (record given { names = name ∷ given.names }) id
name_more name rows given id =
    ap (λ (values : List Text). values ++ given_at given id)
    (more_values (codes "names") id AsWritten CommandLine name rows)
    ∙ append_assoc (values_in rows id) (value_at (codes "names") name id) (given_at given id)
    ∙ ap (λ (values : List Text). values_in rows id ++ values) (go (bytes_eq (codes "names") id) refl)
  where
    go : (b : Bool) → bytes_eq (codes "names") id ≡ b
        → value_at (codes "names") name id ++ given_at given id
        ≡ given_at (record given { names = name ∷ given.names }) id
    go true e = rw e refl
    go false e = rw e refl

follows_name : (name : Text) (rows : List Row) (end : Option (List Row)) (read : Option Given)
    → WalkGives (used names_rule (name ∷ []) rows) end read → WalkGives rows end (with_name name read)
follows_name name rows _ _ nothing = nothing
follows_name name rows _ _ (more final given follows) =
    more final (record given { names = name ∷ given.names }) (λ id. follows id ∙ name_more name rows given id)

option_more : (taken : List Text) (option value : Text) (rows : List Row) (given : Given) → IsPlain taken
    → is_among taken option ≡ true → (id : Text)
    → values_in (used (option_rule option) (value ∷ []) rows) id ++ given_at given id
    ≡ values_in rows id ++ given_at (record given { options = (option, value) ∷ given.options }) id
option_more taken option value rows given plain known id =
    ap (λ (values : List Text). values ++ given_at given id)
    (more_values option id AsWritten CommandLine value rows)
    ∙ append_assoc (values_in rows id) (value_at option value id) (given_at given id)
    ∙ ap (λ (values : List Text). values_in rows id ++ values)
    (go (bytes_eq (codes "names") id) refl (bytes_eq option id) refl)
  where
    go : (a : Bool) → bytes_eq (codes "names") id ≡ a → (b : Bool) → bytes_eq option id ≡ b
        → value_at option value id ++ given_at given id
        ≡ given_at (record given { options = (option, value) ∷ given.options }) id
    go true e true f =
        let same : codes "names" ≡ option =
        (bytes_eq-Decides (codes "names") id).0 e ∙ sym ((bytes_eq-Decides option id).0 f) in
        absurd (true≢false (sym ((bytes_eq-Decides (codes "names") option).1 same) ∙ apart taken option plain known))
    go true e false f = rw (e, f) refl
    go false e true f = rw (e, f) refl
    go false e false f = rw (e, f) refl

follows_option : (taken : List Text) (option value : Text) (rows : List Row) (end : Option (List Row))
    (read : Option Given) → IsPlain taken → is_among taken option ≡ true
    → WalkGives (used (option_rule option) (value ∷ []) rows) end read → WalkGives rows end (with_option option value read)
follows_option taken option value rows _ _ plain known nothing = nothing
follows_option taken option value rows _ _ plain known (more final given follows) =
    more final (record given { options = (option, value) ∷ given.options })
    (λ id. follows id ∙ option_more taken option value rows given plain known id)

-- ---- one word more

ended_nil : (taken : List Text) (w : Walk) → ended taken w [] ≡ settled_at taken w.held
unfolding walk_fault
ended_nil taken w = refl

-- a word that is faulty
ended_faulty : (taken : List Text) (w : Walk) (word : Text) (words : List Text)
    → is_right (turn_fault (shape taken) [] w word) ≡ false → ended taken w (word ∷ words) ≡ None
ended_faulty taken w word words wrong =
    ended_step taken w word words (turn_fault (shape taken) [] w word) (walked (rules taken) [] w word) refl refl
    ∙ ap (λ (b : Bool). if b then ended taken (walked (rules taken) [] w word) words else None) wrong

-- nothing is read, and nothing is found
none_follows : (end : Option (List Row)) (rows : List Row) → end ≡ None → WalkGives rows end None
none_follows end rows e = subst (λ (o : Option (List Row)). WalkGives rows o None) (sym e) nothing

-- the walk goes on from here
goes_on : (taken : List Text) (w after : Walk) (word : Text) (words : List Text) (read : Option Given) (rows : List Row)
    → turn_fault (shape taken) [] w word ≡ [] → walked (rules taken) [] w word ≡ after
    → WalkGives rows (ended taken after words) read → WalkGives rows (ended taken w (word ∷ words)) read
goes_on taken w after word words read rows turn walk follows =
    subst (λ (o : Option (List Row)). WalkGives rows o read) (sym (ended_step taken w word words [] after turn walk)) follows

-- at the end of the words
at_end : (taken : List Text) (rows : List Row) (pending : Option (Text × List Text)) (waiting : Waiting) (trails : Bool)
    → CanSettle taken pending
    → WalkGives (rows_at taken (held rows pending)) (ended taken (at (held rows pending) waiting trails) [])
    (Some (record { options = []; names = [] }))
at_end taken rows pending waiting trails settles =
    subst (λ (o : Option (List Row)). WalkGives (rows_at taken (held rows pending)) o
    (Some (record { options = []; names = [] })))
    (sym (ended_nil taken (at (held rows pending) waiting trails)
    ∙ ap (λ (fault : Kinds). if is_right fault then Some (rows_at taken (held rows pending)) else None) (settles rows)))
    (more (rows_at taken (held rows pending)) (record { options = []; names = [] })
    (λ id. none_more id (bytes_eq (codes "names") id) refl))
  where
    none_more : (id : Text) (b : Bool) → bytes_eq (codes "names") id ≡ b
        → values_in (rows_at taken (held rows pending)) id
        ≡ values_in (rows_at taken (held rows pending)) id ++ given_at (record { options = []; names = [] }) id
    none_more id true e = rw e (sym (append-nil (values_in (rows_at taken (held rows pending)) id)))
    none_more id false e = rw e (sym (append-nil (values_in (rows_at taken (held rows pending)) id)))

-- after the options each word is a name
trailing : (taken : List Text) (rows : List Row) (pending : Option (Text × List Text)) (waiting : Waiting)
    (words : List Text) → CanSettle taken pending
    → WalkGives (rows_at taken (held rows pending)) (ended taken (at (held rows pending) waiting true) words)
    (Some (record { options = []; names = words }))
trailing taken rows pending waiting [] settles = at_end taken rows pending waiting true settles
trailing taken rows pending waiting (word ∷ words) settles =
    let now = rows_at taken (held rows pending) in
    goes_on taken (at (held rows pending) waiting true) _ word words (Some (record { options = []; names = word ∷ words }))
    now
    (walks.trailing_turn taken (held rows pending) waiting word ∙ settles rows)
    (walks.trailing_walked taken rows pending waiting word)
    (follows_name word now _ (Some (record { options = []; names = words }))
    (trailing taken now (Some (codes "names", word ∷ [])) positional words (λ rows. refl)))

-- where an option lacks its value
lacking : (taken : List Text) (rows : List Row) (option : Text) (words : List Text) → IsPlain taken
    → is_among taken option ≡ true
    → ended taken (at (held rows (Some (option, []))) (waiting_for option) true) words ≡ None
lacking taken rows option [] plain known =
    ended_nil taken (at (held rows (Some (option, []))) (waiting_for option) true)
    ∙ ap (λ (b : Bool). if b then Some (rows_at taken (held rows (Some (option, [])))) else None)
    (walks.none_settles taken option rows plain known)
lacking taken rows option (word ∷ words) plain known =
    ended_faulty taken (at (held rows (Some (option, []))) (waiting_for option) true) word words
    (ap is_right (walks.trailing_turn taken (held rows (Some (option, []))) (waiting_for option) word)
    ∙ walks.none_settles taken option rows plain known)

-- what follows where no option waits for its value
abbrev Idle : List Text → Type 0
Idle words = (taken : List Text) (b : Bool) (rows : List Row) (pending : Option (Text × List Text)) → IsPlain taken
    → CanSettle taken pending
    → WalkGives (rows_at taken (held rows pending)) (ended taken (at (held rows pending) (no_option b) false) words)
    (read_from taken None words)

-- what follows where an option waits for its value
abbrev Waits : List Text → Type 0
Waits words = (taken : List Text) (rows : List Row) (option : Text) → IsPlain taken → is_among taken option ≡ true
    → WalkGives rows (ended taken (awaiting option rows) words) (read_from taken (Some option) words)

idle_name : (word : Text) (words : List Text) → Tells word Name → word_of word ≡ Name → Idle words → Idle (word ∷ words)
idle_name word words tells e rest taken b rows pending plain settles =
    let now = rows_at taken (held rows pending) in
    rw (e, read_from) (
    goes_on taken (at (held rows pending) (no_option b) false) _ word words
    (with_name word (read_from taken None words)) now
    (walks.name_turn taken b (held rows pending) word tells ∙ settles rows)
    (walks.name_walked taken b rows pending word tells)
    (follows_name word now _ (read_from taken None words)
    (rest taken true now (Some (codes "names", word ∷ [])) plain (λ rows. refl))))

idle_end : (word : Text) (words : List Text) → Tells word End → word_of word ≡ End → Idle (word ∷ words)
idle_end word words tells e taken b rows pending plain settles =
    rw (e, read_from) (
    goes_on taken (at (held rows pending) (no_option b) false) _ word words
    (Some (record { options = []; names = words })) (rows_at taken (held rows pending))
    (walks.end_turn taken b (held rows pending) word tells)
    (walks.end_walked taken b (held rows pending) word tells)
    (trailing taken rows pending (no_option b) words settles))

idle_unknown : (word : Text) (words : List Text) → IsUtf8 word → Tells word Unknown → word_of word ≡ Unknown
    → Idle (word ∷ words)
idle_unknown word words utf8 tells e taken b rows pending plain settles =
    rw (e, read_from) (
    none_follows _ (rows_at taken (held rows pending))
    (ended_faulty taken (at (held rows pending) (no_option b) false) word words (turn b)))
  where
    turn : (b : Bool) → is_right (turn_fault (shape taken) [] (at (held rows pending) (no_option b) false) word) ≡ false
    turn true = walks.letters_turn taken rows pending positional word refl utf8 tells
    turn false = walks.letters_turn taken rows pending idle word refl utf8 tells

-- what follows an option: nothing, where it isn't taken
where_taken : (taken : List Text) (b : Bool) (rows : List Row) (pending : Option (Text × List Text))
    (word option : Text) (value : Option Text) (words : List Text) (read : Option Given) → bytes_eq word dashes ≡ false
    → long_of word ≡ Some (option, value)
    → (is_among taken option ≡ true
    → WalkGives (rows_at taken (held rows pending)) (ended taken (at (held rows pending) (no_option b) false) (word ∷ words))
    read)
    → WalkGives (rows_at taken (held rows pending)) (ended taken (at (held rows pending) (no_option b) false) (word ∷ words))
    (if is_among taken option then read else None)
where_taken taken b rows pending word option value words read no_end long follows = go (is_among taken option) refl
  where
    go : (known : Bool) → is_among taken option ≡ known
        → WalkGives (rows_at taken (held rows pending))
        (ended taken (at (held rows pending) (no_option b) false) (word ∷ words)) (if known then read else None)
    go false known =
        none_follows _ (rows_at taken (held rows pending))
        (ended_faulty taken (at (held rows pending) (no_option b) false) word words
        (walks.unknown_turn taken b (held rows pending) word option value no_end long known))
    go true known = follows known

idle_awaits : (word option : Text) (words : List Text) → Tells word (Awaits option) → word_of word ≡ Awaits option
    → Waits words → Idle (word ∷ words)
idle_awaits word option words tells e rest taken b rows pending plain settles =
    let now = rows_at taken (held rows pending) in
    rw (e, read_from) (
    where_taken taken b rows pending word option None words (read_from taken (Some option) words) tells.0 tells.1
    (λ known.
    goes_on taken (at (held rows pending) (no_option b) false) _ word words (read_from taken (Some option) words) now
    (walks.awaits_turn taken b (held rows pending) word option tells known ∙ settles rows)
    (walks.awaits_walked taken b rows pending word option tells known) (rest taken now option plain known)))

idle_sets : (word option value : Text) (words : List Text) → Tells word (Sets option value)
    → word_of word ≡ Sets option value → Idle words → Idle (word ∷ words)
idle_sets word option value words tells e rest taken b rows pending plain settles =
    let now = rows_at taken (held rows pending) in
    rw (e, read_from) (
    where_taken taken b rows pending word option (Some value) words
    (with_option option value (read_from taken None words)) tells.0 tells.1 (λ known.
    goes_on taken (at (held rows pending) (no_option b) false) _ word words
    (with_option option value (read_from taken None words)) now
    (walks.sets_turn taken b (held rows pending) word option value tells known ∙ settled (settles rows))
    (walks.sets_walked taken b rows pending word option value tells known)
    (follows_option taken option value now _ (read_from taken None words) plain known
    (rest taken false (used (option_rule option) (value ∷ []) now) None plain (λ rows. refl)))))
  where
    settled : {kinds : Kinds} → kinds ≡ [] → or_else kinds [] ≡ []
    settled none = ap (λ (kinds : Kinds). or_else kinds []) none

waits_name : (word : Text) (words : List Text) → Tells word Name → word_of word ≡ Name → Idle words → Waits (word ∷ words)
waits_name word words tells e rest taken rows option plain known =
    rw e (
    goes_on taken (awaiting option rows) _ word words (with_option option word (read_from taken None words)) rows
    (walks.value_turn taken option rows word tells)
    (walks.value_walked taken option rows word plain known tells)
    (follows_option taken option word rows _ (read_from taken None words) plain known
    (subst (λ (now : List Row). WalkGives now
    (ended taken (at (held rows (Some (option, word ∷ []))) idle false) words) (read_from taken None words))
    (walks.value_row taken option rows word plain known)
    (rest taken false rows (Some (option, word ∷ [])) plain
    (walks.value_settles taken option word plain known)))))

waits_end : (word : Text) (words : List Text) → Tells word End → word_of word ≡ End → Waits (word ∷ words)
waits_end word words tells e taken rows option plain known =
    rw e (none_follows _ rows (
    ended_step taken (awaiting option rows) word words _ _
    (walks.no_value_end_turn taken option rows word tells) (walks.no_value_end_walked taken option rows word tells)
    ∙ lacking taken rows option words plain known))

-- a word that can't be the value
waits_other : (word other : Text) (value : Option Text) (words : List Text) → bytes_eq word dashes ≡ false
    → long_of word ≡ Some (other, value) → (taken : List Text) (rows : List Row) (option : Text) → IsPlain taken
    → is_among taken option ≡ true → WalkGives rows (ended taken (awaiting option rows) (word ∷ words)) None
waits_other word other value words no_end long taken rows option plain known =
    none_follows _ rows (ended_faulty taken (awaiting option rows) word words
    (walks.no_value_turn taken option rows word other value plain known no_end long))

waits_unknown : (word : Text) (words : List Text) → IsUtf8 word → Tells word Unknown
    → (taken : List Text) (rows : List Row) (option : Text)
    → WalkGives rows (ended taken (awaiting option rows) (word ∷ words)) None
waits_unknown word words utf8 tells taken rows option =
    none_follows _ rows (ended_faulty taken (awaiting option rows) word words
    (walks.letters_turn taken rows (Some (option, [])) (waiting_for option) word refl utf8 tells))

-- the words are texts
abbrev pub AreTexts : List Text → Type 0
AreTexts [] = Unit {0}
AreTexts (word ∷ words) = IsUtf8 word × AreTexts words

both_step : (word : Text) (words : List Text) → IsUtf8 word → Idle words × Waits words
    → (kind : Word) → Tells word kind → word_of word ≡ kind → Idle (word ∷ words) × Waits (word ∷ words)
both_step word words utf8 rest Name tells e = (idle_name word words tells e rest.0, waits_name word words tells e rest.0)
both_step word words utf8 rest End tells e = (idle_end word words tells e, waits_end word words tells e)
both_step word words utf8 rest (Awaits option) tells e = (
  idle_awaits word option words tells e rest.1,
  λ taken rows waiting plain known. rw e (waits_other word option None words tells.0 tells.1 taken rows waiting plain known),
)
both_step word words utf8 rest (Sets option value) tells e = (
  idle_sets word option value words tells e rest.0,
  λ taken rows waiting plain known.
      rw e (waits_other word option (Some value) words tells.0 tells.1 taken rows waiting plain known),
)
both_step word words utf8 rest Unknown tells e = (
  idle_unknown word words utf8 tells e,
  λ taken rows waiting plain known. rw e (waits_unknown word words utf8 tells taken rows waiting),
)

both : (words : List Text) → AreTexts words → Idle words × Waits words
both [] texts = (
  λ taken b rows pending plain settles. at_end taken rows pending (no_option b) false settles,
  λ taken rows option plain known. none_follows _ rows (
      ended_nil taken (awaiting option rows)
      ∙ ap (λ (b : Bool). if b then Some (rows_at taken (held rows (Some (option, [])))) else None)
      (walks.none_settles taken option rows plain known)),
)
both (word ∷ words) texts = both_step word words texts.0 (both words texts.1) (word_of word) (told word) refl

pub all_read : (taken : List Text) (words : List Text) → IsPlain taken → AreTexts words
    → AreParsed (ended taken (at (held [] None) idle false) words) (read_from taken None words)
all_read taken words plain texts =
    go (ended taken (at (held [] None) idle false) words) (read_from taken None words)
    ((both words texts).0 taken false [] None plain (λ rows. refl))
  where
    go : (end : Option (List Row)) (read : Option Given) → WalkGives [] end read → AreParsed end read
    go _ _ nothing = tt
    go _ _ (more final given follows) = follows
