-- Messages that are found by their keys.
use Rattle.std.proofs.Common.{◌≡◌, ℕ, ◌<◌, ◌≤◌, ◌+◌, Bool, true, Option, None, Some, List, [], ◌∷◌, ◌++◌, length, map, get_or, slice_get, position, not, is_some, IsSome, refl, sym, ap, subst, ◌∙◌, inl, inr, ◌⊎◌, arith, eq-eqb, unwrap_or}
use Rattle.std.specs.Prelude.{All, nat_eq}
use Rattle.std.specs.Hash.DefaultHasher as sip
use Rattle.std.specs.Map.{lookup}
use Rattle.std.proofs.lemmas.Bool.{false≢true, cases_lt, and_parts, and_from, eqb-true}
use Rattle.std.proofs.lemmas.Grind.{common_steps}
use Rattle.std.proofs.lemmas.List.{length_push, length-map, map-append, get_or_at, get_or_append_left}
use Rattle.std.proofs.lemmas.List.Elements.{All-push}
use Rattle.std.proofs.lemmas.List.Quantifiers.{position-Some}
use Rattle.std.proofs.lemmas.List.Sums.{prefix_len-le-length}
use Rattle.std.proofs.lemmas.Option.{slice_get_within, slice_get_read, get_or_from_slice_get}
use Rattle.indexmap.proofs.MapLemmas.{some_index}
use Rattle.log_dictionary.specs.declared.message.Message.{Message}
use Rattle.log_dictionary.specs.declared.message_set.Key.{Key}
use Rattle.log_dictionary.specs.BinaryEntries.{entry_bytes, SpellsEntry}
use Rattle.log_dictionary.specs.Messages.{SameMessage, HasMessage, HasId, AreDistinct, AreFormed}
use Rattle.log_dictionary.specs.Places.{hash_of, key_of, same_key, place_of, LeadsTo, LeadElsewhere, AreKeys, IsFreeKey}
use Rattle.log_dictionary.proofs.lemmas.Distinct.{still_distinct}

-- ---- keys

same_entries : (a b : Message) → SameMessage a b → entry_bytes a ≡ entry_bytes b
same_entries a b same = rw (same.file, same.line, same.severity, same.format) refl

-- equal messages have the same keys
same_keys : (a b : Message) (nth : ℕ) → SameMessage a b → key_of a nth ≡ key_of b nth
unfolding hash_of
same_keys a b nth same = ap (λ (bytes : List ℕ). record { hash = sip.finish (sip.write sip.initial bytes); nth = nth }) (same_entries a b same)

same_count : (a b : Key) → same_key a b ≡ true → a.nth ≡ b.nth
same_count a b e = eqb-true a.nth b.nth (and_parts (nat_eq a.hash b.hash) (nat_eq a.nth b.nth) e).1

passes_itself : (key : Key) → same_key key key ≡ true
passes_itself key = and_from _ _ (eq-eqb key.hash key.hash refl) (eq-eqb key.nth key.nth refl)

-- ---- places of keys

still_at : {X : Type 0} (p : X → Bool) (xs : List X) (y : X) (i : ℕ) → position p xs ≡ Some i → position p (xs ++ y ∷ []) ≡ Some i
still_at p xs y i e = grind (arith, common_steps)

at_the_end : {X : Type 0} (p : X → Bool) (xs : List X) (y : X) → position p xs ≡ None → p y ≡ true → position p (xs ++ y ∷ []) ≡ Some (length xs)
at_the_end {X} p xs y e is = grind (arith, common_steps, prefix_len-le-length (λ (x : X). not (p x)) xs)

same_place : (a b : ℕ) → Some a ≡ Some b → a ≡ b
same_place a b e = ap (λ (place : Option ℕ). unwrap_or place a) e

-- a key that is there counts fewer messages than there are
count_is_below : (keys : List Key) (messages : List Message) (key : Key) (place : ℕ) → All (λ (key : Key). key.nth < length messages) keys → place_of keys key ≡ Some place → key.nth < length messages
count_is_below keys messages key place counts at =
    let (within, test, _) = position-Some (same_key key) keys place key at in
    subst (λ (n : ℕ). n < length messages) (sym (same_count key (get_or keys place key) test)) (counts place key within)

-- so one that counts as many isn't there
pub past_is_absent : (keys : List Key) (messages : List Message) (key : Key) → AreKeys keys messages → length messages ≤ key.nth → place_of keys key ≡ None
past_is_absent keys messages key are past = told (place_of keys key) refl
  where
    told : (place : Option ℕ) → place_of keys key ≡ place → place_of keys key ≡ None
    told None e = e
    told (Some place) e = absurd (omega (arith, past, count_is_below keys messages key place are.counts e))

-- ---- entries of the table

abbrev keys_in : List (Key × Message) → List Key
keys_in entries = map (λ (e : Key × Message). e.0) entries

abbrev messages_in : List (Key × Message) → List Message
messages_in entries = map (λ (e : Key × Message). e.1) entries

pub as_long : (entries : List (Key × Message)) → length (keys_in entries) ≡ length (messages_in entries)
as_long entries = length-map entries (λ e. e.0) ∙ sym (length-map entries (λ e. e.1))

pub joined_messages : (entries : List (Key × Message)) (key : Key) (last : Message) → messages_in (entries ++ (key, last) ∷ []) ≡ messages_in entries ++ last ∷ []
joined_messages entries key last = map-append (λ e. e.1) entries ((key, last) ∷ [])

-- a key that isn't there has no value
pub without_value : (entries : List (Key × Message)) (key : Key) → place_of (keys_in entries) key ≡ None → lookup (same_key key) entries ≡ None
without_value entries key none = told (lookup (same_key key) entries) refl
  where
    told : (value : Option Message) → lookup (same_key key) entries ≡ value → lookup (same_key key) entries ≡ None
    told None e = e
    told (Some message) e = absurd (false≢true (sym (ap is_some none) ∙ some_index (same_key key) entries ∙ ap is_some e))

-- what is read at a place stands there
pub stands : (messages others : List Message) (n place : ℕ) (other : Message) → others ≡ messages → n ≡ length messages → place < n → other ≡ get_or others place other → slice_get messages place ≡ Some other
stands messages others n place other are long within is =
    slice_get_read messages n place other long within (subst (λ (all : List Message). other ≡ get_or all place other) are is)

-- ---- looking for a message

pub one_more_elsewhere : (keys : List Key) (messages : List Message) (message : Message) (count place : ℕ) → LeadElsewhere keys messages message count → place_of keys (key_of message count) ≡ Some place → ¬ (HasId messages message place) → LeadElsewhere keys messages message (count + 1)
one_more_elsewhere keys messages message count place before at other nth lt =
    elim (cases_lt nth count) [
      | inl earlier ↦ before nth earlier
      | inr past ↦ (place, ap (λ (n : ℕ). place_of keys (key_of message n)) (omega (arith, lt, past)) ∙ at, other)
    ]

-- where the first keys lead to other messages and the next is absent, the message isn't there
pub is_nowhere : (keys : List Key) (messages : List Message) (message : Message) (count : ℕ) → AreKeys keys messages → LeadElsewhere keys messages message count → place_of keys (key_of message count) ≡ None → ¬ (HasMessage messages message)
is_nowhere keys messages message count are elsewhere none there =
    let (nth, place, at, id, first) = are.found message there in
    elim (cases_lt nth count) [
      | inl earlier ↦
          let (passed, there_too, other) = elsewhere nth earlier in
          other (subst (HasId messages message) (same_place place passed (sym at ∙ there_too)) id)
      | inr past ↦ elim (cases_lt count nth) [
        | inl later ↦ false≢true (subst IsSome none (first count later))
        | inr here ↦ false≢true (subst IsSome (sym at ∙ ap (λ (n : ℕ). place_of keys (key_of message n)) (omega (arith, past, here)) ∙ none) refl)
      ]
    ]

-- and the next is free for it
pub is_free : (keys : List Key) (messages : List Message) (message : Message) (count : ℕ) → LeadElsewhere keys messages message count → place_of keys (key_of message count) ≡ None → count ≤ length keys → IsFreeKey keys message (key_of message count)
is_free keys messages message count elsewhere none few =
    record { own = refl; absent = none; count = few; first = λ nth lt. subst IsSome (sym (elsewhere nth lt).1) refl }

-- ---- one more message

-- an equal message is among these, or is the last
is_last : (messages : List Message) (last message : Message) → HasMessage (messages ++ last ∷ []) message → HasMessage messages message ⊎ SameMessage message last
is_last messages last message (k, other, within, is, same) =
    elim (cases_lt k (length messages)) [
      | inl before ↦ inl (k, other, before, sym (get_or_append_left messages (last ∷ []) other k before) ∙ is, same)
      | inr past ↦ inr (subst (SameMessage message) (sym is ∙ get_or_at messages last [] other k (omega (arith, within, length_push messages last))) same)
    ]

-- a place stays where another message goes last
still_place : (messages : List Message) (last message : Message) (id : ℕ) → HasId messages message id → HasId (messages ++ last ∷ []) message id
still_place messages last message id (found, at, same) =
    let within = slice_get_within messages id found at in
    let is = get_or_append_left messages (last ∷ []) found id within ∙ get_or_from_slice_get messages id found found at in
    (found, slice_get_read (messages ++ last ∷ []) (length messages + 1) id found (sym (length_push messages last)) (omega (arith, within)) (sym is), same)

-- the last message is found at its place
last_place : (messages : List Message) (last message : Message) → SameMessage message last → HasId (messages ++ last ∷ []) message (length messages)
last_place messages last message same =
    (last, slice_get_read (messages ++ last ∷ []) (length messages + 1) (length messages) last (sym (length_push messages last)) (omega arith) (sym (get_or_at messages last [] last (length messages) refl)), same)

still_some : (keys : List Key) (key other : Key) → IsSome (place_of keys other) → IsSome (place_of (keys ++ key ∷ []) other)
still_some keys key other some = told (place_of keys other) refl some
  where
    told : (place : Option ℕ) → place_of keys other ≡ place → IsSome place → IsSome (place_of (keys ++ key ∷ []) other)
    told None e is = absurd (false≢true is)
    told (Some place) e is = subst IsSome (sym (still_at (same_key other) keys key place e)) refl

-- keys lead to a message that was put last, where a free one was put last too
pub one_more_key : (keys : List Key) (messages : List Message) (last : Message) (key : Key) → length keys ≡ length messages → AreKeys keys messages → IsFreeKey keys last key → AreKeys (keys ++ key ∷ []) (messages ++ last ∷ [])
one_more_key keys messages last key long are free = record { counts = counts; found = found }
  where
    more : length (messages ++ last ∷ []) ≡ length messages + 1
    more = length_push messages last

    counts : All (λ (k : Key). k.nth < length (messages ++ last ∷ [])) (keys ++ key ∷ [])
    counts = All-push (λ (k : Key). k.nth < length (messages ++ last ∷ [])) keys key (λ place d within. omega (arith, more, are.counts place d within)) (omega (arith, more, long, free.count))

    found : (message : Message) → HasMessage (messages ++ last ∷ []) message → LeadsTo (keys ++ key ∷ []) (messages ++ last ∷ []) message
    found message there =
        elim (is_last messages last message there) [
          | inl before ↦
              let (nth, place, at, id, first) = are.found message before in
              (nth, place, still_at (same_key (key_of message nth)) keys key place at, still_place messages last message place id, λ n lt. still_some keys key (key_of message n) (first n lt))
          | inr same ↦ (
            key.nth,
            length messages,
            subst (λ (k : Key). place_of (keys ++ key ∷ []) k ≡ Some (length messages)) (free.own ∙ sym (same_keys message last key.nth same)) (at_the_end (same_key key) keys key free.absent (passes_itself key) ∙ ap (λ (n : ℕ). Some n) long),
            last_place messages last message same,
            λ n lt. still_some keys key (key_of message n) (subst (λ (k : Key). IsSome (place_of keys k)) (sym (same_keys message last n same)) (free.first n lt)),
          )
        ]

-- so a new message stands behind the others, as they stood
pub one_more_entry : (entries : List (Key × Message)) (key : Key) (last : Message) → AreDistinct (messages_in entries) × AreKeys (keys_in entries) (messages_in entries) × AreFormed (messages_in entries) → ¬ (HasMessage (messages_in entries) last) → IsFreeKey (keys_in entries) last key → SpellsEntry (entry_bytes last) last
    → (λ (all : List (Key × Message)). AreDistinct (messages_in all) × AreKeys (keys_in all) (messages_in all) × AreFormed (messages_in all)) (entries ++ (key, last) ∷ [])
one_more_entry entries key last are new free spelled =
    let messages = messages_in entries in
    let names = keys_in entries in
    let added = sym (joined_messages entries key last) in
    let key_added = sym (map-append (λ e. e.0) entries ((key, last) ∷ [])) in (
      subst AreDistinct added (still_distinct messages last are.0 new),
      subst (λ (k : List Key). AreKeys k (messages_in (entries ++ (key, last) ∷ []))) key_added (subst (AreKeys (names ++ key ∷ [])) added (one_more_key names messages last key (as_long entries) are.1 free)),
      subst AreFormed added (All-push (λ (m : Message). SpellsEntry (entry_bytes m) m) messages last are.2 spelled),
    )
