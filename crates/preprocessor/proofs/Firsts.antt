-- The messages that stand first, with one more behind them.
use Rattle.std.proofs.Common.{◌≡◌, Bool, true, false, cond, ◌||◌, List, [], ◌∷◌, ◌++◌, refl, sym, ap, ◌∙◌, append-nil}
use Rattle.std.specs.Prelude.{not, filter}
use Rattle.std.specs.List.{list_any}
use Rattle.std.proofs.lemmas.Bool.{false≢true}
use Rattle.std.proofs.lemmas.List.Elements.{filter-append}
use Rattle.log_dictionary.specs.declared.message.Message.{Message}
use Rattle.log_dictionary.specs.declared.dictionary.Added.{Added}
use Rattle.log_dictionary.specs.declared.dictionary.Added.TheVariants.{Old, New}
use Rattle.log_dictionary.specs.Messages.{is_same}
use Rattle.log_dictionary.specs.Additions.{IsAdded}
use Rattle.log_dictionary.proofs.lemmas.Distinct.{same_from_test, test_from_same, id_is_there, there_from_test, test_from_there}
use Rattle.preprocessor.specs.Numbering.{firsts}

-- ---- the test

turned : (a b : Message) → is_same a b ≡ true → is_same b a ≡ true
turned a b e =
    let same = same_from_test a b e in
    test_from_same b a (record { file = sym same.file; line = sym same.line; severity = sym same.severity; format = sym same.format })

-- what equals a message that another one equals equals that
joined : (a b c : Message) → is_same a c ≡ true → is_same b c ≡ true → is_same a b ≡ true
joined a b c e f =
    let first = same_from_test a c e in
    let second = same_from_test b c f in
    test_from_same a b (record { file = first.file ∙ sym second.file; line = first.line ∙ sym second.line; severity = first.severity ∙ sym second.severity; format = first.format ∙ sym second.format })

turned_apart : (a b : Message) (t : Bool) → is_same b a ≡ t → is_same a b ≡ false → is_same b a ≡ false
turned_apart a b true e apart = absurd (false≢true (sym apart ∙ turned b a e))
turned_apart a b false e apart = e

joined_apart : (a b c : Message) (t : Bool) → is_same a c ≡ t → is_same a b ≡ false → is_same b c ≡ true → is_same a c ≡ false
joined_apart a b c true e apart same = absurd (false≢true (sym apart ∙ joined a b c e same))
joined_apart a b c false e apart same = e

-- ---- messages that aren't equal to one

abbrev pub others : Message → List Message → List Message
others first messages = filter (λ (other : Message). not (is_same first other)) messages

others_cons : (first other : Message) (messages : List Message) (t : Bool) → is_same first other ≡ t → others first (other ∷ messages) ≡ cond t (others first messages) (other ∷ others first messages)
others_cons first other messages true e = ap (λ (b : Bool). cond (not b) (other ∷ others first messages) (others first messages)) e
others_cons first other messages false e = ap (λ (b : Bool). cond (not b) (other ∷ others first messages) (others first messages)) e

-- a message that isn't equal to the first is among the others where it is among all
pub among_others : (first message : Message) (messages : List Message) → is_same message first ≡ false → list_any (is_same message) (others first messages) ≡ list_any (is_same message) messages
among_others first message [] apart = refl
among_others first message (other ∷ messages) apart = by_test (is_same first other) refl (among_others first message messages apart)
  where
    by_test : (t : Bool) → is_same first other ≡ t → list_any (is_same message) (others first messages) ≡ list_any (is_same message) messages
        → list_any (is_same message) (others first (other ∷ messages)) ≡ (is_same message other || list_any (is_same message) messages)
    by_test true e among =
        ap (list_any (is_same message)) (others_cons first other messages true e)
        ∙ among
        ∙ ap (λ (b : Bool). b || list_any (is_same message) messages) (sym (joined_apart message first other (is_same message other) refl apart e))
    by_test false e among =
        ap (list_any (is_same message)) (others_cons first other messages false e)
        ∙ ap (λ (b : Bool). is_same message other || b) among

-- ---- one more behind them

abbrev pub with_new : Bool → List Message → Message → List Message
with_new there messages message = cond there messages (messages ++ message ∷ [])

others_with_new : (first message : Message) (messages : List Message) (there : Bool) → is_same first message ≡ false → others first (with_new there messages message) ≡ with_new there (others first messages) message
others_with_new first message messages true apart = refl
others_with_new first message messages false apart =
    filter-append (λ (other : Message). not (is_same first other)) messages (message ∷ []) ∙ ap (λ (l : List Message). others first messages ++ l) (others_cons first message [] false apart)

others_without_new : (first message : Message) (messages : List Message) (there : Bool) → is_same first message ≡ true → others first (with_new there messages message) ≡ others first messages
others_without_new first message messages true same = refl
others_without_new first message messages false same =
    filter-append (λ (other : Message). not (is_same first other)) messages (message ∷ []) ∙ ap (λ (l : List Message). others first messages ++ l) (others_cons first message [] true same) ∙ append-nil (others first messages)

-- a message behind others stands first exactly where none of them equals it
pub firsts-push : (messages : List Message) (message : Message) → firsts (messages ++ message ∷ []) ≡ with_new (list_any (is_same message) (firsts messages)) (firsts messages) message
unfolding firsts
firsts-push [] message = refl
firsts-push (first ∷ messages) message = ap (λ (l : List Message). first ∷ others first l) (firsts-push messages message) ∙ by_test (is_same message first) refl
  where
    by_test : (t : Bool) → is_same message first ≡ t
        → first ∷ others first (with_new (list_any (is_same message) (firsts messages)) (firsts messages) message) ≡ with_new (is_same message first || list_any (is_same message) (others first (firsts messages))) (first ∷ others first (firsts messages)) message
    by_test true e =
        ap (λ (l : List Message). first ∷ l) (others_without_new first message (firsts messages) (list_any (is_same message) (firsts messages)) (turned message first e))
        ∙ ap (λ (b : Bool). with_new (b || list_any (is_same message) (others first (firsts messages))) (first ∷ others first (firsts messages)) message) (sym e)
    by_test false e =
        ap (λ (l : List Message). first ∷ l) (others_with_new first message (firsts messages) (list_any (is_same message) (firsts messages)) (turned_apart message first (is_same first message) refl e))
        ∙ front (list_any (is_same message) (firsts messages))
        ∙ ap (λ (b : Bool). with_new b (first ∷ others first (firsts messages)) message) (sym (among_others first message (firsts messages) e) ∙ ap (λ (b : Bool). b || list_any (is_same message) (others first (firsts messages))) (sym e))
      where
        front : (there : Bool) → first ∷ with_new there (others first (firsts messages)) message ≡ with_new there (first ∷ others first (firsts messages)) message
        front true = refl
        front false = refl

-- a message that was added stands behind what stood first, as one more or not
pub added_is_first : (messages after : List Message) (message : Message) (added : Added) → IsAdded (firsts messages) message after added → after ≡ firsts (messages ++ message ∷ [])
added_is_first messages after message (Old id) is =
    is.1 ∙ ap (λ (b : Bool). with_new b (firsts messages) message) (sym (test_from_there (firsts messages) message (id_is_there (firsts messages) message id is.0))) ∙ sym (firsts-push messages message)
added_is_first messages after message (New id) is =
    is.2 ∙ ap (λ (b : Bool). with_new b (firsts messages) message) (sym (none_there (list_any (is_same message) (firsts messages)) refl)) ∙ sym (firsts-push messages message)
  where
    none_there : (b : Bool) → list_any (is_same message) (firsts messages) ≡ b → list_any (is_same message) (firsts messages) ≡ false
    none_there true e = absurd (is.0 (there_from_test (firsts messages) message e))
    none_there false e = e
