-- Which messages are there.
use Rattle.std.proofs.Common.{◌⊎◌, inl, inr, ℕ, Bool, true, false, ◌&&◌, List, [], ◌∷◌, ◌++◌, length, get_or, refl, sym, subst, ap, ◌≡◌, ◌∙◌, arith, eq-eqb}
use Rattle.std.specs.Prelude.{nat_eq}
use Rattle.std.specs.Cmp.Lexicographic.{pointwise, bytes_decides}
use Rattle.std.specs.List.{list_any}
use Rattle.std.proofs.lemmas.Bool.{false≢true, and_parts, and_from, eqb-true}
use Rattle.std.proofs.lemmas.Option.{slice_get_within, get_or_from_slice_get}
use Rattle.std.proofs.lemmas.List.{get_or_default, length-append, get_or_append_left, get_or_at}
use Rattle.std.proofs.lemmas.List.Folds.{list_any_at, Any-from_list_any}
use Rattle.std.proofs.lemmas.List.Quantifiers.{all_pairs_push}
use Rattle.log_dictionary.specs.declared.message.Message.{Message}
use Rattle.log_dictionary.specs.declared.dictionary.Added.{Added}
use Rattle.log_dictionary.specs.declared.dictionary.Added.TheVariants.{Old, New}
use Rattle.log_dictionary.specs.Severities.{severity_number}
use Rattle.log_dictionary.specs.Messages.{SameMessage, is_same, HasMessage, HasId, AreDistinct}
use Rattle.log_dictionary.specs.Additions.{IsAdded}
use Rattle.log_dictionary.proofs.lemmas.SameMessages.{same_severities}

-- ---- the test

abbrev same_texts : Message → Message → Bool
same_texts a b = pointwise nat_eq a.file b.file && pointwise nat_eq a.format.bytes b.format.bytes

-- messages that pass the test are equal
pub same_from_test : (a b : Message) → is_same a b ≡ true → SameMessage a b
same_from_test a b e =
    let line = and_parts (nat_eq a.line b.line) (nat_eq (severity_number a.severity) (severity_number b.severity) && same_texts a b) e in
    let severity = and_parts (nat_eq (severity_number a.severity) (severity_number b.severity)) (same_texts a b) line.1 in
    let texts = and_parts (pointwise nat_eq a.file b.file) (pointwise nat_eq a.format.bytes b.format.bytes) severity.1 in
    record {
      file = (bytes_decides a.file b.file).0 texts.0;
      line = eqb-true a.line b.line line.0;
      severity = same_severities a.severity b.severity (eqb-true _ _ severity.0);
      format = (bytes_decides a.format.bytes b.format.bytes).0 texts.1;
    }

-- equal messages pass the test
pub test_from_same : (a b : Message) → SameMessage a b → is_same a b ≡ true
test_from_same a b same =
    let texts = and_from _ _ ((bytes_decides a.file b.file).1 same.file) ((bytes_decides a.format.bytes b.format.bytes).1 same.format) in
    and_from _ _ (eq-eqb a.line b.line same.line) (and_from _ _ (eq-eqb (severity_number a.severity) (severity_number b.severity) (ap severity_number same.severity)) texts)

-- ---- which messages are there

-- a message with an id is there
pub id_is_there : (messages : List Message) (message : Message) (id : ℕ) → HasId messages message id → HasMessage messages message
id_is_there messages message id (other, at, same) = (id, other, slice_get_within messages id other at, get_or_from_slice_get messages id other other at, same)

-- one that passes the test is there
pub there_from_test : (messages : List Message) (message : Message) → list_any (is_same message) messages ≡ true → HasMessage messages message
there_from_test messages message e =
    let (k, other, within, is, test) = Any-from_list_any (is_same message) messages e in
    (k, other, within, is, same_from_test message other test)

-- and passes it if it is there
pub test_from_there : (messages : List Message) (message : Message) → HasMessage messages message → list_any (is_same message) messages ≡ true
test_from_there messages message (k, other, within, is, same) =
    list_any_at (is_same message) messages k other within (ap (is_same message) is ∙ test_from_same message other same)

pub none_from_test : (messages : List Message) (message : Message) → list_any (is_same message) messages ≡ false → ¬ (HasMessage messages message)
none_from_test messages message e there = false≢true (sym e ∙ test_from_there messages message there)

pub there_or_not : (messages : List Message) (message : Message) → HasMessage messages message ⊎ ¬ (HasMessage messages message)
there_or_not messages message = told (list_any (is_same message) messages) refl
  where
    told : (b : Bool) → list_any (is_same message) messages ≡ b → HasMessage messages message ⊎ ¬ (HasMessage messages message)
    told true e = inl (there_from_test messages message e)
    told false e = inr (none_from_test messages message e)

-- one that was there is told as an old one
pub old_is_added : (before : List Message) (message : Message) (after : List Message) (added : Added) → IsAdded before message after added → HasMessage before message → (id : ℕ) × (added ≡ Old id)
old_is_added before message after (Old id) is there = (id, refl)
old_is_added before message after (New id) is there = absurd (is.0 there)

-- a message that isn't there keeps them distinct
pub still_distinct : (messages : List Message) (message : Message) → AreDistinct messages → ¬ (HasMessage messages message) → AreDistinct (messages ++ message ∷ [])
still_distinct messages message distinct new = all_pairs_push (λ a b. ¬ (SameMessage a b)) messages message distinct (λ k d within same.
    let back : SameMessage message (get_or messages k d) = record { file = sym same.file; line = sym same.line; severity = sym same.severity; format = sym same.format } in
    new (k, get_or messages k d, within, get_or_default messages k (get_or messages k d) d within, back))

-- of distinct messages none is among those before it
pub is_new : (before others : List Message) (message : Message) → AreDistinct (before ++ message ∷ others)
    → ¬ (HasMessage before message)
is_new before others message distinct (k, other, within, is, same) =
    let all : List Message = before ++ message ∷ others in
    let earlier : get_or all k other ≡ other = get_or_append_left before (message ∷ others) other k within ∙ is in
    let here : get_or all (length before) other ≡ message = get_or_at before message others other (length before) refl in
    let back : SameMessage other message = record { file = sym same.file; line = sym same.line; severity = sym same.severity; format = sym same.format } in
    distinct k (length before) other within (omega (arith, length-append before (message ∷ others))) (subst (λ (m : Message). SameMessage m (get_or all (length before) other)) (sym earlier) (subst (SameMessage other) (sym here) back))
