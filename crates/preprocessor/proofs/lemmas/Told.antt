-- What a numbering tells of the sources that it stands for.
use Rattle.std.proofs.Common.{◌≡◌, ℕ, zero, suc, ◌<◌, ◌≤◌, Bool, true, false, cond, Some, List, [], ◌∷◌, ◌++◌, length, get_or, refl, sym, ap, subst, ◌∙◌, ◌||◌, length-append, arith}
use Rattle.std.specs.Prelude.{not, slice_get}
use Rattle.std.specs.List.{list_any, Contains}
use Rattle.std.proofs.lemmas.Bool.{false≢true}
use Rattle.log_dictionary.specs.declared.message.Message.{Message}
use Rattle.log_dictionary.specs.Messages.{SameMessage, is_same, HasMessage}
use Rattle.log_dictionary.proofs.lemmas.Distinct.{test_from_same, there_from_test}
use Rattle.preprocessor.specs.declared.numbering.Numbering.{Numbering}
use Rattle.preprocessor.specs.declared.refusal.SourceRefusal.{SourceRefusal}
use Rattle.preprocessor.specs.Findings.{SourceFile, Finding, AllHave}
use Rattle.preprocessor.specs.Numbering.{stated_messages, numbered, firsts, IsFirstAt, StandFirst, refusals_of, excess_refusal, Numbered, Refusals, NumbersSources}
use Rattle.preprocessor.proofs.Firsts.{among_others, others}
use Rattle.preprocessor.proofs.lemmas.Once.{all_have_once}

-- its refusals are those of the sources
pub numbering_refuses : (files : List SourceFile) (numbering : Numbering) → NumbersSources files numbering → Refusals files numbering.refusals.items
numbering_refuses files numbering (NumbersSources.all_read findings have holds) = Refusals.all_read findings have holds.few holds.refusals
numbering_refuses files numbering (NumbersSources.stopped read unread findings joined have holds) = Refusals.stopped read unread findings joined have holds.front holds.message holds.stops holds.refusals

pub not_empty : (list : List SourceRefusal) (last : SourceRefusal) → list ++ last ∷ [] ≡ [] → ⊥
not_empty list last e = let longer = length-append list (last ∷ []) in let none = ap length e in absurd (omega (arith, longer, none))

-- where it refuses nothing, its messages are those of the sources
pub numbering_numbers : (files : List SourceFile) (numbering : Numbering) → NumbersSources files numbering → numbering.refusals.items ≡ [] → Numbered files numbering.dictionary numbering.statements
numbering_numbers files numbering (NumbersSources.all_read findings have holds) none = record { findings = findings; have = have; messages_are = holds.messages; statements_are = holds.statements }
numbering_numbers files numbering (NumbersSources.stopped read unread findings joined have holds) none = absurd (not_empty (refusals_of holds.front) (excess_refusal holds.message) (sym holds.refusals ∙ none))

-- sources have one list of messages and one number of statements
pub numbered_once : (files : List SourceFile) (messages others : List Message) (n m : ℕ) → Numbered files messages n → Numbered files others m → (messages ≡ others) × (n ≡ m)
numbered_once files messages others n m a b =
    let same = all_have_once files a.findings b.findings a.have b.have in
    (a.messages_are ∙ ap numbered same ∙ sym b.messages_are, a.statements_are ∙ ap (λ (l : List Finding). length (stated_messages l)) same ∙ sym b.statements_are)

-- ---- each message has a number

itself : (message : Message) → is_same message message ≡ true
itself message = test_from_same message message (record { file = refl; line = refl; severity = refl; format = refl })

-- one of these messages passes the test for it among those that stand first
passes : (messages : List Message) (k : ℕ) (message : Message) → k < length messages → get_or messages k message ≡ message → list_any (is_same message) (firsts messages) ≡ true
unfolding firsts
passes [] k message within is = absurd (omega (arith, within))
passes (first ∷ messages) zero message within is = ap (λ (b : Bool). b || list_any (is_same message) (others first (firsts messages))) (ap (is_same message) is ∙ itself message)
passes (first ∷ messages) (suc k) message within is = by_test (is_same message first) refl (passes messages k message (omega (arith, within)) is)
  where
    by_test : (t : Bool) → is_same message first ≡ t → list_any (is_same message) (firsts messages) ≡ true → (is_same message first || list_any (is_same message) (others first (firsts messages))) ≡ true
    by_test true e later = ap (λ (b : Bool). b || list_any (is_same message) (others first (firsts messages))) e
    by_test false e later = ap (λ (b : Bool). b || list_any (is_same message) (others first (firsts messages))) e ∙ among_others first message (firsts messages) e ∙ later

-- the message of each statement is among those of the sources
pub numbered_has : (files : List SourceFile) (messages : List Message) (n : ℕ) (findings : List Finding) (message : Message) → Numbered files messages n → AllHave files findings → Contains (stated_messages findings) message → HasMessage messages message
numbered_has files messages n findings message told have (k, within, is) =
    subst (λ (l : List Message). HasMessage l message) (ap numbered (all_have_once files findings told.findings have told.have) ∙ sym told.messages_are)
    (there_from_test (firsts (stated_messages findings)) message (passes (stated_messages findings) k message within is))

-- ---- the messages stand first

stand_earlier : (all : List Message) (from first : ℕ) (messages : List Message) → from ≤ first → StandFirst all first messages → StandFirst all from messages
stand_earlier all from first [] before stand = tt
stand_earlier all from first (message ∷ messages) before stand = (stand.0, omega (arith, stand.1), stand.2, stand.3)

first_behind : (front message : Message) (all : List Message) (place : ℕ) → is_same front message ≡ false → IsFirstAt all place message → IsFirstAt (front ∷ all) (suc place) message
first_behind front message all place apart at = record { there = at.there; first = first }
  where
    first : (k : ℕ) (other : Message) → k < suc place → slice_get (front ∷ all) k ≡ Some other → ¬ (SameMessage other message)
    first zero other before there same = let one : front ≡ other = cc in false≢true (sym apart ∙ ap (λ (m : Message). is_same m message) one ∙ test_from_same other message same)
    first (suc k) other before there same = at.first k other (omega (arith, before)) there same

-- behind another message those that don't equal it stand first
stand_behind : (front : Message) (all : List Message) (from : ℕ) (messages : List Message) → StandFirst all from messages → StandFirst (front ∷ all) (suc from) (others front messages)
stand_behind front all from [] stand = tt
stand_behind front all from (message ∷ messages) stand = by_test (is_same front message) refl (stand_behind front all (suc stand.0) messages stand.3)
  where
    by_test : (same : Bool) → is_same front message ≡ same → StandFirst (front ∷ all) (suc (suc stand.0)) (others front messages) → StandFirst (front ∷ all) (suc from) (cond (not same) (message ∷ others front messages) (others front messages))
    by_test true is later = stand_earlier (front ∷ all) (suc from) (suc (suc stand.0)) (others front messages) (omega (arith, stand.1)) later
    by_test false is later = (suc stand.0, omega (arith, stand.1), first_behind front message all stand.0 is stand.2, later)

firsts_stand : (messages : List Message) → StandFirst messages 0 (firsts messages)
unfolding firsts
firsts_stand [] = tt
firsts_stand (message ∷ messages) =
    (0, omega arith, record { there = refl; first = λ k other before there same. absurd (omega (arith, before)) }, stand_behind message messages 0 (firsts messages) (firsts_stand messages))

pub numbered_stand : (files : List SourceFile) (messages : List Message) (n : ℕ) (findings : List Finding) → Numbered files messages n → AllHave files findings → StandFirst (stated_messages findings) 0 messages
numbered_stand files messages n findings told have =
    subst (StandFirst (stated_messages findings) 0) (ap numbered (all_have_once files findings told.findings have told.have) ∙ sym told.messages_are) (firsts_stand (stated_messages findings))
