-- Lists that begin alike, and what stands first in longer ones.
use Rattle.std.proofs.Common.{◌≡◌, ◌⊎◌, inl, inr, ◌+◌, ◌≤◌, Bool, true, false, List, [], ◌∷◌, ◌++◌, length, refl, sym, ap, subst, ◌∙◌, append_assoc, append-nil, length-append, arith}
use Rattle.std.specs.List.{list_any}
use Rattle.printf_grammar.proofs.lemmas.Shortening.{cons_parts}
use Rattle.log_dictionary.specs.declared.message.Message.{Message}
use Rattle.log_dictionary.specs.Messages.{is_same, HasMessage, AreDistinct}
use Rattle.log_dictionary.proofs.lemmas.Distinct.{there_from_test, none_from_test, still_distinct}
use Rattle.preprocessor.specs.Numbering.{firsts}
use Rattle.preprocessor.proofs.Firsts.{with_new, firsts-push}

-- ---- lists that begin alike

-- of two fronts of one list one goes on from the other
pub fronts_meet : {X : Type 0} (xs ys us vs : List X) → xs ++ us ≡ ys ++ vs → ((zs : List X) × (ys ≡ xs ++ zs)) ⊎ ((zs : List X) × (xs ≡ ys ++ zs))
fronts_meet [] ys us vs e = inl (ys, refl)
fronts_meet (x ∷ xs) [] us vs e = inr (x ∷ xs, refl)
fronts_meet {X} (x ∷ xs) (y ∷ ys) us vs e = let parts = cons_parts x y _ _ e in with_head (fronts_meet xs ys us vs parts.1) parts.0
  where
    with_head : ((zs : List X) × (ys ≡ xs ++ zs)) ⊎ ((zs : List X) × (xs ≡ ys ++ zs)) → x ≡ y → ((zs : List X) × (y ∷ ys ≡ x ∷ xs ++ zs)) ⊎ ((zs : List X) × (x ∷ xs ≡ y ∷ ys ++ zs))
    with_head (inl (zs, is)) same = inl (zs, ap (λ (z : X). z ∷ ys) (sym same) ∙ ap (λ (l : List X). x ∷ l) is)
    with_head (inr (zs, is)) same = inr (zs, ap (λ (z : X). z ∷ xs) same ∙ ap (λ (l : List X). y ∷ l) is)

-- ---- what stands first

-- one message more makes no fewer, and one more exactly where no message equals it
grown : (there : Bool) (messages : List Message) (message : Message) → length messages ≤ length (with_new there messages message)
grown true messages message = omega arith
grown false messages message = let more = length-append messages (message ∷ []) in omega (arith, more)

grown_push : (messages : List Message) (message : Message) → length (firsts messages) ≤ length (firsts (messages ++ message ∷ []))
grown_push messages message = subst (λ (l : List Message). length (firsts messages) ≤ length l) (sym (firsts-push messages message)) (grown (list_any (is_same message) (firsts messages)) (firsts messages) message)

pub grown_behind : (messages more : List Message) → length (firsts messages) ≤ length (firsts (messages ++ more))
grown_behind messages [] = subst (λ (l : List Message). length (firsts messages) ≤ length (firsts l)) (sym (append-nil messages)) (omega arith)
grown_behind messages (message ∷ more) =
    let first = grown_push messages message in
    let later = grown_behind (messages ++ message ∷ []) more in
    subst (λ (l : List Message). length (firsts messages) ≤ length (firsts l)) (append_assoc messages (message ∷ []) more) (omega (arith, first, later))

new_one : (messages : List Message) (message : Message) (there : Bool) → list_any (is_same message) messages ≡ there → ¬ (HasMessage messages message) → there ≡ false
new_one messages message true e new = absurd (new (there_from_test messages message e))
new_one messages message false e new = refl

pub one_longer : (messages : List Message) (message : Message) → ¬ (HasMessage (firsts messages) message) → length (firsts (messages ++ message ∷ [])) ≡ length (firsts messages) + 1
one_longer messages message new =
    ap length (firsts-push messages message ∙ ap (λ (b : Bool). with_new b (firsts messages) message) (new_one (firsts messages) message (list_any (is_same message) (firsts messages)) refl new)) ∙ length-append (firsts messages) (message ∷ [])

still_with_new : (messages : List Message) (message : Message) (there : Bool) → list_any (is_same message) messages ≡ there → AreDistinct messages → AreDistinct (with_new there messages message)
still_with_new messages message true e distinct = distinct
still_with_new messages message false e distinct = still_distinct messages message distinct (none_from_test messages message e)

distinct_behind : (messages more : List Message) → AreDistinct (firsts messages) → AreDistinct (firsts (messages ++ more))
distinct_behind messages [] distinct = subst (λ (l : List Message). AreDistinct (firsts l)) (sym (append-nil messages)) distinct
distinct_behind messages (message ∷ more) distinct =
    subst (λ (l : List Message). AreDistinct (firsts l)) (append_assoc messages (message ∷ []) more)
    (distinct_behind (messages ++ message ∷ []) more (subst AreDistinct (sym (firsts-push messages message)) (still_with_new (firsts messages) message (list_any (is_same message) (firsts messages)) refl distinct)))

-- no two messages that stand first are equal
pub firsts_are_distinct : (messages : List Message) → AreDistinct (firsts messages)
unfolding firsts
firsts_are_distinct messages = distinct_behind [] messages (λ i j d before within. absurd (omega (arith, within)))
