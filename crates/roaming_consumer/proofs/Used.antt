-- The messages that records use are the first ones of the dictionary.
use Rattle.std.proofs.Common.{◌≡◌, ℕ, zero, suc, ◌+◌, ◌-◌, ◌<◌, ◌≤◌, List, [], ◌∷◌, ◌++◌, length, get_or, take, drop, refl, sym, ap, subst, ◌∙◌, arith}
use Rattle.std.specs.Prelude.{slice_get, max}
use Rattle.std.specs.List.{AllByRecursion}
use Rattle.std.proofs.lemmas.Option.{slice_get_within}
use Rattle.std.proofs.lemmas.List.{length-append, take_at, get_or-take}
use Rattle.log_dictionary.specs.declared.message.Message.{Message}
use Rattle.log_dictionary.specs.Messages.{SameMessage, AreDistinct}
use Rattle.arg_records.specs.declared.call.Call.{Call}
use Rattle.arg_records.specs.Calls.{IsCall}
use Rattle.buffer_extent.specs.Bodies.{SpellsRecords}
use Rattle.checkpoint_io.specs.Logs.{ids_used}

-- what stands in the front of a list stands there in the list
pub front_get : {A : Type 0} (front back : List A) (i : ℕ) → i < length front → slice_get front i ≡ slice_get (front ++ back) i
front_get [] back i within = absurd (omega (arith, within))
front_get (x ∷ front) back zero within = refl
front_get (x ∷ front) back (suc i) within = front_get front back i (omega (arith, within))

first_used : (call : Call) (records : List Call) (used : ℕ) → ids_used (call ∷ records) ≤ used → call.id < used
first_used call records used h = grind arith

others_used : (call : Call) (records : List Call) (used : ℕ) → ids_used (call ∷ records) ≤ used → ids_used records ≤ used
others_used call records used h = grind arith

-- records that use the messages in front alone are spelled as they are with all messages
pub spelled_with_front : (front back : List Message) (before : ℕ) (records : List Call) (bytes : List ℕ) → ids_used records ≤ length front → SpellsRecords (front ++ back) before records bytes → SpellsRecords front before records bytes
spelled_with_front front back before [] bytes h spelled = spelled
spelled_with_front front back before (call ∷ records) bytes h (first, rest, joined, is, others) = (
  first,
  rest,
  joined,
  record { message = is.message; known = front_get front back call.id (first_used call records (length front) h) ∙ is.known; spelled = is.spelled },
  spelled_with_front front back call.stamp records rest (others_used call records (length front) h) others,
)

-- and they name these
pub calls_of_front : (front back : List Message) (calls : List Call) → ids_used calls ≤ length front → AllByRecursion (IsCall (front ++ back)) calls → AllByRecursion (IsCall front) calls
calls_of_front front back [] h named = tt
calls_of_front front back (call ∷ calls) h (is, named) = (
  record { message = is.message; known = front_get front back call.id (first_used call calls (length front) h) ∙ is.known; fits = is.fits; short = is.short },
  calls_of_front front back calls (others_used call calls (length front) h) named,
)

-- no id is used that isn't a message's
pub ids_known : (messages : List Message) (calls : List Call) → AllByRecursion (IsCall messages) calls → ids_used calls ≤ length messages
ids_known messages [] named = omega arith
ids_known messages (call ∷ calls) (is, named) =
    let here = slice_get_within messages call.id is.message is.known in
    let others = ids_known messages calls named in
    grind arith

-- one record more
pub ids_used-push : (records : List Call) (call : Call) → ids_used (records ++ call ∷ []) ≡ max (ids_used records) (call.id + 1)
ids_used-push [] call = grind arith
ids_used-push (another ∷ records) call = let others = ids_used-push records call in grind arith

-- ---- messages

-- of distinct messages those in front are distinct
pub distinct_front : (front back : List Message) → AreDistinct (front ++ back) → AreDistinct front
distinct_front front back distinct = λ i j d before within.
    let whole : j < length (front ++ back) = omega (arith, within, length-append front back) in
    let first : take (length front) (front ++ back) ≡ front = take_at front back (length front) refl in
    let here : get_or (front ++ back) i d ≡ get_or front i d = sym (get_or-take (length front) (front ++ back) i d (omega (arith, before, within))) ∙ ap (λ (l : List Message). get_or l i d) first in
    let there : get_or (front ++ back) j d ≡ get_or front j d = sym (get_or-take (length front) (front ++ back) j d within) ∙ ap (λ (l : List Message). get_or l j d) first in
    subst (λ (a : Message). ¬ (SameMessage a (get_or front j d))) here
    (subst (λ (b : Message). ¬ (SameMessage (get_or (front ++ back) i d) b)) there (distinct i j d before whole))

-- behind the messages that are defined, the new ones are those up to the ids that are used
pub new_behind : {A : Type 0} (defined others : List A) (used : ℕ) → drop (length defined) (take used (defined ++ others)) ≡ take (used - length defined) others
new_behind [] others used = let same : used ≡ used - 0 = omega arith in ap (λ (n : ℕ). take n others) same
new_behind (x ∷ defined) others zero = let none : 0 ≡ 0 - length (x ∷ defined) = omega arith in ap (λ (n : ℕ). take n others) none
new_behind (x ∷ defined) others (suc used) =
    let same : used - length defined ≡ suc used - length (x ∷ defined) = omega arith in
    new_behind defined others used ∙ ap (λ (n : ℕ). take n others) same
