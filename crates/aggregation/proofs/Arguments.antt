-- Whether an argument is there, by some of the messages.
use Rattle.std.proofs.Common.{◌≡◌, ℕ, zero, suc, ◌<◌, ◌≤◌, Bool, true, false, List, [], ◌∷◌, ◌++◌, length, Option, Some, None, Ok, Err, refl, ap, sym, ◌∙◌, arith}
use Rattle.std.specs.Prelude.{slice_get, option_and_then, nat_lt, if◌then◌else◌}
use Rattle.std.specs.Option.{option_map_or}
use Rattle.std.proofs.lemmas.Bool.{lt-ltb, le-ltb}
use Rattle.std.proofs.lemmas.Option.{slice_get_past, same_Some, none-some}
use Rattle.printf_grammar.specs.Types.{Types}
use Rattle.log_dictionary.specs.declared.message.Message.{Message}
use Rattle.aggregation.specs.declared.totals.Totals.{Totals}
use Rattle.aggregation.specs.declared.fault.AggregateFault.TheVariants.{NoSuchMessage, NoSuchArgument}
use Rattle.aggregation.specs.Totals.{is_numeric, has_number, totals_where}
use Rattle.aggregation.specs.Aggregating.{answer_for}

get_front : {A : Type 0} (xs others : List A) (place : ℕ) → place < length xs → slice_get (xs ++ others) place ≡ slice_get xs place
get_front [] others place within = absurd (omega (arith, within))
get_front (x ∷ xs) others zero within = refl
get_front (x ∷ xs) others (suc place) within = get_front xs others place (omega (arith, within))

abbrev in_message : ℕ → Option Message → Bool
in_message nth found = option_map_or is_numeric (option_and_then (λ message. slice_get (Types message.format.pieces) nth) found) false

-- messages behind it make no difference
pub same_number : (messages others : List Message) (id nth : ℕ) → id < length messages → has_number (messages ++ others) id nth ≡ has_number messages id nth
same_number messages others id nth within = ap (in_message nth) (get_front messages others id within)

-- there is no such message
pub no_number : (messages : List Message) (id nth : ℕ) → length messages ≤ id → has_number messages id nth ≡ false
no_number messages id nth past = ap (in_message nth) (slice_get_past messages id past)

pub there : (messages : List Message) (id nth : ℕ) (totals : Totals) → has_number messages id nth ≡ true → Some totals ≡ totals_where messages id nth totals
there messages id nth totals is = ap (λ (b : Bool). if b then Some totals else None) (sym is)

pub not_there : (messages : List Message) (id nth : ℕ) (totals : Totals) → has_number messages id nth ≡ false → None ≡ totals_where messages id nth totals
not_there messages id nth totals is = ap (λ (b : Bool). if b then Some totals else None) (sym is)

-- ---- what the dictionary tells

-- ---- the answer of a whole log

pub some_answer : (messages : List Message) (id nth : ℕ) (totals told : Totals) → totals_where messages id nth totals ≡ Some told → Ok told ≡ answer_for messages id nth totals
some_answer messages id nth totals told is = by_number (has_number messages id nth) is
  where
    by_number : (number : Bool) → (if number then Some totals else None) ≡ Some told → Ok told ≡ (if number then Ok totals else (if nat_lt id (length messages) then Err NoSuchArgument else Err NoSuchMessage))
    by_number true same = ap Ok (sym (same_Some totals told same))
    by_number false same = absurd (none-some told same)

pub no_argument : (messages : List Message) (id nth : ℕ) (totals : Totals) → id < length messages → totals_where messages id nth totals ≡ None → Err NoSuchArgument ≡ answer_for messages id nth totals
no_argument messages id nth totals within is = by_number (has_number messages id nth) is
  where
    by_number : (number : Bool) → (if number then Some totals else None) ≡ None → Err NoSuchArgument ≡ (if number then Ok totals else (if nat_lt id (length messages) then Err NoSuchArgument else Err NoSuchMessage))
    by_number true same = absurd (none-some totals (sym same))
    by_number false same = ap (λ (b : Bool). if b then Err NoSuchArgument else Err NoSuchMessage) (sym (lt-ltb id (length messages) within))

pub no_message : (messages : List Message) (id nth : ℕ) (totals : Totals) → length messages ≤ id → Err NoSuchMessage ≡ answer_for messages id nth totals
no_message messages id nth totals past =
    ap (λ (b : Bool). if b then Err NoSuchArgument else Err NoSuchMessage) (sym (le-ltb id (length messages) past))
    ∙ ap (λ (number : Bool). if number then Ok totals else (if nat_lt id (length messages) then Err NoSuchArgument else Err NoSuchMessage)) (sym (no_number messages id nth past))
