-- The call at each place of a run is the one whose place it is.
use Rattle.std.proofs.Common.{◌≡◌, ℕ, suc, ◌+◌, List, [], ◌∷◌, ◌++◌, map, Option, Some, None, refl, ap, sym, ◌∙◌, add-zero, arith}
use Rattle.std.specs.Prelude.{slice_get}
use Rattle.std.specs.Option.{option_map}
use Rattle.std.specs.List.{AllByRecursion, flat_map, filter_map, cons_option, enumerate_from}
use Rattle.std.proofs.lemmas.List.Elements.{All-from_recursion, recursion_from_All}
use Rattle.std.proofs.lemmas.List.Sorted.{All-permutation, IsPermutation-sym}
use Rattle.log_dictionary.specs.declared.message.Message.{Message}
use Rattle.log_dictionary.specs.Calls.{LogCall}
use Rattle.arg_records.specs.declared.call.Call.{Call}
use Rattle.arg_records.specs.Calls.{log_call, writer_calls}
use Rattle.direct_printf.specs.Lines.{in_order}
use Rattle.direct_printf.proofs.lemmas.Sorting.{in_order-permutation}
use Rattle.trace_text.specs.Recordings.{Recording, calls_of}
use Rattle.trace_text.specs.Order.{call_place, places_in_order, call_in}

-- the call is the one at its place
abbrev pub IsAtPlace : Recording → LogCall → Type 0
IsAtPlace run call = call_in run (call_place call) ≡ Some call

all-append : (run : Recording) (front back : List LogCall) → AllByRecursion (IsAtPlace run) front → AllByRecursion (IsAtPlace run) back → AllByRecursion (IsAtPlace run) (front ++ back)
all-append run [] back first second = second
all-append run (call ∷ front) back first second = (first.0, all-append run front back first.1 second)

-- what is found from a place on is what is left
rest_found : {X : Type 0} (all : List X) (n : ℕ) (first : X) (rest : List X) → ((k : ℕ) → slice_get all (n + k) ≡ slice_get (first ∷ rest) k) → (k : ℕ) → slice_get all (n + 1 + k) ≡ slice_get rest k
rest_found all n first rest found k = let next : n + 1 + k ≡ n + suc k = omega arith in ap (slice_get all) next ∙ found (suc k)

first_found : {X : Type 0} (all : List X) (n : ℕ) (first : X) (rest : List X) → ((k : ℕ) → slice_get all (n + k) ≡ slice_get (first ∷ rest) k) → slice_get all n ≡ Some first
first_found all n first rest found = ap (slice_get all) (sym (add-zero n)) ∙ found 0

module _ (run : Recording) (writer : ℕ) (calls : List Call) (known : slice_get run.writers writer ≡ Some calls) where
  one_call : (n : ℕ) (made : Call) (others : List LogCall) → slice_get calls n ≡ Some made → AllByRecursion (IsAtPlace run) others → AllByRecursion (IsAtPlace run) (cons_option (log_call run.dictionary writer (n, made)) others)
  one_call n made others here rest = by_message (slice_get run.dictionary made.id) refl
    where
      by_message : (o : Option Message) → slice_get run.dictionary made.id ≡ o → AllByRecursion (IsAtPlace run) (cons_option (option_map (λ message. record { writer = writer; ordinal = n; stamp = made.stamp; message = message; args = made.args }) o) others)
      by_message None e = rest
      by_message (Some message) e = (rw (known, here, e) refl, rest)

  writer_found : (n : ℕ) (rest : List Call) → ((k : ℕ) → slice_get calls (n + k) ≡ slice_get rest k) → AllByRecursion (IsAtPlace run) (filter_map (log_call run.dictionary writer) (enumerate_from n rest))
  writer_found n [] found = tt
  writer_found n (made ∷ rest) found = one_call n made (filter_map (log_call run.dictionary writer) (enumerate_from (n + 1) rest)) (first_found calls n made rest found) (writer_found (n + 1) rest (rest_found calls n made rest found))

all_found : (run : Recording) (n : ℕ) (writers : List (List Call)) → ((k : ℕ) → slice_get run.writers (n + k) ≡ slice_get writers k) → AllByRecursion (IsAtPlace run) (flat_map (writer_calls run.dictionary) (enumerate_from n writers))
all_found run n [] found = tt
all_found run n (calls ∷ writers) found =
    all-append run (writer_calls run.dictionary (n, calls)) (flat_map (writer_calls run.dictionary) (enumerate_from (n + 1) writers))
    (writer_found run n calls (first_found run.writers n calls writers found) 0 calls (λ k. let same : 0 + k ≡ k = omega arith in ap (slice_get calls) same))
    (all_found run (n + 1) writers (rest_found run.writers n calls writers found))

found_again : (run : Recording) (calls : List LogCall) → AllByRecursion (IsAtPlace run) calls → map (call_in run) (map call_place calls) ≡ map Some calls
found_again run [] all = refl
found_again run (call ∷ calls) all = ap (λ found. found ∷ map (call_in run) (map call_place calls)) all.0 ∙ ap (λ others. Some call ∷ others) (found_again run calls all.1)

-- each call in order is the one at its place
pub all_at_places : (run : Recording) → AllByRecursion (IsAtPlace run) (in_order (calls_of run))
all_at_places run =
    let calls = calls_of run in
    let all = All-from_recursion (IsAtPlace run) calls (all_found run 0 run.writers (λ k. let same : 0 + k ≡ k = omega arith in ap (slice_get run.writers) same)) in
    recursion_from_All (IsAtPlace run) (in_order calls) (All-permutation (IsAtPlace run) calls (in_order calls) (IsPermutation-sym (in_order calls) calls (in_order-permutation calls)) all)

-- the calls at the places in order are the calls in order
pub calls_at_places : (run : Recording) → map (call_in run) (places_in_order run) ≡ map Some (in_order (calls_of run))
calls_at_places run = found_again run (in_order (calls_of run)) (all_at_places run)
