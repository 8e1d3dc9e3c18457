-- The places of a run's calls, sorted, are those of its calls in order.
use Rattle.std.proofs.Common.{◌≡◌, ℕ, ◌+◌, List, [], ◌∷◌, ◌++◌, map, length, refl, ap, sym, ◌∙◌, subst, arith}
use Rattle.std.specs.Cmp.{IsTotalOrder}
use Rattle.std.specs.declared.cmp.Ordering.{Ordering}
use Rattle.std.specs.Ordering.{is_lt, nat_cmp, ordering_then}
use Rattle.std.specs.List.{AllByRecursion, flat_map, filter_map, enumerate_from}
use Rattle.std.specs.List.Sorted.{IsSorted, IsPermutation}
use Rattle.std.proofs.lemmas.Cmp.{then_total, on_total, nat_cmp_total}
use Rattle.std.proofs.lemmas.List.{map-append, append-nil}
use Rattle.std.proofs.lemmas.Map.Lookups.{CmpEqualImpliesEq, exact_unsigned}
use Rattle.log_dictionary.specs.declared.message.Message.{Message}
use Rattle.arg_records.specs.declared.call.Call.{Call}
use Rattle.arg_records.specs.Calls.{IsCall, log_call, writer_calls}
use Rattle.stamp_merge.proofs.lemmas.Comparing.{then_equal}
use Rattle.stamp_merge.proofs.lemmas.Ordering.{in_order_by-map}
use Rattle.stamp_merge.proofs.lemmas.Sorted.{sorted-in_order}
use Rattle.trace_text.specs.declared.order.CallPlace.{CallPlace}
use Rattle.trace_text.specs.Recordings.{Recording, IsRecording, calls_of}
use Rattle.trace_text.specs.Order.{call_place, places_in_order, place_in, writer_places, places_by_writer}

-- how places compare: by stamp, then by writer, then by ordinal
abbrev pub place_cmp : CallPlace → CallPlace → Ordering
place_cmp a b = ordering_then (nat_cmp a.stamp b.stamp) (ordering_then (nat_cmp a.writer b.writer) (nat_cmp a.ordinal b.ordinal))

place_total : IsTotalOrder place_cmp
place_total = then_total (on_total (λ p. p.stamp) nat_cmp_total) (then_total (on_total (λ p. p.writer) nat_cmp_total) (on_total (λ p. p.ordinal) nat_cmp_total))

abbrev place : ℕ → ℕ → ℕ → CallPlace
place stamp writer ordinal = record { stamp = stamp; writer = writer; ordinal = ordinal }

place_exact : CmpEqualImpliesEq place_cmp
place_exact a b same =
    let first = then_equal (nat_cmp a.stamp b.stamp) (ordering_then (nat_cmp a.writer b.writer) (nat_cmp a.ordinal b.ordinal)) same in
    let second = then_equal (nat_cmp a.writer b.writer) (nat_cmp a.ordinal b.ordinal) first.1 in
    let stamps : place a.stamp a.writer a.ordinal ≡ place b.stamp a.writer a.ordinal = ap (λ s. place s a.writer a.ordinal) (exact_unsigned a.stamp b.stamp first.0) in
    let writers : place b.stamp a.writer a.ordinal ≡ place b.stamp b.writer a.ordinal = ap (λ w. place b.stamp w a.ordinal) (exact_unsigned a.writer b.writer second.0) in
    stamps ∙ writers ∙ ap (λ o. place b.stamp b.writer o) (exact_unsigned a.ordinal b.ordinal second.1)

-- ---- each call has its place

one_writer : (messages : List Message) (writer n : ℕ) (calls : List Call) → AllByRecursion (IsCall messages) calls → map (place_in writer) (enumerate_from n calls) ≡ map call_place (filter_map (log_call messages writer) (enumerate_from n calls))
one_writer messages writer n [] all = refl
one_writer messages writer n (call ∷ calls) all = rw all.0.known (ap (λ places. place_in writer (n, call) ∷ places) (one_writer messages writer (n + 1) calls all.1))

all_writers : (messages : List Message) (n : ℕ) (writers : List (List Call)) → AllByRecursion (AllByRecursion (IsCall messages)) writers → flat_map writer_places (enumerate_from n writers) ≡ map call_place (flat_map (writer_calls messages) (enumerate_from n writers))
all_writers messages n [] all = refl
all_writers messages n (calls ∷ writers) all =
    ap (λ places. places ++ flat_map writer_places (enumerate_from (n + 1) writers)) (one_writer messages n 0 calls all.0)
    ∙ ap (λ places. map call_place (writer_calls messages (n, calls)) ++ places) (all_writers messages (n + 1) writers all.1)
    ∙ sym (map-append call_place (writer_calls messages (n, calls)) (flat_map (writer_calls messages) (enumerate_from (n + 1) writers)))

-- where no writer is left, the places so far are all
pub none_left : (n : ℕ) (writers : List (List Call)) (places all : List CallPlace) → length writers ≡ 0 → places ++ flat_map writer_places (enumerate_from n writers) ≡ all → places ≡ all
none_left n [] places all none is = sym (append-nil places) ∙ is
none_left n (calls ∷ writers) places all none is = absurd (omega (arith, none))

-- ---- the places in order

pub places_sorted : (run : Recording) (sorted : List CallPlace) → IsRecording run → IsPermutation (places_by_writer run.writers) sorted → IsSorted place_cmp sorted → sorted ≡ places_in_order run
places_sorted run sorted recorded moved up =
    let calls = calls_of run in
    let same : places_by_writer run.writers ≡ map call_place calls = all_writers run.dictionary 0 run.writers recorded.calls in
    sorted-in_order place_cmp place_total place_exact (map call_place calls) sorted (subst (λ places. IsPermutation places sorted) same moved) up
    ∙ sym (in_order_by-map call_place (λ a b. is_lt (place_cmp a b)) calls)
