-- The calls of each writer among all calls in order are its own, in its order.
use Rattle.std.proofs.Common.{◌≡◌, ◌≢◌, ℕ, zero, suc, ◌+◌, ◌<◌, ◌≤◌, Bool, eqb, List, [], ◌∷◌, ◌++◌, Some, refl, ap, sym, subst, ◌∙◌, arith}
use Rattle.std.specs.Prelude.{filter, slice_get}
use Rattle.std.specs.List.{AllByRecursion, flat_map, filter_map, enumerate_from}
use Rattle.std.proofs.lemmas.Bool.{eq-eqb, ne_eqb}
use Rattle.std.proofs.lemmas.Option.{same_Some}
use Rattle.std.proofs.lemmas.List.{append-nil}
use Rattle.std.proofs.lemmas.List.Elements.{filter-append}
use Rattle.log_dictionary.specs.declared.message.Message.{Message}
use Rattle.log_dictionary.specs.Calls.{LogCall}
use Rattle.arg_records.specs.declared.call.Call.{Call}
use Rattle.arg_records.specs.Calls.{IsCall, NeverFalls, log_call, writer_calls}
use Rattle.stamp_merge.proofs.lemmas.Ordering.{NoneBefore, IsRising, in_order_by-filter}
use Rattle.direct_printf.specs.Lines.{call_before, in_order}
use Rattle.direct_printf.proofs.lemmas.Sorting.{later_not_before}

-- the call is that writer's
abbrev pub is_of : ℕ → LogCall → Bool
is_of writer call = eqb call.writer writer

-- ---- the calls of one writer

module _ (messages : List Message) where
  all_own : (writer n : ℕ) (calls : List Call) → AllByRecursion (IsCall messages) calls → filter (is_of writer) (filter_map (log_call messages writer) (enumerate_from n calls)) ≡ filter_map (log_call messages writer) (enumerate_from n calls)
  all_own writer n [] all = refl
  all_own writer n (call ∷ calls) all = rw (all.0.known, eq-eqb writer writer refl) (ap (λ (cs : List LogCall). record { writer = writer; ordinal = n; stamp = call.stamp; message = all.0.message; args = call.args } ∷ cs) (all_own writer (n + 1) calls all.1))

  none_own : (writer other n : ℕ) (calls : List Call) → other ≢ writer → AllByRecursion (IsCall messages) calls → filter (is_of writer) (filter_map (log_call messages other) (enumerate_from n calls)) ≡ []
  none_own writer other n [] apart all = refl
  none_own writer other n (call ∷ calls) apart all = rw (all.0.known, ne_eqb other writer apart) (none_own writer other (n + 1) calls apart all.1)

  no_more : (writer n : ℕ) (writers : List (List Call)) → writer < n → AllByRecursion (AllByRecursion (IsCall messages)) writers → filter (is_of writer) (flat_map (writer_calls messages) (enumerate_from n writers)) ≡ []
  no_more writer n [] past all = refl
  no_more writer n (calls ∷ writers) past all =
      filter-append (is_of writer) (writer_calls messages (n, calls)) (flat_map (writer_calls messages) (enumerate_from (n + 1) writers))
      ∙ ap (λ (cs : List LogCall). cs ++ filter (is_of writer) (flat_map (writer_calls messages) (enumerate_from (n + 1) writers))) (none_own writer n 0 calls (λ e. omega (arith, past, e)) all.0)
      ∙ no_more writer (n + 1) writers (omega (arith, past)) all.1

  among_all : (n place writer : ℕ) (writers : List (List Call)) (calls : List Call) → n + place ≡ writer → slice_get writers place ≡ Some calls → AllByRecursion (AllByRecursion (IsCall messages)) writers
      → filter (is_of writer) (flat_map (writer_calls messages) (enumerate_from n writers)) ≡ writer_calls messages (writer, calls)
  among_all n place writer [] calls is there all = absurd cc
  among_all n zero writer (first ∷ writers) calls is there all =
      let same : n ≡ writer = omega (arith, is) in
      filter-append (is_of writer) (writer_calls messages (n, first)) (flat_map (writer_calls messages) (enumerate_from (n + 1) writers))
      ∙ ap (λ (cs : List LogCall). filter (is_of writer) (writer_calls messages (n, first)) ++ cs) (no_more writer (n + 1) writers (omega (arith, is)) all.1)
      ∙ append-nil (filter (is_of writer) (writer_calls messages (n, first)))
      ∙ ap (λ (w : ℕ). filter (is_of writer) (writer_calls messages (w, first))) same
      ∙ all_own writer 0 first all.0
      ∙ ap (λ (cs : List Call). writer_calls messages (writer, cs)) (same_Some first calls there)
  among_all n (suc place) writer (first ∷ writers) calls is there all =
      filter-append (is_of writer) (writer_calls messages (n, first)) (flat_map (writer_calls messages) (enumerate_from (n + 1) writers))
      ∙ ap (λ (cs : List LogCall). cs ++ filter (is_of writer) (flat_map (writer_calls messages) (enumerate_from (n + 1) writers))) (none_own writer n 0 first (λ e. omega (arith, is, e)) all.0)
      ∙ among_all (n + 1) place writer writers calls (omega (arith, is)) there all.1

  none_earlier : (writer first n least : ℕ) (call : Call) (message : Message) (calls : List Call) → first < n → call.stamp ≤ least → AllByRecursion (IsCall messages) calls → NeverFalls least calls
      → NoneBefore call_before (record { writer = writer; ordinal = first; stamp = call.stamp; message = message; args = call.args }) (filter_map (log_call messages writer) (enumerate_from n calls))
  none_earlier writer first n least call message [] later risen all rises = tt
  none_earlier writer first n least call message (next ∷ calls) later risen all rises =
      rw all.0.known (
        later_not_before (record { writer = writer; ordinal = first; stamp = call.stamp; message = message; args = call.args }) (record { writer = writer; ordinal = n; stamp = next.stamp; message = all.0.message; args = next.args }) (omega (arith, risen, rises.0)) (omega arith) (omega (arith, later)),
        none_earlier writer first (n + 1) next.stamp call message calls (omega (arith, later)) (omega (arith, risen, rises.0)) all.1 rises.1,
      )

  writer_rises : (writer n least : ℕ) (calls : List Call) → AllByRecursion (IsCall messages) calls → NeverFalls least calls → IsRising call_before (filter_map (log_call messages writer) (enumerate_from n calls))
  writer_rises writer n least [] all rises = tt
  writer_rises writer n least (call ∷ calls) all rises =
      rw all.0.known (none_earlier writer n (n + 1) call.stamp call all.0.message calls (omega arith) (omega arith) all.1 rises.1, writer_rises writer (n + 1) call.stamp calls all.1 rises.1)

-- a writer's calls among all calls in order are its own, in its order
pub own_in_order : (messages : List Message) (writers : List (List Call)) (writer least : ℕ) (calls : List Call) → slice_get writers writer ≡ Some calls → AllByRecursion (AllByRecursion (IsCall messages)) writers
    → AllByRecursion (IsCall messages) calls → NeverFalls least calls → filter (is_of writer) (in_order (flat_map (writer_calls messages) (enumerate_from 0 writers))) ≡ writer_calls messages (writer, calls)
own_in_order messages writers writer least calls there all own rises =
    let same = among_all messages 0 writer writer writers calls (omega arith) there all in
    in_order_by-filter call_before (is_of writer) (flat_map (writer_calls messages) (enumerate_from 0 writers)) (subst (IsRising call_before) (sym same) (writer_rises messages writer 0 least calls own rises)) ∙ same
