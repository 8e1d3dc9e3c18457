-- The order of calls.
use Rattle.std.proofs.Common.{◌≡◌, ◌≤◌, false, List}
use Rattle.std.specs.Cmp.{IsStrictWeakOrder, IsTotalOrder}
use Rattle.std.specs.Ordering.{nat_cmp, ordering_then}
use Rattle.std.specs.List.Sorted.{IsPermutation, IsSortedBy}
use Rattle.std.proofs.lemmas.Cmp.{then_total, on_total, nat_cmp_total}
use Rattle.std.proofs.lemmas.List.MinMax.{ranks_by}
use Rattle.std.proofs.lemmas.List.Sorted.{IsPermutation-sym}
use Rattle.log_dictionary.specs.Calls.{LogCall}
use Rattle.stamp_merge.proofs.lemmas.Comparing.{not_less, none_less}
use Rattle.stamp_merge.proofs.lemmas.Ordering.{in_order_by-permutation, in_order_by-rises}
use Rattle.direct_printf.specs.Lines.{call_cmp, call_before, in_order}

call_total : IsTotalOrder call_cmp
call_total = then_total (on_total (λ c. c.stamp) nat_cmp_total) (then_total (on_total (λ c. c.writer) nat_cmp_total) (on_total (λ c. c.ordinal) nat_cmp_total))

pub call_order : IsStrictWeakOrder call_before
call_order = ranks_by call_total (λ c. c)

-- the calls in order are the same calls
pub in_order-permutation : (calls : List LogCall) → IsPermutation (in_order calls) calls
in_order-permutation calls = IsPermutation-sym calls (in_order calls) (in_order_by-permutation call_before calls)

-- no call comes before the one in front of it
pub in_order-rises : (calls : List LogCall) → IsSortedBy call_before (in_order calls)
in_order-rises calls = in_order_by-rises call_before call_order calls

-- a later call of the same writer, whose stamp is no smaller, does not come before this one
pub later_not_before : (call next : LogCall) → call.stamp ≤ next.stamp → call.writer ≤ next.writer → call.ordinal ≤ next.ordinal → call_before next call ≡ false
later_not_before call next stamps writers ordinals =
    none_less (nat_cmp next.stamp call.stamp) (ordering_then (nat_cmp next.writer call.writer) (nat_cmp next.ordinal call.ordinal)) (not_less call.stamp next.stamp stamps)
    (none_less (nat_cmp next.writer call.writer) (nat_cmp next.ordinal call.ordinal) (not_less call.writer next.writer writers) (not_less call.ordinal next.ordinal ordinals))
