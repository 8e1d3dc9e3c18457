use Rattle.std.proofs.Common.{◌≤◌, length, sym, ap, arith, ◌∙◌}
use Rattle.log_dictionary.proofs.lemmas.ClockLists.{some_counted, last_counted, counts_searched, counts_last}
use Rattle.log_dictionary.proofs.clocks.Clocks.at.Goals as goal

pub overflow_sub-result : goal.overflow_sub-result
overflow_sub-result c = grind (arith, some_counted)

pub returns-then-last-stamp-clause-counts : goal.returns-then-last-stamp-clause-counts
returns-then-last-stamp-clause-counts c =
    let same = c.as_slice-clocks.ensures.value in
    rw (sym (same ∙ c.self.view_is)) (counts_last _ c.args.stamp _ (omega (arith, c.self.invariant.0.some, ap length same)) c.if-last-stamp.true)

pub returns-clause-counts : goal.returns-clause-counts
returns-clause-counts c =
    let some : 1 ≤ c.counted.result = grind (arith, some_counted) in
    rw (sym (c.as_slice-clocks.ensures.value ∙ c.self.view_is)) (counts_searched _ c.args.stamp _ _ some c.counted.ensures.bound c.counted.ensures.value)

pub returns-clause-not_before : goal.returns-clause-not_before
returns-clause-not_before c =
    let some : 1 ≤ c.counted.result = grind (arith, some_counted) in
    last_counted _ c.args.stamp _ _ some c.counted.ensures.value
