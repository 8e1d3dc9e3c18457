use Rattle.std.proofs.Common.{List, [], ◌∷◌, ◌++◌, length, refl, ap, ◌∙◌, arith}
use Rattle.std.proofs.lemmas.List.Sums.{sum_by_push}
use Rattle.arg_records.specs.declared.call.Call.{Call}
use Rattle.trace_session.specs.Drops.{call_count}
use Rattle.arg_records.proofs.lemmas.Walks.{walked, walked_all}
use Rattle.trace_session.proofs.Leaving.{calls_within}
use Rattle.trace_session.proofs.finishing.count_calls.Goals as goal

pub loop-calls-init : goal.loop-calls-init
loop-calls-init c = ([], c.into_iter-calls-iterator.ensures.into_iter_gives, refl)

pub overflow_add-count : goal.overflow_add-count
overflow_add-count c =
    let (seen, joined, counted) = c.loop-calls.invariant in
    omega (arith, calls_within seen _ _ _ c.in-Some.calls.now 4194304 joined c.in-Some.ensures.steps c.requires.few, counted)

pub loop-calls-preserved : goal.loop-calls-preserved
loop-calls-preserved c =
    let (seen, joined, counted) = c.loop-calls.invariant in (
      seen ++ c.in-Some.calls.now ∷ [],
      walked seen _ _ _ c.in-Some.calls.now joined c.in-Some.ensures.steps,
      omega (arith, counted, sum_by_push length seen c.in-Some.calls.now),
    )

pub returns : goal.returns
returns c =
    let (seen, joined, counted) = c.loop-calls.invariant in
    counted ∙ ap (λ (l : List (List Call)). call_count l) (walked_all seen _ _ joined c.in-None.ensures.steps.0)
