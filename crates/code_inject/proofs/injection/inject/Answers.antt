use Rattle.std.proofs.Common.{◌≡◌, [], length, arith, ◌∙◌}
use Rattle.std.proofs.lemmas.List.{nil_from_length}
use Rattle.preprocessor.proofs.lemmas.Finding.{statements_are_named}
use Rattle.code_inject.specs.Rewrites.{HeadsFrom}
use Rattle.code_inject.proofs.Gathered.{heads_few}
use Rattle.code_inject.proofs.Sources.{heads_in, injects}
use Rattle.code_inject.proofs.injection.inject.Goals as goal

pub outcomes_of-requires : goal.outcomes_of-requires
outcomes_of-requires c = statements_are_named c.args.file.now c.args.source.now _ c.in_ok-found.ensures

pub append_rewritten-requires : goal.append_rewritten-requires
append_rewritten-requires c = rw c.as_slice.ensures.value (heads_in c.args.file.now c.args.source.now c.in_ok-found.found.items c.args.dictionary.now c.in_ok-outcomes.outcomes c.in_ok-found.ensures c.in_ok-outcomes.ensures)

pub overflow_cast-result : goal.overflow_cast-result
overflow_cast-result c =
    let outcomes = c.in_ok-outcomes.outcomes in
    let heads : HeadsFrom 0 outcomes.rewrites.items (length c.args.source.now) = heads_in c.args.file.now c.args.source.now c.in_ok-found.found.items c.args.dictionary.now outcomes c.in_ok-found.ensures c.in_ok-outcomes.ensures in
    omega (arith, heads_few outcomes.rewrites.items 0 _ heads, c.len.ensures, outcomes.rewrites.ok.0, c.requires)

pub returns-clause-ok : goal.returns-clause-ok
returns-clause-ok c =
    let outcomes = c.in_ok-outcomes.outcomes in
    let none : outcomes.refusals.items ≡ [] = nil_from_length outcomes.refusals.items (grind (arith, outcomes.refusals.ok.0, c.if-not-is_empty.ensures)) in (
      _,
      rw c.as_slice.ensures.value at c.in_ok-append_rewritten.ensures.ok,
      injects c.args.file.now c.args.source.now c.in_ok-found.found.items c.args.dictionary.now outcomes c.len.result c.in_ok-found.ensures c.in_ok-outcomes.ensures none (c.len.ensures ∙ outcomes.rewrites.ok.0),
    )
