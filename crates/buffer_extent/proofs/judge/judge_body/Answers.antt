use Rattle.std.proofs.Common.{◌≡◌, ◌<◌, ℕ, Err, sym, ap, subst, ◌∙◌}
use Rattle.std.proofs.lemmas.List.{nil_from_length}
use Rattle.std.proofs.lemmas.List.Elements.{All-from_get_or}
use Rattle.std.proofs.lemmas.Bool.{eqb-true}
use Rattle.std.proofs.lemmas.Result.{err_from_is_err_and}
use Rattle.buffer_extent.specs.Bodies.{BodyBreak}
use Rattle.buffer_extent.proofs.Bodies.{some_left, one_read, all_read, body_breaks, read_shorter}
use Rattle.buffer_extent.proofs.lemmas.BodyLaws.{IsBody-not_broken, BodyBreak-unique}
use Rattle.buffer_extent.proofs.judge.judge_body.Goals as goal

pub returns-in_err-head-clause-broken : goal.returns-in_err-head-clause-broken
returns-in_err-head-clause-broken c = λ cause.
    let (records, so_far) = c.loop-rest.invariant in
    let p = err_from_is_err_and c.from_residual.result c.from_residual.ensures.1 in
    let is = p.1 ∙ ap Err p.2 in
    let broken = body_breaks c.args.dictionary.now c.args.base c.args.last c.args.body.now records c.loop-rest.before c.loop-rest.least c.loop-rest.rest.now _ so_far
    (some_left c.loop-rest.rest.now c.is_empty.result c.is_empty.ensures c.loop-rest-test.true) c.in_err-head.ensures in (
      λ told.
          let same : Err c.in_err-head.field-0.0 ≡ Err cause = sym is ∙ told in
          let found : c.in_err-head.field-0.0 ≡ cause = cc in
          subst (BodyBreak c.args.dictionary.now c.args.base c.args.last c.args.body.now) found broken,
      λ breaks. is ∙ ap Err (BodyBreak-unique c.args.dictionary.now c.args.base c.args.last _ cause c.args.body.now broken breaks),
    )

pub loop-rest-preserved : goal.loop-rest-preserved
loop-rest-preserved c =
    let (records, so_far) = c.loop-rest.invariant in (
      _,
      one_read c.args.dictionary.now c.args.base c.args.last c.args.body.now records c.loop-rest.before c.loop-rest.least c.loop-rest.rest.now _ c.in_ok-head.back.now so_far
          (All-from_get_or (λ (b : ℕ). b < 256) c.args.body.now 0 (λ i _. (c.type_inv.body i).fits)) c.in_ok-head.ensures.1,
    )

pub loop-rest-smaller : goal.loop-rest-smaller
loop-rest-smaller c =
    let (records, so_far) = c.loop-rest.invariant in
    read_shorter c.args.dictionary.now c.args.base c.args.last c.args.body.now records c.loop-rest.before c.loop-rest.least c.loop-rest.rest.now _ _ so_far
    (All-from_get_or (λ (b : ℕ). b < 256) c.args.body.now 0 (λ i _. (c.type_inv.body i).fits)) c.in_ok-head.ensures.1

pub returns-clause-ok : goal.returns-clause-ok
returns-clause-ok c =
    let (records, so_far) = c.loop-rest.invariant in (
      records,
      all_read c.args.dictionary.now c.args.base c.args.last c.args.body.now records c.loop-rest.before c.loop-rest.least c.loop-rest.rest.now so_far
          (nil_from_length c.loop-rest.rest.now (eqb-true _ _ (sym c.is_empty.ensures ∙ c.loop-rest-test.false))),
      so_far.least_is,
    )

pub returns-clause-broken : goal.returns-clause-broken
returns-clause-broken c = λ cause.
    let (records, is, last_is) = returns-clause-ok c in
    (λ clash. absurd cc, λ broken. absurd (IsBody-not_broken c.args.dictionary.now c.args.base c.args.last records cause c.args.body.now is broken))
