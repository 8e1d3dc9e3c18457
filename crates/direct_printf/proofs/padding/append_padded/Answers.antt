use Rattle.std.proofs.Common.{refl}
use Rattle.std.proofs.lemmas.Result.{on_err_weaker}
use Rattle.log_dictionary.proofs.lemmas.Appending.{kept}
use Rattle.direct_printf.proofs.Padded.{padded-none, padded-zeros}
use Rattle.direct_printf.proofs.padding.append_padded.Goals as goal

pub returns-then-missing-eq0-clause-ok : goal.returns-then-missing-eq0-clause-ok
returns-then-missing-eq0-clause-ok c =
    let missing = rw (c.saturating_sub-2.ensures, c.saturating_sub.ensures) at c.saturating_sub-missing.ensures in
    rw (padded-none c.args.padding.left c.args.padding.zeros c.args.padding.width c.saturating_sub-missing.result 0 c.args.parts.zeros c.args.parts.front.now c.args.parts.body.now refl c.if-missing-eq0.true missing) at c.append_parts.ensures.ok

pub returns-then-padding-2-clause-ok : goal.returns-then-padding-2-clause-ok
returns-then-padding-2-clause-ok c =
    let missing = rw (c.saturating_sub-2.ensures, c.saturating_sub.ensures) at c.saturating_sub-missing.ensures in
    rw (padded-zeros c.args.padding.left c.args.padding.zeros c.args.padding.width c.saturating_sub-missing.result c.args.parts.zeros c.args.parts.front.now c.args.parts.body.now c.if-padding.false c.if-padding-2.true missing) at c.append_parts-then-padding-2.ensures.ok

pub returns-in_ok-append_run-clause-err : goal.returns-in_ok-append_run-clause-err
returns-in_ok-append_run-clause-err c =
    on_err_weaker _ (kept _ _ _ _ _ _ c.args.out.now.ok.0 c.append_run-else-padding-2.new.out.ok.0 c.in_ok-append_run.ensures.ok) c.append_parts-else-padding-2.ensures.err
