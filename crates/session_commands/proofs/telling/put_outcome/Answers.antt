use Rattle.std.proofs.Common.{refl, ◌∙◌}
use Rattle.nl_io.proofs.lemmas.Outcomes.{at_err}
use Rattle.command_base.proofs.lemmas.Printings.{flushed_whole, flushed_cut}
use Rattle.session_commands.proofs.OutcomeTexts.{none_carried, drop_carried, drop_cut, counts_cut, outcome_carried}
use Rattle.session_commands.proofs.telling.put_outcome.Goals as goal

pub loop-drop-init : goal.loop-drop-init
loop-drop-init g c = record {
  carried = none_carried _ _ _ _ c.make-writer.ensures c.into_iter-drop-iterator.ensures.into_iter_gives;
  counted = refl;
  others = g.met.O.Sink.rest_same _;
}

pub loop-drop-preserved : goal.loop-drop-preserved
loop-drop-preserved g c =
    let was = c.loop-drop.invariant in
    record {
      carried = drop_carried _ _ _ c.in-Some.drop.now _ _ _ _ _ c.in-Some.ensures.steps was.carried c.in_ok-put_drop.ensures.ok;
      counted = c.in_ok-put_drop.ensures.counted ∙ was.counted;
      others = g.met.O.Sink.rest_then _ _ _ was.others c.put_drop.ensures.others;
    }

pub returns-in_err-put_drop-clause-cut_off : goal.returns-in_err-put_drop-clause-cut_off
returns-in_err-put_drop-clause-cut_off g c =
    let was = c.loop-drop.invariant in
    at_err c.from_residual.result
    (drop_cut _ _ _ c.in-Some.drop.now c.args.accepted c.args.filtered _ _ _ _ _ _ _ c.in-Some.ensures.steps was.carried was.counted
    c.in_err-put_drop.ensures.cut_off)

pub returns-in_err-put_drop-clause-others : goal.returns-in_err-put_drop-clause-others
returns-in_err-put_drop-clause-others g c = g.met.O.Sink.rest_then _ _ _ c.loop-drop.invariant.others c.put_drop.ensures.others

pub returns-in_err-put_counts-clause-cut_off : goal.returns-in_err-put_counts-clause-cut_off
returns-in_err-put_counts-clause-cut_off g c =
    let was = c.loop-drop.invariant in
    at_err c.from_residual-in_err-put_counts.result
    (counts_cut _ _ c.args.accepted c.len.result c.args.filtered _ _ _ _ _ _ _ c.in-None.ensures.steps.0 c.len.ensures was.carried
    was.counted c.in_err-put_counts.ensures.cut_off)

pub returns-in_err-put_counts-clause-others : goal.returns-in_err-put_counts-clause-others
returns-in_err-put_counts-clause-others g c =
    g.met.O.Sink.rest_then _ _ _ c.loop-drop.invariant.others c.put_counts.ensures.others

pub returns-clause-ok : goal.returns-clause-ok
returns-clause-ok g c =
    flushed_whole c.flush.result _ _ _ _ _
    (outcome_carried _ _ c.args.accepted c.len.result c.args.filtered _ _ _ _ _ c.in-None.ensures.steps.0 c.len.ensures
    c.loop-drop.invariant.carried c.in_ok-put_counts.ensures.ok)
    c.flush.ensures.ok

pub returns-clause-cut_off : goal.returns-clause-cut_off
returns-clause-cut_off g c =
    flushed_cut c.flush.result _ _ _ _ _ _ _ _
    (outcome_carried _ _ c.args.accepted c.len.result c.args.filtered _ _ _ _ _ c.in-None.ensures.steps.0 c.len.ensures
    c.loop-drop.invariant.carried c.in_ok-put_counts.ensures.ok)
    (c.in_ok-put_counts.ensures.counted ∙ c.loop-drop.invariant.counted) c.flush.ensures.cut_off

pub returns-clause-others : goal.returns-clause-others
returns-clause-others g c =
    g.met.O.Sink.rest_then _ _ _ c.loop-drop.invariant.others
    (g.met.O.Sink.rest_then _ _ _ c.put_counts.ensures.others c.flush.ensures.others)
