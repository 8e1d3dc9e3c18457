use Rattle.std.proofs.Common.{List, sym, subst}
use Rattle.std.specs.List.{AllZip}
use Rattle.log_dictionary.specs.declared.message.Message.{Message}
use Rattle.ring_core.specs.Plans.{plan_of}
use Rattle.log_session.specs.Starts.{IsNewRing}
use Rattle.log_session.specs.Writers.{IsDictionaryPlan}
use Rattle.log_session.proofs.Logging.{dictionary_plan}
use Rattle.log_session.proofs.Rings.{zip_more, one_longer}
use Rattle.log_session.proofs.starting.open_rings.Goals as goal

pub add_ring-requires-clause-plan : goal.add_ring-requires-clause-plan
add_ring-requires-clause-plan g c κs within =
    let messages = c.as_slice-messages.ensures in
    subst (λ (m : List Message). IsDictionaryPlan (plan_of m c.args.first)) (sym messages.value) (dictionary_plan c.args.dictionary.now c.args.first messages.few messages.formed)

pub loop-preserved : goal.loop-preserved
loop-preserved g c =
    let more = c.in_ok-add_ring.ensures in (
      one_longer _ _ _ _ _ c.loop.counter c.loop.invariant.0 more,
      zip_more _ _ _ _ _ c.loop.invariant.1 more,
    )

pub returns-clause-rings : goal.returns-clause-rings
returns-clause-rings g c =
    subst (λ (m : List Message). AllZip (IsNewRing c.args.ring (plan_of m c.args.first) g.S.In.StageIn.pair g.S.In.StageIn.words g.S.In.StageIn.plan g.S.In.StageIn.sent g.S.In.StageIn.closed g.S.In.StageIn.at g.S.In.StageIn.seen g.S.Out.StageOut.pair g.S.Out.StageOut.plan g.S.Out.StageOut.got g.S.Out.StageOut.ended) c.loop.ours.items c.loop.theirs.items)
    c.as_slice-messages.ensures.value c.loop.invariant.1
