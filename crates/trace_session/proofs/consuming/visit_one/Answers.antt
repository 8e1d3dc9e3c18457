use Rattle.trace_session.proofs.Rounds.{roams_visit, over_more}
use Rattle.trace_session.proofs.consuming.visit_one.Goals as goal

pub returns-in-Ok-Ended-clause-roams : goal.returns-in-Ok-Ended-clause-roams
returns-in-Ok-Ended-clause-roams g c =
    let e = c.visit.ensures in
    roams_visit _ _ _ _ c.visit.result _ _ _ _ _ _ _ _ e.visits (λ before after step. step.1.same_pair) e.wrote e.counted e.cause e.count e.ok e.err e.begun e.same_run e.planned

pub returns-in-Ok-Ended-clause-over : goal.returns-in-Ok-Ended-clause-over
returns-in-Ok-Ended-clause-over g c =
    let e = c.in-Ok-Ended.ensures in
    λ is before. over_more _ _ _ _ _ c.in-Ok-Ended.field-0 _ _ _ c.in-Ok-Ended.field-0-is e.visits e.marks e.ok before

pub returns-in-Ok-Idle-clause-roams : goal.returns-in-Ok-Idle-clause-roams
returns-in-Ok-Idle-clause-roams g c =
    let e = c.visit.ensures in
    roams_visit _ _ _ _ c.visit.result _ _ _ _ _ _ _ _ e.visits (λ before after step. step.1.same_pair) e.wrote e.counted e.cause e.count e.ok e.err e.begun e.same_run e.planned

pub returns-in-Ok-Wrote-clause-roams : goal.returns-in-Ok-Wrote-clause-roams
returns-in-Ok-Wrote-clause-roams g c =
    let e = c.visit.ensures in
    roams_visit _ _ _ _ c.visit.result _ _ _ _ _ _ _ _ e.visits (λ before after step. step.1.same_pair) e.wrote e.counted e.cause e.count e.ok e.err e.begun e.same_run e.planned

pub returns-in-Ok-Wrote-2-clause-roams : goal.returns-in-Ok-Wrote-2-clause-roams
returns-in-Ok-Wrote-2-clause-roams g c =
    let e = c.visit.ensures in
    roams_visit _ _ _ _ c.visit.result _ _ _ _ _ _ _ _ e.visits (λ before after step. step.1.same_pair) e.wrote e.counted e.cause e.count e.ok e.err e.begun e.same_run e.planned
