use Rattle.std.proofs.Common.{rules, ◌≡◌, ◌↔◌, true, refl, sym, subst}
use Rattle.trace_session.specs.declared.workplace.Workplace.{Workplace}
use Rattle.trace_session.specs.declared.workplace.Workplace.TheVariants as workplaces
use Rattle.trace_session.specs.declared.worker.Turn.TheVariants as turns
use Rattle.trace_session.specs.Workplaces.{TakesOneTurn}
use Rattle.trace_session.proofs.workplace.Workplace.take_turn.Goals as goal

pub returns-in-Here-clause-turn : goal.returns-in-Here-clause-turn
returns-in-Here-clause-turn g c =
    let moved : (c.eq.result ≡ true) ↔ (c.turn.result ≡ turns.Moved) = let e = c.eq.ensures in search rules in
    subst (λ (workplace : Workplace g.row.S.Denot g.row.G.Denot). TakesOneTurn g.S.StageIn.at g.S.StageIn.words g.S.StageIn.seen g.S.StageIn.looks g.S.StageIn.closed workplace (workplaces.Here c.turn.new.self) c.eq.result) (sym c.in-Here.is)
    (c.turn.new.self, c.turn.result, refl, c.turn.ensures.turn, moved)
