use Rattle.std.proofs.Common.{rules, ◌<◌, List, Bool, false, length, get_or, ap, refl, ◌∙◌}
use Rattle.checkpoint_io.specs.declared.writers.WriterState.{WriterState}
use Rattle.checkpoint_io.specs.Writers.{last_kept, closed_kept}
use Rattle.checkpoint_io.proofs.WriterLaws.{set_here, set_other, set_same}
use Rattle.checkpoint_io.proofs.writers.Writers.go_on.Goals as goal

pub returns-clause-own : goal.returns-clause-own
returns-clause-own c known =
    let within : c.args.writer < length c.self.inside.states.items = search rules in
    set_here (λ (s : WriterState). s.last) 0 c.self.inside.states.items c.args.writer _ within

pub returns-clause-others : goal.returns-clause-others
returns-clause-others c other differs =
    set_other (λ (s : WriterState). s.last) 0 c.self.inside.states.items c.args.writer _ other differs ∙ ap (λ (l : List WriterState). last_kept l other) c.self.view_is

pub returns-clause-closed : goal.returns-clause-closed
returns-clause-closed c other =
    let within : c.args.writer < length c.self.inside.states.items = search rules in
    ap (λ (l : List Bool). get_or l other false) (set_same (λ (s : WriterState). s.closed) c.self.inside.states.items c.args.writer c.in-Some.state.now _ within c.in-Some.ensures.value refl)
    ∙ ap (λ (l : List WriterState). closed_kept l other) c.self.view_is
