use Rattle.std.proofs.Common.{[], ◌++◌, sym, subst, ap, ◌∙◌}
use Rattle.std.proofs.lemmas.List.{append-nil}
use Rattle.source_tokens.specs.declared.line_parts.LinePlace.{LinePlace}
use Rattle.source_tokens.specs.Directives.{InLines, left_at}
use Rattle.source_tokens.proofs.LineLists.{lines-end, left_none}
use Rattle.source_tokens.proofs.line_parts.LineParts.end_line.Goals as goal
use Rattle.source_tokens.proofs.line_parts.LineParts.end_line.Goals.{in-Inside+in_ok-push, in_default}

pub returns-clause-parts : goal.returns-clause-parts
returns-clause-parts c = λ tokens to.
    let old = c.args.self.now in
    elim c.match-self.branch [
      | in-Inside+in_ok-push w ↦
          let ended = subst (λ (place : LinePlace). InLines tokens (old.parts ++ left_at place [])) w.in-Inside.is (lines-end tokens old.parts old.place to) in
          rw (ap (λ all. all.parts) w.self-is ∙ w.in_ok-push.ensures.ok) ended
      | in_default w ↦
          let none = ap (λ left. old.parts ++ left) (left_none old.place w.in_default.not-Inside) ∙ append-nil old.parts in
          rw (ap (λ all. all.parts) w.self-is ∙ sym none) (lines-end tokens old.parts old.place to)
    ]
