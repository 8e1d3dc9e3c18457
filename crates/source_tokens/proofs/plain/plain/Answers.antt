use Rattle.std.proofs.Common.{refl, ap}
use Rattle.source_tokens.proofs.lemmas.Passing.{alone}
use Rattle.source_tokens.proofs.Standings.{goes_on_as}
use Rattle.source_tokens.proofs.plain.plain.Goals as goal
use Rattle.source_tokens.proofs.plain.plain.Goals.{in-Space, in-NewLine, in-LineComment, in-BlockComment, in-Identifier, in-Number, in-Punctuator}

pub returns-clause-goes_on : goal.returns-clause-goes_on
returns-clause-goes_on c =
    elim c.match-opening_of.branch [
      | in-Space w ↦
          let ends = w.past_run.ensures.longest in
          goes_on_as _ _ c.args.first c.args.behind.now _ _ _ _ w.in-Space.ensures (ap (λ found. found.0) w.kind-is) (ap (λ found. found.1.now) w.kind-is) (ends.0, ends.1, refl)
      | in-NewLine w ↦
          let ends = alone c.args.behind.now in
          goes_on_as _ _ c.args.first c.args.behind.now _ _ _ _ w.in-NewLine.ensures (ap (λ found. found.0) w.kind-is) (ap (λ found. found.1.now) w.kind-is) (ends.0, ends.1, refl)
      | in-LineComment w ↦
          let ends = w.past_run-in-LineComment.ensures.longest in
          goes_on_as _ _ c.args.first c.args.behind.now _ _ _ _ w.in-LineComment.ensures (ap (λ found. found.0) w.kind-is) (ap (λ found. found.1.now) w.kind-is) (ends.0, ends.1, refl)
      | in-BlockComment w ↦
          let ends = w.past_comment.ensures.longest in
          goes_on_as _ _ c.args.first c.args.behind.now _ _ _ _ w.in-BlockComment.ensures (ap (λ found. found.0) w.kind-is) (ap (λ found. found.1.now) w.kind-is) (ends.0, ends.1, refl)
      | in-Identifier w ↦
          let ends = w.past_run-in-Identifier.ensures.longest in
          goes_on_as _ _ c.args.first c.args.behind.now _ _ _ _ w.in-Identifier.ensures (ap (λ found. found.0) w.kind-is) (ap (λ found. found.1.now) w.kind-is) (ends.0, ends.1, refl)
      | in-Number w ↦
          let ends = w.past_number.ensures.longest in
          goes_on_as _ _ c.args.first c.args.behind.now _ _ _ _ w.in-Number.ensures (ap (λ found. found.0) w.kind-is) (ap (λ found. found.1.now) w.kind-is) (ends.0, ends.1, refl)
      | in-Punctuator w ↦
          let ends = alone c.args.behind.now in
          goes_on_as _ _ c.args.first c.args.behind.now _ _ _ _ w.in-Punctuator.ensures (ap (λ found. found.0) w.kind-is) (ap (λ found. found.1.now) w.kind-is) (ends.0, ends.1, refl)
    ]
