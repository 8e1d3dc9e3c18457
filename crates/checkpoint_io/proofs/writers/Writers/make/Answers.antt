use Rattle.std.proofs.Common.{◌≡◌, ◌<◌, List, false, length, replicate, ap, ◌∙◌, inl, inr, arith}
use Rattle.std.proofs.lemmas.Bool.{cases_lt}
use Rattle.std.proofs.lemmas.List.{get_or-replicate, get_or-map}
use Rattle.checkpoint_io.specs.declared.writers.WriterState.{WriterState}
use Rattle.checkpoint_io.specs.Writers.{last_kept, closed_kept}
use Rattle.checkpoint_io.proofs.WriterLaws.{far_kept}
use Rattle.checkpoint_io.proofs.writers.Writers.make.Goals as goal

pub returns-clause-lasts : goal.returns-clause-lasts
returns-clause-lasts c writer known =
    let state : WriterState = record { last = c.args.stamp; closed = false } in
    let items : c.in_ok-states.states.items ≡ replicate c.args.count state = c.in_ok-states.ensures.items_if_clones_equal (λ y same. same) in
    let within : writer < length (replicate c.args.count state) = omega (arith, known, ap length items, c.in_ok-states.ensures.len) in
    ap (λ (l : List WriterState). last_kept l writer) items ∙ get_or-map (λ (s : WriterState). s.last) (replicate c.args.count state) writer state 0 within
    ∙ ap (λ (s : WriterState). s.last) (get_or-replicate c.args.count writer state state known)

pub returns-clause-closed : goal.returns-clause-closed
returns-clause-closed c writer =
    let state : WriterState = record { last = c.args.stamp; closed = false } in
    let items : c.in_ok-states.states.items ≡ replicate c.args.count state = c.in_ok-states.ensures.items_if_clones_equal (λ y same. same) in
    let many : length (replicate c.args.count state) ≡ c.args.count = omega (arith, ap length items, c.in_ok-states.ensures.len) in
    elim (cases_lt writer c.args.count) [
      | inl known ↦
          ap (λ (l : List WriterState). closed_kept l writer) items ∙ get_or-map (λ (s : WriterState). s.closed) (replicate c.args.count state) writer state false (omega (arith, known, many))
          ∙ ap (λ (s : WriterState). s.closed) (get_or-replicate c.args.count writer state state known)
      | inr far ↦ ap (λ (l : List WriterState). closed_kept l writer) items ∙ far_kept (replicate c.args.count state) writer (omega (arith, far, many))
    ]
