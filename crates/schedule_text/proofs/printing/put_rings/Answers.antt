use Rattle.nl_io.proofs.lemmas.Outcomes.{at_err}
use Rattle.std.proofs.Common.{ℕ, ◌<◌, ◌≤◌, ◌∙◌, subst, refl, arith}
use Rattle.schedule_text.proofs.Texts.{none_carried, ring_carried, ring_cut, all_carried}
use Rattle.schedule_text.proofs.printing.put_rings.Goals as goal

pub loop-ring-init : goal.loop-ring-init
loop-ring-init g c = record {
  within = omega arith;
  carried = none_carried _ _ _;
  counted = refl;
  others = g.met.O.Sink.rest_same _;
}

pub loop-ring-preserved : goal.loop-ring-preserved
loop-ring-preserved g c =
    let was = c.loop-ring.invariant in
    record {
      within = omega (arith, c.len.ensures, c.loop-ring-test.true);
      carried = ring_carried _ _ _ _ _ _ was.carried _ (subst (λ (n : ℕ). c.loop-ring.ring < n) c.len.ensures c.loop-ring-test.true) c.view.ensures.view _ _ c.in_ok-put_ring.ensures.ok;
      counted = c.in_ok-put_ring.ensures.counted ∙ was.counted;
      others = g.met.O.Sink.rest_then _ _ _ was.others c.put_ring.ensures.others;
    }

pub returns-in_err-put_ring-clause-cut_off : goal.returns-in_err-put_ring-clause-cut_off
returns-in_err-put_ring-clause-cut_off g c =
    let was = c.loop-ring.invariant in
    at_err c.from_residual.result (ring_cut _ _ _ _ _ _ was.carried _ (subst (λ (n : ℕ). c.loop-ring.ring < n) c.len.ensures c.loop-ring-test.true) c.view.ensures.view _ _ _ _ was.counted c.in_err-put_ring.ensures.cut_off)

pub returns-in_err-put_ring-clause-others : goal.returns-in_err-put_ring-clause-others
returns-in_err-put_ring-clause-others g c = g.met.O.Sink.rest_then _ _ _ c.loop-ring.invariant.others c.put_ring.ensures.others

pub returns-clause-ok : goal.returns-clause-ok
returns-clause-ok g c = all_carried _ _ _ _ _ _ (subst (λ (n : ℕ). n ≤ c.loop-ring.ring) c.len.ensures c.loop-ring-test.false) c.loop-ring.invariant.carried
