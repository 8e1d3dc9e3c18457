use Rattle.std.proofs.Common.{◌≡◌, ℕ, false, List, [], length, sym, ap, ◌∙◌, subst}
use Rattle.ring_machine.specs.declared.steps.StepKind.TheVariants as steps
use Rattle.ring_machine.specs.Streams.{walk}
use Rattle.ring_machine.specs.RingStates.{RingState, written, sent, RingOk}
use Rattle.ring_machine.specs.Steps.{after_step}
use Rattle.ring_machine.specs.RingInside.{ring_state}
use Rattle.ring_machine.proofs.lemmas.StepLaws.{RingOk-publish}
use Rattle.ring_machine.proofs.lemmas.Schedules.{sent-published}
use Rattle.ring_machine.proofs.ring.Ring.publish.Goals as goal

pub invariant_of-self : goal.invariant_of-self
invariant_of-self c =
    let s : RingState = ring_state c.self.inside in
    let inv = c.self.invariant in
    let not_closed : s.writer.closed ≡ false = subst (λ (r : RingState). r.writer.closed ≡ false) (sym c.self.view_is) c.requires.not_closed in
    let whole : (written s).part ≡ [] = subst (λ (r : RingState). (written r).part ≡ []) (sym c.self.view_is) c.requires.whole in
    let at : c.at-self-inside.result ≡ (written s).at = c.at-self-inside.ensures ∙ ap (λ (n : ℕ). (walk n c.self.inside.stored.words).at) inv.stored in
    let is : record s { published = c.at-self-inside.result; writer = record s.writer { published = c.at-self-inside.result; steps = c.saturating_add-self-inside.result } } ≡ after_step s steps.Publish =
    λ i. record s { published = at i; writer = record s.writer { published = at i; steps = c.saturating_add-self-inside.ensures i } } in
    record {
      ok = subst RingOk (sym is) (RingOk-publish s inv.ok not_closed whole);
      most = inv.most;
      stored = inv.stored;
      read = inv.read;
      sent = c.frames-self-inside.ensures ∙ ap (λ (n : ℕ). length (walk n c.self.inside.stored.words).frames) inv.stored ∙ ap (λ (fs : List (List ℕ)). length fs) (sym (sent-published s inv.ok whole))
          ∙ ap (λ (r : RingState). length (sent r)) (sym is);
    }
