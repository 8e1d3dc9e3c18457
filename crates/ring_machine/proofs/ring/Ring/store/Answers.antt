use Rattle.std.proofs.Common.{◌≡◌, ℕ, ◌+◌, ◌%◌, false, List, [], ◌∷◌, ◌++◌, length, set, sym, ap, ◌∙◌, subst}
use Rattle.ring_machine.specs.Streams.{FitsWithin, walk}
use Rattle.ring_machine.specs.Tracks.{Tracked}
use Rattle.ring_machine.specs.RingStates.{RingState, written, sent, RingOk}
use Rattle.ring_machine.specs.Steps.{stored}
use Rattle.ring_machine.specs.RingInside.{ring_state}
use Rattle.ring_machine.proofs.lemmas.StepLaws.{RingOk-stored}
use Rattle.ring_machine.proofs.lemmas.Schedules.{sent-stored}
use Rattle.ring_machine.proofs.ring.Ring.store.Goals as goal

pub invariant_of-self-2 : goal.invariant_of-self-2
invariant_of-self-2 c =
    let s : RingState = ring_state c.self.inside in
    let inv = c.self.invariant in
    let word : ℕ = c.args.word in
    let not_closed : s.writer.closed ≡ false = subst (λ (r : RingState). r.writer.closed ≡ false) (sym c.self.view_is) c.requires.not_closed in
    let fits : FitsWithin s.size (s.writer.seen + s.size) (written s) word =
    subst (λ (r : RingState). FitsWithin r.size (r.writer.seen + r.size) (written r) word) (sym c.self.view_is) c.requires.fits in
    let at : c.at.result ≡ (written s).at = c.at.ensures ∙ ap (λ (n : ℕ). (walk n c.self.inside.stored.words).at) inv.stored in
    let pushed = c.in_ok-push.ensures.ok in
    let words : c.push.new.self.words ≡ s.writer.stream ++ word ∷ [] = ap (λ (t : Tracked). t.words) pushed in
    let is : record s {
      words = set s.words (c.at.result % s.size) word;
      writer = record s.writer { stream = c.push.new.self.words; steps = c.saturating_add-self-inside.result };
    } ≡ stored s word =
    λ i. record s { words = set s.words (at i % s.size) word; writer = record s.writer { stream = words i; steps = c.saturating_add-self-inside.ensures i } } in
    record {
      ok = subst RingOk (sym is) (RingOk-stored s word inv.ok not_closed fits);
      most = inv.most;
      stored = ap (λ (t : Tracked). t.size) pushed ∙ inv.stored;
      read = inv.read;
      sent = inv.sent ∙ ap (λ (fs : List (List ℕ)). length fs) (sym (sent-stored s word inv.ok)) ∙ ap (λ (r : RingState). length (sent r)) (sym is);
    }
