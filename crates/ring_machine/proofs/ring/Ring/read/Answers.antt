use Rattle.std.proofs.Common.{◌≡◌, ◌≢◌, ℕ, ◌%◌, ◌<◌, [], ◌∷◌, ◌++◌, length, get_or, sym, ap, ◌∙◌, subst, arith}
use Rattle.std.proofs.lemmas.List.{get_or_read}
use Rattle.ring_machine.specs.declared.steps.StepKind.TheVariants as steps
use Rattle.ring_machine.specs.Streams.{MayCome, walk}
use Rattle.ring_machine.specs.Tracks.{Tracked}
use Rattle.ring_machine.specs.RingStates.{RingState, taken, RingOk}
use Rattle.ring_machine.specs.Steps.{after_step, next_word}
use Rattle.ring_machine.specs.RingInside.{ring_state}
use Rattle.ring_machine.proofs.lemmas.Walks.{FitsWithin-may}
use Rattle.ring_machine.proofs.lemmas.StepLaws.{RingOk-read, reads_next}
use Rattle.ring_machine.proofs.ring.Ring.read.Goals as goal

pub push-requires-clause-may : goal.push-requires-clause-may
push-requires-clause-may c =
    let s : RingState = ring_state c.self.inside in
    let inv = c.self.invariant in
    let left : s.roamer.loaded ≢ (taken s).at = subst (λ (r : RingState). r.roamer.loaded ≢ (taken r).at) (sym c.self.view_is) c.requires.left in
    let next = reads_next s inv.ok left in
    let size = inv.ok.size in
    let all = inv.ok.words in
    let at : c.at.result ≡ (taken s).at = c.at.ensures ∙ ap (λ (n : ℕ). (walk n c.self.inside.read.words).at) inv.read in
    let within : c.at.result % s.size < length s.words = omega (arith, size, all) in
    let word : c.index-word.result.now ≡ next.0 = get_or_read s.words (c.at.result % s.size) c.index-word.result.now within c.index-word.ensures 0 ∙ ap (λ (n : ℕ). get_or s.words (n % s.size) 0) at ∙ next.1.is in
    let may : MayCome s.size (taken s) next.0 = FitsWithin-may s.size s.roamer.loaded (taken s) next.0 next.1.fits in
    subst (λ (n : ℕ). MayCome n (walk n c.self.inside.read.words) c.index-word.result.now) (sym inv.read) (subst (MayCome s.size (taken s)) (sym word) may)

pub invariant_of-self-2 : goal.invariant_of-self-2
invariant_of-self-2 c =
    let s : RingState = ring_state c.self.inside in
    let inv = c.self.invariant in
    let left : s.roamer.loaded ≢ (taken s).at = subst (λ (r : RingState). r.roamer.loaded ≢ (taken r).at) (sym c.self.view_is) c.requires.left in
    let size = inv.ok.size in
    let all = inv.ok.words in
    let at : c.at.result ≡ (taken s).at = c.at.ensures ∙ ap (λ (n : ℕ). (walk n c.self.inside.read.words).at) inv.read in
    let within : c.at.result % s.size < length s.words = omega (arith, size, all) in
    let word : c.index-word.result.now ≡ next_word s = get_or_read s.words (c.at.result % s.size) c.index-word.result.now within c.index-word.ensures 0 ∙ ap (λ (n : ℕ). get_or s.words (n % s.size) 0) at in
    let pushed = c.in_ok-push.ensures.ok in
    let words : c.push.new.self.words ≡ s.roamer.stream ++ next_word s ∷ [] = ap (λ (t : Tracked). t.words) pushed ∙ ap (λ (n : ℕ). s.roamer.stream ++ n ∷ []) word in
    let is : record s { roamer = record s.roamer { stream = c.push.new.self.words; steps = c.saturating_add-self-inside.result } } ≡ after_step s steps.Read =
    λ i. record s { roamer = record s.roamer { stream = words i; steps = c.saturating_add-self-inside.ensures i } } in
    record {
      ok = subst RingOk (sym is) (RingOk-read s inv.ok left);
      most = inv.most;
      stored = inv.stored;
      read = ap (λ (t : Tracked). t.size) pushed ∙ inv.read;
      sent = inv.sent;
    }
