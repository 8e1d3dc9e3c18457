use Rattle.std.proofs.Common.{◌≡◌, true, length, map, sym, ap, ◌∙◌, subst, append-nil, length-append, [], ◌∷◌, List, ℕ, arith}
use Rattle.ring_core.specs.declared.stored_out.StoredAnswer.{StoredAnswer}
use Rattle.ring_core.specs.declared.stored_out.StoredAnswer.TheVariants.{Pause}
use Rattle.ring_core.specs.Plans.{plan_of, AreFramesOf}
use Rattle.ring_core.specs.Stored.{stored_frames}
use Rattle.ring_core.specs.StoredInside.{answer_words}
use Rattle.ring_core.proofs.Storing.{frames-push}
use Rattle.ring_core.proofs.stored_out.StoredOut.pause.Goals as goal

pub invariant_of-self-2 : goal.invariant_of-self-2
invariant_of-self-2 c =
    let s = c.self.inside in
    let is = c.self.invariant in
    let items = c.in_ok-push.ensures.items in
    let frames : stored_frames (map answer_words c.push.new.self.items) ≡ stored_frames (map answer_words s.answers.items) =
    ap (λ (es : List StoredAnswer). stored_frames (map answer_words es)) items ∙ frames-push s.answers.items Pause ∙ append-nil (stored_frames (map answer_words s.answers.items)) in
    let open_end : s.ended ≡ true → ⊥ = λ e. absurd (cc (is.closed_end e, c.if-self.false)) in record {
      calls = is.calls;
      lawful = subst (λ (fs : List (List ℕ)). AreFramesOf (plan_of s.dictionary.now s.first) fs is.calls) (sym frames) is.lawful;
      last_is = is.last_is;
      within = omega (arith, is.within, ap length items, length-append s.answers.items (Pause ∷ []));
      closed_end = is.closed_end;
      whole_end = λ e. absurd (open_end e);
    }
