use Rattle.std.proofs.Common.{◌≡◌, ◌++◌, length, map, sym, ap, ◌∙◌, subst, length-append, [], ◌∷◌, List, ℕ, arith}
use Rattle.printf_grammar.specs.Types.{values_of}
use Rattle.arg_records.specs.Calls.{last_stamp}
use Rattle.arg_records.specs.declared.call.Call.{Call}
use Rattle.arg_records.proofs.lemmas.CallLists.{last_stamp-push}
use Rattle.ring_core.specs.declared.stored_out.StoredAnswer.{StoredAnswer}
use Rattle.ring_core.specs.declared.stored_out.StoredAnswer.TheVariants.{Frame as FrameEntry}
use Rattle.ring_core.specs.Plans.{Plan, plan_of, AreFramesOf, MayFollow, call_of, frame_of}
use Rattle.ring_core.specs.Stored.{stored_frames}
use Rattle.ring_core.specs.StoredInside.{answer_words}
use Rattle.ring_core.proofs.lemmas.Frames.{AreFramesOf-push}
use Rattle.ring_core.proofs.Storing.{frames-push}
use Rattle.ring_core.proofs.stored_out.StoredOut.push.Goals as goal

pub invariant_of-self-2 : goal.invariant_of-self-2
invariant_of-self-2 c =
    let s = c.self.inside in
    let is = c.self.invariant in
    let plan : Plan = plan_of s.dictionary.now s.first in
    let call : Call = call_of c.args.stamp c.args.id (values_of c.args.args.now) in
    let items = c.in_ok-push.ensures.items in
    let old = stored_frames (map answer_words s.answers.items) in
    let words : c.in_ok-frame.frame.items ≡ frame_of call = c.in_ok-frame.ensures.items ∙ c.in-Some.ensures.some.1 in
    let frames : stored_frames (map answer_words c.push.new.self.items) ≡ old ++ frame_of call ∷ [] =
    ap (λ (es : List StoredAnswer). stored_frames (map answer_words es)) items ∙ frames-push s.answers.items (FrameEntry c.in_ok-frame.frame)
    ∙ ap (λ (ws : List ℕ). old ++ ws ∷ []) words in
    let may : MayFollow plan (last_stamp plan.first is.calls) call =
    record { planned = c.in-Some.ensures.some.2; not_before = omega (arith, is.last_is, c.if-stamp-self.false) } in record {
      calls = is.calls ++ call ∷ [];
      lawful = subst (λ (fs : List (List ℕ)). AreFramesOf plan fs (is.calls ++ call ∷ [])) (sym frames) (AreFramesOf-push plan old is.calls call is.lawful may);
      last_is = last_stamp-push s.first is.calls call;
      within = omega (arith, is.within, ap length items, length-append s.answers.items (FrameEntry c.in_ok-frame.frame ∷ []));
      closed_end = is.closed_end;
      whole_end = λ e. absurd (cc (is.closed_end e, c.if-self.false));
    }
