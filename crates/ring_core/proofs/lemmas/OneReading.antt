-- Frames are those of one list of calls, and words are those of one list of frames.
use Rattle.std.proofs.Common.{◌≡◌, ℕ, ◌+◌, ◌*◌, ◌%◌, ◌<◌, ◌≤◌, List, [], ◌∷◌, ◌++◌, length, take, drop, get_or, refl, sym, ap, ◌∙◌, subst, append_assoc, arith}
use Rattle.std.specs.Prelude.{All}
use Rattle.std.specs.List.{concat}
use Rattle.std.proofs.lemmas.List.Elements.{All-head, All-tail}
use Rattle.std.proofs.lemmas.Option.{slice_get_within}
use Rattle.std.proofs.Math.Seq.{take-append_seam, drop-append_seam}
use Rattle.printf_grammar.specs.declared.arg_type.ArgType.{ArgType}
use Rattle.printf_grammar.specs.declared.argument.Value.{Value}
use Rattle.printf_grammar.specs.Types.{Fits}
use Rattle.arg_records.specs.declared.call.Call.{Call}
use Rattle.arg_records.specs.Calls.{last_stamp}
use Rattle.arg_records.specs.Frames.{Frame, FrameLen, IsFrame}
use Rattle.arg_records.proofs.lemmas.Fitted.{Frame-unique-Fits}
use Rattle.arg_records.proofs.lemmas.Lengths.{length-Frame}
use Rattle.arg_records.proofs.lemmas.CallLists.{last_stamp-push}
use Rattle.ring_core.specs.Plans.{Plan, IsPlanned, frame_of, frames_of, AreFramesOf, Lawful, MayFollow, BeginsWith}
use Rattle.ring_core.proofs.lemmas.Frames.{AreFramesOf-push, Lawful-last}

-- planned calls with one frame are the same
call_same : (known_types : List (List ArgType)) (c d : Call) → IsPlanned known_types c → IsPlanned known_types d → frame_of c ≡ frame_of d → c ≡ d
call_same known_types c d p q e =
    let head : c.id * 65536 + FrameLen c.args ≡ d.id * 65536 + FrameLen d.args = cc e in
    let id : c.id ≡ d.id = omega (arith, head, p.staged.within, q.staged.within) in
    let types : p.types ≡ q.types = cc (id, p.known, q.known) in
    let fits : Fits c.args q.types = subst (Fits c.args) types p.fits in
    let same = Frame-unique-Fits q.types c.id d.id c.stamp d.stamp c.args d.args fits q.fits p.bytes q.bytes e in
    λ i. record { stamp = same.1 i; id = same.0 i; args = same.2 i }

calls_same : (known_types : List (List ArgType)) (cs ds : List Call) → All (IsPlanned known_types) cs → All (IsPlanned known_types) ds → frames_of cs ≡ frames_of ds → cs ≡ ds
calls_same known_types [] [] p q e = refl
calls_same known_types [] (d ∷ ds) p q e = absurd cc
calls_same known_types (c ∷ cs) [] p q e = absurd cc
calls_same known_types (c ∷ cs) (d ∷ ds) p q e =
    let P : Call → Type 0 = IsPlanned known_types in
    let first : frame_of c ≡ frame_of d = cc e in
    let others : frames_of cs ≡ frames_of ds = cc e in
    let call : c ≡ d = call_same known_types c d (All-head P c cs p) (All-head P d ds q) first in
    let calls : cs ≡ ds = calls_same known_types cs ds (All-tail P c cs p) (All-tail P d ds q) others in
    λ i. call i ∷ calls i

-- lawful frames are those of one list of calls
pub AreFramesOf-unique : (plan : Plan) (frames : List (List ℕ)) (cs ds : List Call) → AreFramesOf plan frames cs → AreFramesOf plan frames ds → cs ≡ ds
AreFramesOf-unique plan frames cs ds p q = calls_same plan.types cs ds p.planned q.planned (sym p.frames_are ∙ q.frames_are)

-- ---- frames that are not lawful

-- an id that the plan hasn't
pub unknown_id : (plan : Plan) (frames : List (List ℕ)) (id stamp : ℕ) (args : List Value) → FrameLen args ≤ 512 → length plan.types ≤ id → ¬ (Lawful plan (frames ++ Frame id stamp args ∷ []))
unknown_id plan frames id stamp args short unknown h =
    let last = Lawful-last plan frames (Frame id stamp args) h in
    let call : Call = last.1 in
    let head : id * 65536 + FrameLen args ≡ call.id * 65536 + FrameLen call.args = cc last.3 in
    let same : id ≡ call.id = omega (arith, head, short, last.4.planned.staged.within) in
    let known : call.id < length plan.types = slice_get_within plan.types call.id last.4.planned.types last.4.planned.known in
    omega (arith, same, known, unknown)

-- the last of the calls is that of the last frame
last_is_last : (plan : Plan) (frames : List (List ℕ)) (frame : List ℕ) (calls before : List Call) (call : Call) → AreFramesOf plan (frames ++ frame ∷ []) calls
    → AreFramesOf plan frames before → frame ≡ frame_of call → MayFollow plan (last_stamp plan.first before) call → last_stamp plan.first calls ≡ call.stamp
last_is_last plan frames frame calls before call all front is may =
    let grown : AreFramesOf plan (frames ++ frame ∷ []) (before ++ call ∷ []) = subst (λ (f : List ℕ). AreFramesOf plan (frames ++ f ∷ []) (before ++ call ∷ [])) (sym is) (AreFramesOf-push plan frames before call front may) in
    ap (last_stamp plan.first) (AreFramesOf-unique plan (frames ++ frame ∷ []) calls (before ++ call ∷ []) all grown) ∙ last_stamp-push plan.first before call

no_calls : (calls : List Call) → [] ≡ frames_of calls → calls ≡ []
no_calls [] e = refl
no_calls (call ∷ calls) e = absurd cc

-- a stamp below the one before
pub stamp_falls : (plan : Plan) (frames : List (List ℕ)) (i s j t : ℕ) (a b : List Value) → t < s → ¬ (Lawful plan ((frames ++ Frame i s a ∷ []) ++ Frame j t b ∷ []))
stamp_falls plan frames i s j t a b falls h =
    let later = Lawful-last plan (frames ++ Frame i s a ∷ []) (Frame j t b) h in
    let earlier = Lawful-last plan frames (Frame i s a) (later.0, later.2) in
    let last_is : last_stamp plan.first later.0 ≡ earlier.1.stamp = last_is_last plan frames (Frame i s a) later.0 earlier.0 earlier.1 later.2 earlier.2 earlier.3 earlier.4 in
    let first : s ≡ earlier.1.stamp = cc earlier.3 in
    let second : t ≡ later.1.stamp = cc later.3 in
    omega (arith, falls, first, second, last_is, later.4.not_before)

-- a stamp below the first
pub stamp_early : (plan : Plan) (id stamp : ℕ) (args : List Value) → stamp < plan.first → ¬ (Lawful plan (Frame id stamp args ∷ []))
stamp_early plan id stamp args early h =
    let last = Lawful-last plan [] (Frame id stamp args) h in
    let none : last.0 ≡ [] = no_calls last.0 last.2.frames_are in
    let first : last_stamp plan.first last.0 ≡ plan.first = ap (last_stamp plan.first) none in
    let same : stamp ≡ last.1.stamp = cc last.3 in
    omega (arith, early, first, same, last.4.not_before)

-- ---- frames that are joined

-- the first word of a frame tells how many words it has
first_word : (frame more : List ℕ) → IsFrame frame → (get_or (frame ++ more) 0 0 % 65536 ≡ length frame) × (2 ≤ length frame)
first_word frame more is =
    let whole : frame ++ more ≡ Frame is.0 is.1 is.2 ++ more = ap (λ (ws : List ℕ). ws ++ more) is.4 in
    let word : get_or (frame ++ more) 0 0 ≡ is.0 * 65536 + FrameLen is.2 = ap (λ (ws : List ℕ). get_or ws 0 0) whole in
    let long : length frame ≡ FrameLen is.2 = ap (λ (ws : List ℕ). length ws) is.4 ∙ length-Frame is.0 is.1 is.2 in
    (omega (arith, word, long, is.3.within), omega (arith, long))

-- the first frames of two lists are the same where the words are
first_same : (f g : List ℕ) (xs ys : List ℕ) → IsFrame f → IsFrame g → f ++ xs ≡ g ++ ys → (f ≡ g) × (xs ≡ ys)
first_same f g xs ys left right e =
    let a = first_word f xs left in
    let b = first_word g ys right in
    let long : length f ≡ length g = omega (arith, a.0, b.0, ap (λ (ws : List ℕ). get_or ws 0 0) e) in (
      sym (take-append_seam f xs) ∙ ap (take (length f)) e ∙ ap (λ (n : ℕ). take n (g ++ ys)) long ∙ take-append_seam g ys,
      sym (drop-append_seam f xs) ∙ ap (drop (length f)) e ∙ ap (λ (n : ℕ). drop n (g ++ ys)) long ∙ drop-append_seam g ys,
    )

-- Words that are frames and some more begin with other frames only where the frames begin with these. What is more is
-- nothing, or begins with 0, as no frame does.
pub joined-front : (front frames : List (List ℕ)) (rest more : List ℕ) → All IsFrame front → All IsFrame frames → get_or more 0 0 ≡ 0
    → concat front ++ rest ≡ concat frames ++ more → BeginsWith frames front
joined-front [] frames rest more left right zero_first e = (frames, refl)
joined-front (f ∷ front) [] rest more left right zero_first e =
    let whole : f ++ (concat front ++ rest) ≡ more = sym (append_assoc f (concat front) rest) ∙ e in
    let first = first_word f (concat front ++ rest) (All-head IsFrame f front left) in
    absurd omega (arith, first.0, first.1, ap (λ (ws : List ℕ). get_or ws 0 0) whole, zero_first)
joined-front (f ∷ front) (g ∷ frames) rest more left right zero_first e =
    let whole : f ++ (concat front ++ rest) ≡ g ++ (concat frames ++ more) = sym (append_assoc f (concat front) rest) ∙ e ∙ append_assoc g (concat frames) more in
    let same = first_same f g (concat front ++ rest) (concat frames ++ more) (All-head IsFrame f front left) (All-head IsFrame g frames right) whole in
    let others = joined-front front frames rest more (All-tail IsFrame f front left) (All-tail IsFrame g frames right) zero_first same.1 in
    (others.0, ap (λ (fs : List (List ℕ)). g ∷ fs) others.1 ∙ ap (λ (h : List ℕ). h ∷ (front ++ others.0)) (sym same.0))
