-- Lists of lawful frames that grow by one frame, and fronts of such lists.
use Rattle.std.proofs.Common.{◌≡◌, ℕ, zero, suc, ◌≤◌, List, [], ◌∷◌, ◌++◌, length, take, drop, refl, sym, ap, ◌∙◌, subst, arith}
use Rattle.std.specs.Prelude.{All}
use Rattle.std.proofs.lemmas.List.{map-append, take-map, drop-map, take-append-drop}
use Rattle.std.proofs.lemmas.List.Elements.{All-nil, All-push, All-take, All-map, All-weaker, All-contains, Contains-push}
use Rattle.std.proofs.Math.Seq.{take-append_seam, drop-append_seam}
use Rattle.arg_records.specs.declared.call.Call.{Call}
use Rattle.arg_records.specs.Calls.{NeverFalls, last_stamp}
use Rattle.arg_records.specs.Frames.{FrameLen, IsFrame}
use Rattle.arg_records.specs.declared.frame.TheConstants.{MAX_FRAME_WORDS}
use Rattle.arg_records.proofs.lemmas.Lengths.{length-Frame}
use Rattle.arg_records.proofs.lemmas.CallLists.{NeverFalls-push}
use Rattle.ring_core.specs.Plans.{Plan, IsPlanned, frame_of, frames_of, AreFramesOf, Lawful, MayFollow}

-- the first of calls whose stamps never fall
pub NeverFalls-take : (n least : ℕ) (calls : List Call) → NeverFalls least calls → NeverFalls least (take n calls)
NeverFalls-take zero least calls h = tt
NeverFalls-take (suc n) least [] h = tt
NeverFalls-take (suc n) least (call ∷ calls) h = (h.0, NeverFalls-take n call.stamp calls h.1)

-- no frames at all
pub AreFramesOf-nil : (plan : Plan) → AreFramesOf plan [] []
AreFramesOf-nil plan = record { frames_are = refl; planned = All-nil (IsPlanned plan.types); rising = tt }

-- one frame more, of a call that may follow
pub AreFramesOf-push : (plan : Plan) (frames : List (List ℕ)) (calls : List Call) (call : Call) → AreFramesOf plan frames calls → MayFollow plan (last_stamp plan.first calls) call
    → AreFramesOf plan (frames ++ frame_of call ∷ []) (calls ++ call ∷ [])
AreFramesOf-push plan frames calls call h may = record {
  frames_are = ap (λ (fs : List (List ℕ)). fs ++ frame_of call ∷ []) h.frames_are ∙ sym (map-append frame_of calls (call ∷ []));
  planned = All-push (IsPlanned plan.types) calls call h.planned may.planned;
  rising = NeverFalls-push plan.first calls call h.rising may.not_before;
}

-- calls whose frames go on behind these ones: the first of the calls, and the others
split_at : (frames others : List (List ℕ)) (calls : List Call) → frames ++ others ≡ frames_of calls → (frames ≡ frames_of (take (length frames) calls)) × (others ≡ frames_of (drop (length frames) calls))
split_at frames others calls e = (
  sym (take-append_seam frames others) ∙ ap (take (length frames)) e ∙ take-map frame_of (length frames) calls,
  sym (drop-append_seam frames others) ∙ ap (drop (length frames)) e ∙ drop-map frame_of (length frames) calls,
)

-- the first of lawful frames are lawful
pub Lawful-front : (plan : Plan) (frames others : List (List ℕ)) → Lawful plan (frames ++ others) → Lawful plan frames
Lawful-front plan frames others h = (
  take (length frames) h.0,
  record {
    frames_are = (split_at frames others h.0 h.1.frames_are).0;
    planned = All-take (IsPlanned plan.types) (length frames) h.0 h.1.planned;
    rising = NeverFalls-take (length frames) plan.first h.0 h.1.rising;
  },
)

one_call : (calls : List Call) (frame : List ℕ) → frame ∷ [] ≡ frames_of calls → (call : Call) × (calls ≡ call ∷ []) × (frame ≡ frame_of call)
one_call [] frame e = absurd cc
one_call (call ∷ []) frame e = (call, refl, cc)
one_call (call ∷ other ∷ calls) frame e = absurd cc

NeverFalls-last : (least : ℕ) (calls : List Call) (call : Call) → NeverFalls least (calls ++ call ∷ []) → last_stamp least calls ≤ call.stamp
NeverFalls-last least [] call h = h.0
NeverFalls-last least (first ∷ calls) call h = NeverFalls-last first.stamp calls call h.1

All-last : (P : Call → Type 0) (calls : List Call) (call : Call) → All P (calls ++ call ∷ []) → P call
All-last P calls call h = All-contains P (calls ++ call ∷ []) call h (Contains-push calls call)

-- the last of lawful frames is that of a call that may follow the calls of the others
pub Lawful-last : (plan : Plan) (frames : List (List ℕ)) (frame : List ℕ) → Lawful plan (frames ++ frame ∷ [])
    → (calls : List Call) × (call : Call) × AreFramesOf plan frames calls × (frame ≡ frame_of call) × MayFollow plan (last_stamp plan.first calls) call
Lawful-last plan frames frame h =
    let parts = split_at frames (frame ∷ []) h.0 h.1.frames_are in
    let one = one_call (drop (length frames) h.0) frame parts.1 in
    let before : List Call = take (length frames) h.0 in
    let whole : before ++ one.0 ∷ [] ≡ h.0 = ap (λ (rest : List Call). before ++ rest) (sym one.1) ∙ take-append-drop (length frames) h.0 in
    let planned = subst (All (IsPlanned plan.types)) (sym whole) h.1.planned in
    let rising = subst (NeverFalls plan.first) (sym whole) h.1.rising in (
      before,
      one.0,
      record {
        frames_are = parts.0;
        planned = All-take (IsPlanned plan.types) (length frames) h.0 h.1.planned;
        rising = NeverFalls-take (length frames) plan.first h.0 h.1.rising;
      },
      one.2,
      record { planned = All-last (IsPlanned plan.types) before one.0 planned; not_before = NeverFalls-last plan.first before one.0 rising },
    )

-- each of lawful frames is a frame
pub Lawful-frames : (plan : Plan) (frames : List (List ℕ)) → Lawful plan frames → All IsFrame frames
Lawful-frames plan frames h =
    subst (All IsFrame) (sym h.1.frames_are)
    (All-map IsFrame frame_of h.0 (All-weaker (IsPlanned plan.types) (λ call. IsFrame (frame_of call)) (λ call p. (call.id, call.stamp, call.args, p.staged, refl)) h.0 h.1.planned))

-- so it has 2 to 512 words
IsFrame-length : (words : List ℕ) → IsFrame words → (2 ≤ length words) × (length words ≤ MAX_FRAME_WORDS)
IsFrame-length words h =
    let long : length words ≡ FrameLen h.2 = ap (λ (ws : List ℕ). length ws) h.4 ∙ length-Frame h.0 h.1 h.2 in
    (omega (arith, long), omega (arith, long, h.3.within))

pub Lawful-lengths : (plan : Plan) (frames : List (List ℕ)) → Lawful plan frames → All (λ frame. (2 ≤ length frame) × (length frame ≤ MAX_FRAME_WORDS)) frames
Lawful-lengths plan frames h = All-weaker IsFrame (λ frame. (2 ≤ length frame) × (length frame ≤ MAX_FRAME_WORDS)) IsFrame-length frames (Lawful-frames plan frames h)
