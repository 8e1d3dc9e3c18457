-- A frame more is taken.
use Rattle.std.proofs.Common.{◌≡◌, ℕ, zero, suc, ◌+◌, ◌≤◌, List, [], ◌∷◌, ◌++◌, Some, refl, sym, ap, subst, ◌∙◌, append_assoc, arith}
use Rattle.std.specs.Prelude.{slice_get}
use Rattle.std.proofs.lemmas.List.{append-nil, map-append, length-append}
use Rattle.std.proofs.lemmas.List.Elements.{All-push, All-from_recursion, recursion_from_All}
use Rattle.std.proofs.lemmas.Option.{same_Some}
use Rattle.printf_grammar.specs.declared.arg_type.ArgType.{ArgType}
use Rattle.printf_grammar.specs.Types.{Types}
use Rattle.log_dictionary.specs.declared.message.Message.{Message}
use Rattle.arg_records.specs.declared.call.Call.{Call}
use Rattle.arg_records.specs.Calls.{IsCall, NeverFalls, last_stamp}
use Rattle.ring_core.specs.Plans.{types_by_id, plan_of, frame_of, frames_of, AreFramesOf, Lawful, MayFollow}
use Rattle.ring_core.proofs.lemmas.Frames.{AreFramesOf-push, Lawful-front, Lawful-last}
use Rattle.ring_core.proofs.lemmas.OneReading.{AreFramesOf-unique}
use Rattle.ring_core.proofs.lemmas.DictionaryCalls.{IsCall-from_IsPlanned}
use Rattle.roaming_consumer.specs.declared.draft.Draft.{Draft}
use Rattle.roaming_consumer.specs.Drafts.{IsFrameOfCall, IsDraft}
use Rattle.roaming_consumer.specs.Gathering.{CallsCame, DraftsFrames, FramesCame}

-- ---- calls

-- a message whose types are known by its id
message_of_types : (messages : List Message) (id : ℕ) (types : List ArgType) → slice_get (types_by_id messages) id ≡ Some types → (message : Message) × (slice_get messages id ≡ Some message) × (Types message.format.pieces ≡ types)
message_of_types [] id types known = absurd cc
message_of_types (message ∷ messages) zero types known = (message, refl, same_Some (Types message.format.pieces) types known)
message_of_types (message ∷ messages) (suc id) types known = message_of_types messages id types known

-- ---- stamps

last_rises : (least more : ℕ) (calls : List Call) → least ≤ more → last_stamp least calls ≤ last_stamp more calls
last_rises least more [] below = below
last_rises least more (call ∷ calls) below = omega arith

-- the last of calls isn't before that of the calls behind some of them, counted from the first stamp
last_behind : (least : ℕ) (front back : List Call) → NeverFalls least (front ++ back) → last_stamp least back ≤ last_stamp least (front ++ back)
last_behind least [] back rising = omega arith
last_behind least (call ∷ front) back rising = omega (arith, last_rises least call.stamp back rising.0, last_behind call.stamp front back rising.1)

-- ---- frames

-- the next frame is that of a call which goes on with those that were taken
record Next (messages : List Message) (tick : ℕ) (before after : List (List ℕ)) (records : List Call) (last : ℕ)
    (frame : List ℕ) : Type 0 where
  call : Call
  is : IsFrameOfCall messages last frame call
  comes : CallsCame (plan_of messages tick) before (after ++ frame ∷ []) (records ++ call ∷ [])

next_call : (messages : List Message) (tick : ℕ) (before after : List (List ℕ)) (records : List Call) (last : ℕ) (frame : List ℕ) → CallsCame (plan_of messages tick) before after records → last ≡ last_stamp tick records → Lawful (plan_of messages tick) (after ++ frame ∷ []) → Next messages tick before after records last frame
next_call messages tick before after records last frame comes last_is lawful =
    let plan = plan_of messages tick in
    let ends = Lawful-last plan after frame lawful in
    let calls = ends.0 in
    let call = ends.1 in
    let are = ends.2 in
    let may = ends.4 in
    let all = Lawful-front plan after (frame ∷ []) lawful in
    let first = Lawful-front plan before (frames_of records) (subst (Lawful plan) comes.joined all) in
    let whole : calls ≡ first.0 ++ records = AreFramesOf-unique plan after calls (first.0 ++ records) are (comes.lawful first.0 first.1) in
    let rising : NeverFalls tick (first.0 ++ records) = (comes.lawful first.0 first.1).rising in
    let not_before : last ≤ call.stamp = omega (arith, last_is, last_behind tick first.0 records rising, ap (last_stamp tick) whole, may.not_before) in
    record {
      call = call;
      is = record { named = IsCall-from_IsPlanned messages call may.planned; bytes = may.planned.bytes; staged = may.planned.staged; not_before = not_before; is = ends.3 };
      comes = record {
        joined =
            ap (λ (l : List (List ℕ)). l ++ frame ∷ []) comes.joined ∙ append_assoc before (frames_of records) (frame ∷ [])
            ∙ ap (λ (f : List ℕ). before ++ (frames_of records ++ f ∷ [])) ends.3
            ∙ ap (λ (l : List (List ℕ)). before ++ l) (sym (map-append frame_of records (call ∷ [])));
        lawful = λ some are_some.
            let same : calls ≡ some ++ records = AreFramesOf-unique plan after calls (some ++ records) are (comes.lawful some are_some) in
            let more = AreFramesOf-push plan after (some ++ records) call (comes.lawful some are_some) (subst (λ (cs : List Call). MayFollow plan (last_stamp tick cs) call) same may) in
            subst (AreFramesOf plan (after ++ frame ∷ [])) (append_assoc some records (call ∷ []))
            (subst (λ (f : List ℕ). AreFramesOf plan (after ++ f ∷ []) (some ++ records ++ call ∷ [])) (sym ends.3) more);
      };
    }

-- the frame that was taken is that of a call
pub taken_call : (messages : List Message) (tick : ℕ) (before after : List (List ℕ)) (draft : Draft) (body : List ℕ) (frame : List ℕ) → DraftsFrames messages tick before after draft body → Lawful (plan_of messages tick) (after ++ frame ∷ []) → (call : Call) × IsFrameOfCall messages draft.last frame call
taken_call messages tick before after draft body frame was lawful =
    let next = next_call messages tick before after was.records draft.last frame was.comes was.drafted.last lawful in
    (next.call, next.is)

-- behind it the draft has its record too
pub gathers_more : (messages : List Message) (tick : ℕ) (before after : List (List ℕ)) (draft now : Draft) (body body_now : List ℕ) (frame : List ℕ) → DraftsFrames messages tick before after draft body → Lawful (plan_of messages tick) (after ++ frame ∷ [])
    → ((call : Call) (from : ℕ) (records : List Call) → IsFrameOfCall messages draft.last frame call → IsDraft messages from records draft body → IsDraft messages from (records ++ call ∷ []) now body_now)
    → DraftsFrames messages tick before (after ++ frame ∷ []) now body_now
gathers_more messages tick before after draft now body body_now frame was lawful puts =
    let next = next_call messages tick before after was.records draft.last frame was.comes was.drafted.last lawful in
    record {
      records = was.records ++ next.call ∷ [];
      comes = next.comes;
      right = recursion_from_All (IsCall messages) (was.records ++ next.call ∷ []) (All-push (IsCall messages) was.records next.call (All-from_recursion (IsCall messages) was.records was.right) next.is.named);
      drafted = puts next.call tick was.records next.is was.drafted;
    }

-- ---- frames that are thrown away

pub came_none : (before : List (List ℕ)) → FramesCame before before 0
came_none before = ([], sym (append-nil before), refl)

pub came_more : (before mid after : List (List ℕ)) (frame : List ℕ) (count : ℕ) → FramesCame before mid count → after ≡ mid ++ frame ∷ [] → FramesCame before after (count + 1)
came_more before mid after frame count (frames, is, many) more = (
  frames ++ frame ∷ [],
  more ∙ ap (λ (l : List (List ℕ)). l ++ frame ∷ []) is ∙ append_assoc before frames (frame ∷ []),
  omega (arith, many, length-append frames (frame ∷ [])),
)
