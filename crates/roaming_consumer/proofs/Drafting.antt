-- A draft goes on with the record of a frame.
use Rattle.std.proofs.Common.{◌≡◌, ℕ, ◌+◌, ◌≤◌, List, [], ◌∷◌, ◌++◌, length, take, drop, Some, refl, sym, ap, subst, ◌∙◌, append_assoc, arith}
use Rattle.std.specs.Prelude.{slice_get, max}
use Rattle.std.proofs.lemmas.List.{append-nil, take_at, length-append, length-take-le}
use Rattle.std.proofs.lemmas.Option.{same_Some}
use Rattle.printf_grammar.specs.declared.arg_type.ArgType.{ArgType}
use Rattle.printf_grammar.specs.Types.{Types, Fits}
use Rattle.log_dictionary.specs.declared.message.Message.{Message}
use Rattle.arg_records.specs.declared.call.Call.{Call}
use Rattle.arg_records.specs.Calls.{last_stamp}
use Rattle.arg_records.proofs.lemmas.CallLists.{NeverFalls-push, last_stamp-push}
use Rattle.buffer_extent.specs.Records.{RecordBytes}
use Rattle.buffer_extent.specs.Bodies.{SpellsRecord, SpellsRecords}
use Rattle.roaming_consumer.specs.declared.draft.Draft.{Draft}
use Rattle.roaming_consumer.specs.Drafts.{IsFrameOfCall, IsDraft}
use Rattle.roaming_consumer.proofs.Used.{ids_used-push}

-- one record more
pub records-push : (messages : List Message) (before : ℕ) (records : List Call) (call : Call) (bytes packed : List ℕ) → SpellsRecords messages before records bytes → SpellsRecord messages (last_stamp before records) call packed → SpellsRecords messages before (records ++ call ∷ []) (bytes ++ packed)
records-push messages before [] call bytes packed spelled is = (packed, [], ap (λ (b : List ℕ). b ++ packed) spelled ∙ sym (append-nil packed), is, refl)
records-push messages before (another ∷ records) call bytes packed (front, back, joined, first, others) is =
    (front, back ++ packed, ap (λ (b : List ℕ). b ++ packed) joined ∙ append_assoc front back packed, first, records-push messages another.stamp records call back packed others is)

-- the message that a frame names is the one that its id finds
pub same_message_of : (messages : List Message) (id : ℕ) (call : Call) (known found : Message) → id ≡ call.id → slice_get messages call.id ≡ Some known → slice_get messages id ≡ Some found → known ≡ found
same_message_of messages id call known found same is finds = same_Some known found (sym is ∙ ap (slice_get messages) (sym same) ∙ finds)

-- bytes that stand behind others, and nothing behind them is looked at
pub front_with : (body packed rest new : List ℕ) (at end : ℕ) → at ≤ length body → new ≡ take at body ++ packed ++ rest → end ≡ at + length packed → take end new ≡ take at body ++ packed
front_with body packed rest new at end within is ends = ap (take end) is ∙ take_at (take at body ++ packed) rest end (omega (arith, ends, length-append (take at body) packed, length-take-le at body within))

-- what was put for a frame
abbrev pub PutsRecord : List ArgType → ℕ → Call → List ℕ → List ℕ → ℕ → ℕ → Type 0
PutsRecord types before call body new at end =
    (packed : List ℕ) × RecordBytes types call.id call.stamp before call.args packed × (new ≡ take at body ++ packed ++ drop (at + length packed) body) × (end ≡ at + length packed)

pub draft_goes_on : (messages : List Message) (tick : ℕ) (records : List Call) (draft : Draft) (frame : List ℕ) (call : Call) (id : ℕ) (message : Message) (types : List ArgType) (body new : List ℕ) (end ids : ℕ) → IsFrameOfCall messages draft.last frame call → IsDraft messages tick records draft body → id ≡ call.id → slice_get messages id ≡ Some message → types ≡ Types message.format.pieces → ids ≡ max draft.ids (id + 1)
    → (Fits call.args types → PutsRecord types draft.last call body new draft.len end)
    → IsDraft messages tick (records ++ call ∷ []) (record { records = draft.records + 1; len = end; ids = ids; last = call.stamp }) new
draft_goes_on messages tick records draft frame call id message types body new end ids is was same_id finds types_are ids_are puts =
    let messages_same = same_message_of messages id call is.named.message message same_id is.named.known finds in
    let fits : Fits call.args types = subst (Fits call.args) (ap (λ (m : Message). Types m.format.pieces) messages_same ∙ sym types_are) is.named.fits in
    let put = puts fits in
    let packed = put.0 in
    let spelled : SpellsRecord messages (last_stamp tick records) call packed = record {
      message = message;
      known = ap (slice_get messages) (sym same_id) ∙ finds;
      spelled =
          subst (λ (n : ℕ). RecordBytes (Types message.format.pieces) call.id call.stamp n call.args packed) was.last
          (subst (λ (t : List ArgType). RecordBytes t call.id call.stamp draft.last call.args packed) types_are put.1);
    } in
    let behind : take end new ≡ take draft.len body ++ packed = front_with body packed (drop (draft.len + length packed) body) new draft.len end was.within put.2 put.3 in
    record {
      count = omega (arith, was.count, length-append records (call ∷ []));
      ids = ids_are ∙ (λ i. max (was.ids i) (same_id i + 1)) ∙ sym (ids_used-push records call);
      last = sym (last_stamp-push tick records call);
      rising = NeverFalls-push tick records call was.rising (omega (arith, was.last, is.not_before));
      within =
          omega (
            arith,
            put.3,
            was.within,
            ap length put.2,
            length-append (take draft.len body ++ packed) (drop (draft.len + length packed) body),
            length-append (take draft.len body) packed,
            length-take-le draft.len body was.within,
          );
      spelled = subst (SpellsRecords messages tick (records ++ call ∷ [])) (sym behind) (records-push messages tick records call (take draft.len body) packed was.spelled spelled);
    }
