-- Writers that log one call more.
use Rattle.std.proofs.Common.{◌≡◌, ℕ, ◌+◌, ◌<◌, ◌≤◌, ◌^◌, List, [], ◌∷◌, ◌++◌, length, refl, sym, ap, subst, ◌∙◌, arith}
use Rattle.std.specs.Prelude.{All, Option, None, Some, option_map, slice_get}
use Rattle.std.proofs.lemmas.List.{length-append, length-map}
use Rattle.std.proofs.lemmas.Option.{slice_get-map, slice_get_within, get_or_from_slice_get}
use Rattle.std.proofs.lemmas.List.Elements.{All-get_or, All-map, All-weaker}
use Rattle.printf_grammar.specs.declared.arg_type.ArgType.{ArgType}
use Rattle.printf_grammar.specs.declared.argument.Value.{Value}
use Rattle.printf_grammar.specs.declared.limits.TheConstants.{MAX_ARGUMENTS}
use Rattle.printf_grammar.specs.Types.{Types, Fits}
use Rattle.log_dictionary.specs.declared.dictionary.TheConstants.{MAX_MESSAGES}
use Rattle.log_dictionary.specs.Calls.{Takes}
use Rattle.log_dictionary.specs.BinaryEntries.{entry_bytes, SpellsEntry}
use Rattle.log_dictionary.specs.Messages.{AreFormed}
use Rattle.log_dictionary.specs.declared.message.Message.{Message}
use Rattle.arg_records.specs.declared.call.Call.{Call}
use Rattle.arg_records.specs.Calls.{last_stamp}
use Rattle.arg_records.specs.Frames.{AreArguments, Frame, FrameLen}
use Rattle.arg_records.specs.Kinds.{HoldsBytes}
use Rattle.arg_records.proofs.lemmas.Fitted.{AreArguments-from_Fits}
use Rattle.arg_records.proofs.lemmas.CallLists.{last_stamp-push}
use Rattle.ring_core.specs.Plans.{Plan, plan_of, call_of, AreFramesOf, MayFollow, Lawful}
use Rattle.ring_core.specs.Positions.{Need, Position, position_from}
use Rattle.ring_core.proofs.lemmas.Frames.{AreFramesOf-push}
use Rattle.ring_core.proofs.lemmas.Needs.{Need-least, position_from-push}
use Rattle.ring_core.proofs.lemmas.OneReading.{AreFramesOf-unique}
use Rattle.log_session.specs.Writers.{WriterView, IsDictionaryPlan, Knows, AppendsCall, HasLogged, knows_taken}

-- ---- positions

-- each call takes a place at least
calls-position_from : (at : ℕ) (calls : List Call) (words : ℕ) → at + length calls ≤ position_from at calls words
calls-position_from at [] words = omega arith
calls-position_from at (call ∷ calls) words =
    omega (arith, Need-least at (FrameLen call.args) words, calls-position_from (at + Need at (FrameLen call.args) words) calls words)

pub calls-Position : (calls : List Call) (words : ℕ) → length calls ≤ Position calls words
calls-Position calls words = omega (arith, calls-position_from 0 calls words)

-- ---- what a writer may log

All-some : {X : Type 0} (P : X → Type 0) (xs : List X) (i : ℕ) (x : X) → All P xs → slice_get xs i ≡ Some x → P x
All-some P xs i x all there =
    subst P (get_or_from_slice_get xs i x x there) (All-get_or P xs i x (slice_get_within xs i x there) all)

pub known_arguments : (plan : Plan) (id : ℕ) (args : List Value) → IsDictionaryPlan plan → Knows plan id args → AreArguments args
known_arguments plan id args is known =
    AreArguments-from_Fits args known.0 known.2 (All-some (λ (types : List ArgType). length types ≤ 64) plan.types id known.0 is.short known.1)

pub may_follow : (plan : Plan) (stamp id last : ℕ) (args : List Value) → IsDictionaryPlan plan → Knows plan id args → All HoldsBytes args → stamp < 2 ^ 64 → FrameLen args ≤ 512
    → last ≤ stamp → MayFollow plan last (call_of stamp id args)
may_follow plan stamp id last args is known bytes fits short later = record {
  planned = record {
    types = known.0;
    known = known.1;
    fits = known.2;
    bytes = bytes;
    staged = record {
      id_in_range = omega (arith, slice_get_within plan.types id known.0 known.1, is.few);
      stamp_in_range = fits;
      arguments = known_arguments plan id args is known;
      within = short;
    };
  };
  not_before = later;
}

-- a call that a writer is asked to log, as it is seen from outside, may follow what it has inside
pub may_log : {S : Type 0} (plan : S → Plan) (inside seen : WriterView S) (stamp id : ℕ) (args : List Value) → inside ≡ seen → IsDictionaryPlan (plan inside.end) → Knows (plan seen.end) id args → seen.last ≤ stamp
    → All HoldsBytes args → stamp < 2 ^ 64 → FrameLen args ≤ 512 → MayFollow (plan inside.end) inside.last (call_of stamp id args)
may_log {S} plan inside seen stamp id args same is known later bytes fits short =
    let asked = subst (λ (w : WriterView S). Knows (plan w.end) id args × (w.last ≤ stamp)) (sym same) (known, later) in
    may_follow (plan inside.end) stamp id inside.last args is asked.0 bytes fits short asked.1

-- what a writer knows of one call more
pub logged_more : (plan : Plan) (sent : List (List ℕ)) (at words last accepted stamp id : ℕ) (args : List Value) → (h : HasLogged plan sent at words last accepted)
    → MayFollow plan last (call_of stamp id args) → HasLogged plan (sent ++ Frame id stamp args ∷ []) (at + Need at (FrameLen args) words) words stamp (accepted + 1)
logged_more plan sent at words last accepted stamp id args h may =
    let call = call_of stamp id args in record {
      planned = h.planned;
      ring = h.ring;
      calls = h.calls ++ call ∷ [];
      frames = AreFramesOf-push plan sent h.calls call h.frames (subst (λ (n : ℕ). MayFollow plan n call) (sym h.last_is) may);
      last_is = last_stamp-push plan.first h.calls call;
      placed = ap (λ (n : ℕ). n + Need n (FrameLen args) words) h.placed ∙ sym (position_from-push 0 h.calls call words);
      counted = omega (arith, h.counted, length-append h.calls (call ∷ []));
    }

-- its frames with that of the call are lawful
pub lawful_more : (plan : Plan) (sent : List (List ℕ)) (at words last accepted stamp id : ℕ) (args : List Value) → HasLogged plan sent at words last accepted
    → MayFollow plan last (call_of stamp id args) → Lawful plan (sent ++ Frame id stamp args ∷ [])
lawful_more plan sent at words last accepted stamp id args h may =
    let more = logged_more plan sent at words last accepted stamp id args h may in
    (more.calls, more.frames)

-- of whatever calls the frames before were, those with that of the call are of these and the call
pub accepts_more : (plan new_plan : Plan) (sent new_sent : List (List ℕ)) (at words last accepted stamp id : ℕ) (args : List Value) → HasLogged plan sent at words last accepted
    → MayFollow plan last (call_of stamp id args) → new_plan ≡ plan → new_sent ≡ sent ++ Frame id stamp args ∷ [] → AppendsCall plan sent new_plan new_sent (call_of stamp id args)
accepts_more plan new_plan sent new_sent at words last accepted stamp id args h may p s = λ calls frames.
    let call = call_of stamp id args in
    let same : h.calls ≡ calls = AreFramesOf-unique plan sent h.calls calls h.frames frames in
    let last_is : last_stamp plan.first calls ≡ last = sym (ap (last_stamp plan.first) same) ∙ h.last_is in
    subst (λ (y : Plan × List (List ℕ)). AreFramesOf y.0 y.1 (calls ++ call ∷ [])) (λ i. (sym p i, sym s i))
    (AreFramesOf-push plan sent calls call frames (subst (λ (n : ℕ). MayFollow plan n call) (sym last_is) may))

-- so it is with whatever equals these
pub logged_same : (plan new_plan : Plan) (sent new_sent : List (List ℕ)) (at new_at words new_words last accepted : ℕ) → new_plan ≡ plan → new_sent ≡ sent → new_at ≡ at → new_words ≡ words
    → HasLogged plan sent at words last accepted → HasLogged new_plan new_sent new_at new_words last accepted
logged_same plan new_plan sent new_sent at new_at words new_words last accepted p s a w =
    subst (λ (y : Plan × List (List ℕ) × ℕ × ℕ). HasLogged y.0 y.1 y.2 y.3 last accepted) (λ i. (sym p i, sym s i, sym a i, sym w i))

-- ---- plans of dictionaries

-- the plan of a dictionary's messages has few ids, each with few types
pub dictionary_plan : (messages : List Message) (first : ℕ) → length messages ≤ MAX_MESSAGES → AreFormed messages → IsDictionaryPlan (plan_of messages first)
dictionary_plan messages first few formed = record {
  few = omega (arith, few, length-map messages (λ (message : Message). Types message.format.pieces));
  short =
      All-map (λ (types : List ArgType). length types ≤ MAX_ARGUMENTS) (λ (message : Message). Types message.format.pieces) messages
      (All-weaker (λ (message : Message). SpellsEntry (entry_bytes message) message) (λ (message : Message). length (Types message.format.pieces) ≤ MAX_ARGUMENTS) (λ message spelled. spelled.formed.few) messages formed);
}

-- ---- what a dictionary takes

mapped : (o : Option Message) (types : List ArgType) → option_map (λ (message : Message). Types message.format.pieces) o ≡ Some types → (message : Message) × (o ≡ Some message) × (Types message.format.pieces ≡ types)
mapped None types is = absurd cc
mapped (Some message) types is = (message, refl, cc is)

pub taken_known : (messages : List Message) (first id : ℕ) (args : List Value) → Knows (plan_of messages first) id args → Takes messages id args
taken_known messages first id args known =
    let types_of = λ (message : Message). Types message.format.pieces in
    let found = mapped (slice_get messages id) known.0 (sym (slice_get-map types_of messages id) ∙ known.1) in
    (found.0, found.1, subst (Fits args) (sym found.2) known.2)

-- a plan knows what the dictionary takes for which it was made
pub knows_if_taken : (plan : Plan) (messages : List Message) (first id : ℕ) (args : List Value) → plan ≡ plan_of messages first
    → (Takes messages id args → Knows plan id args) × (Knows plan id args → Takes messages id args)
knows_if_taken plan messages first id args is = (
  λ taken. subst (λ (p : Plan). Knows p id args) (sym is) (knows_taken messages first id args taken),
  λ known. taken_known messages first id args (subst (λ (p : Plan). Knows p id args) is known),
)
