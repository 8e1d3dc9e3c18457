-- Calls of a dictionary's messages.
use Rattle.std.proofs.Common.{◌≡◌, ℕ, ◌<◌, ◌≤◌, ◌^◌, List, length, refl, sym, ap, ◌∙◌, subst, arith}
use Rattle.std.specs.Prelude.{All, Option, None, Some, slice_get, option_map}
use Rattle.std.proofs.lemmas.Option.{slice_get-map, slice_get_within}
use Rattle.printf_grammar.specs.declared.arg_type.ArgType.{ArgType}
use Rattle.printf_grammar.specs.declared.argument.Value.{Value}
use Rattle.printf_grammar.specs.Types.{Types, Fits}
use Rattle.log_dictionary.specs.declared.message.Message.{Message}
use Rattle.log_dictionary.specs.declared.dictionary.TheConstants.{MAX_MESSAGES}
use Rattle.arg_records.specs.declared.frame.TheConstants.{MAX_FRAME_WORDS}
use Rattle.arg_records.specs.declared.call.Call.{Call}
use Rattle.arg_records.specs.Calls.{IsCall}
use Rattle.arg_records.specs.Frames.{AreArguments, FrameLen}
use Rattle.arg_records.specs.Kinds.{HoldsBytes}
use Rattle.ring_core.specs.Plans.{IsPlanned, types_by_id, call_of}

-- a call of a known message, with arguments that fit it
pub IsPlanned-message : (messages : List Message) (message : Message) (stamp id : ℕ) (args : List Value) → slice_get messages id ≡ Some message → id < MAX_MESSAGES → stamp < 2 ^ 64
    → Fits args (Types message.format.pieces) → AreArguments args → All HoldsBytes args → FrameLen args ≤ MAX_FRAME_WORDS → IsPlanned (types_by_id messages) (call_of stamp id args)
IsPlanned-message messages message stamp id args known id_range stamp_range fits arguments bytes short =
    let types_of = λ (m : Message). Types m.format.pieces in record {
      types = types_of message;
      known = slice_get-map types_of messages id ∙ ap (option_map types_of) known;
      fits = fits;
      bytes = bytes;
      staged = record { id_in_range = id_range; stamp_in_range = stamp_range; arguments = arguments; within = short };
    }

-- a call that the messages take
pub IsPlanned-from_IsCall : (messages : List Message) (call : Call) → IsCall messages call → length messages ≤ MAX_MESSAGES → call.stamp < 2 ^ 64 → AreArguments call.args → All HoldsBytes call.args
    → IsPlanned (types_by_id messages) call
IsPlanned-from_IsCall messages call is few stamp_range arguments bytes =
    let within : call.id < length messages = slice_get_within messages call.id is.message is.known in
    IsPlanned-message messages is.message call.stamp call.id call.args is.known (omega (arith, within, few)) stamp_range is.fits arguments bytes is.short

mapped_some : (f : Message → List ArgType) (o : Option Message) (types : List ArgType) → option_map f o ≡ Some types → (message : Message) × (o ≡ Some message) × (f message ≡ types)
mapped_some f None types e = absurd cc
mapped_some f (Some message) types e = (message, refl, cc e)

-- a planned call names one of the messages, and fits it
pub IsCall-from_IsPlanned : (messages : List Message) (call : Call) → IsPlanned (types_by_id messages) call → IsCall messages call
IsCall-from_IsPlanned messages call is =
    let types_of = λ (m : Message). Types m.format.pieces in
    let found = mapped_some types_of (slice_get messages call.id) is.types (sym (slice_get-map types_of messages call.id) ∙ is.known) in record {
      message = found.0;
      known = found.1;
      fits = subst (Fits call.args) (sym found.2) is.fits;
      short = is.staged.within;
    }
