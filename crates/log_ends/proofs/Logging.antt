-- Calls that aren't logged.
use Rattle.std.proofs.Common.{◌≡◌, ℕ, ◌+◌, ◌<◌, ◌≤◌, false, List, Some, Err, refl, sym, ◌∙◌, arith}
use Rattle.std.specs.Prelude.{slice_get}
use Rattle.printf_grammar.specs.declared.argument.Value.{Value}
use Rattle.printf_grammar.specs.declared.arg_type.ArgType.{ArgType}
use Rattle.printf_grammar.specs.Types.{Types, Fits}
use Rattle.log_dictionary.specs.declared.message.Message.{Message}
use Rattle.log_dictionary.specs.Calls.{Takes}
use Rattle.arg_records.specs.declared.frame.TheConstants.{MAX_FRAME_WORDS}
use Rattle.arg_records.specs.Frames.{FrameLen}
use Rattle.ring_core.specs.declared.limits.TheConstants.{MAX_POSITION, OFFER_ROOM}
use Rattle.ring_core.specs.Counts.{RisesBy}
use Rattle.log_ends.specs.declared.writer.WriterEnd.{WriterEnd}
use Rattle.log_ends.specs.declared.writer.LogFault.TheVariants as faults
use Rattle.log_ends.specs.Writers.{ring_of, logged, is_finished, writer_stamp, writer_messages, IsWornOut, IsSameWriter, MayLog, LogsCall}

-- a call may be logged whose arguments fit the types of the message that its id names
pub may_log : (writer : WriterEnd) (stamp id : ℕ) (message : Message) (types : List ArgType) (args : List Value) → is_finished writer ≡ false → slice_get (writer_messages writer) id ≡ Some message → types ≡ Types message.format.pieces
    → Fits args types → writer_stamp writer ≤ stamp → (ring_of writer).at + OFFER_ROOM ≤ MAX_POSITION → MayLog writer stamp id args
may_log writer stamp id message types args unfinished there is fits not_early room = record {
  unfinished = unfinished;
  fits = (message, there, rw (← is) fits);
  not_early = not_early;
  counted = λ worn. omega (arith, worn, room);
}

same_writer : (writer : WriterEnd) → IsSameWriter writer writer
same_writer writer = record { same_pair = refl; same_words = refl; same_plan = refl; same_messages = refl }

pub too_early : (writer : WriterEnd) (stamp id : ℕ) (args : List Value) → is_finished writer ≡ false → Takes (writer_messages writer) id args → stamp < writer_stamp writer → LogsCall writer stamp id args (Err faults.Early) writer
too_early writer stamp id args unfinished takes early = record {
  finished = (λ is. absurd cc, λ is. absurd cc);
  misfit = (λ is. absurd cc, λ is. absurd (is.1 takes));
  early = (λ is. (unfinished, takes, early), λ is. refl);
  worn_out = (λ is. absurd cc, λ is. absurd (omega (arith, early, is.2)));
  too_long = (λ is. absurd cc, λ is. absurd (omega (arith, early, is.0.not_early)));
  full = tt;
  looked = tt;
  room = tt;
  ok = tt;
  stamped = tt;
  moved = tt;
  err = (refl, refl, refl);
  same_finish = refl;
  steps = (omega arith, omega arith);
  same = same_writer writer;
}

pub worn_out : (writer : WriterEnd) (stamp id : ℕ) (args : List Value) → is_finished writer ≡ false → Takes (writer_messages writer) id args → writer_stamp writer ≤ stamp → IsWornOut writer → LogsCall writer stamp id args (Err faults.WornOut) writer
worn_out writer stamp id args unfinished takes not_early worn = record {
  finished = (λ is. absurd cc, λ is. absurd cc);
  misfit = (λ is. absurd cc, λ is. absurd (is.1 takes));
  early = (λ is. absurd cc, λ is. absurd (omega (arith, not_early, is.2)));
  worn_out = (λ is. (unfinished, takes, not_early, worn), λ is. refl);
  too_long = (λ is. absurd cc, λ is. absurd (is.0.counted worn));
  full = tt;
  looked = tt;
  room = tt;
  ok = tt;
  stamped = tt;
  moved = tt;
  err = (refl, refl, refl);
  same_finish = refl;
  steps = (omega arith, omega arith);
  same = same_writer writer;
}

pub too_long : (old new : WriterEnd) (stamp id : ℕ) (args : List Value) → MayLog old stamp id args → MAX_FRAME_WORDS < FrameLen args
    → logged new ≡ logged old → (ring_of new).at ≡ (ring_of old).at → writer_stamp new ≡ writer_stamp old → is_finished new ≡ false
    → RisesBy (FrameLen args + 3) (ring_of old).steps (ring_of new).steps → IsSameWriter old new
    → LogsCall old stamp id args (Err faults.TooLong) new
too_long old new stamp id args may long same_logged same_at same_stamp unfinished steps same = record {
  finished = (λ is. absurd cc, λ is. let was = may.unfinished in absurd cc);
  misfit = (λ is. absurd cc, λ is. absurd (is.1 may.fits));
  early = (λ is. absurd cc, λ is. absurd (omega (arith, may.not_early, is.2)));
  worn_out = (λ is. absurd cc, λ is. absurd (may.counted is.3));
  too_long = (λ is. (may, long), λ is. refl);
  full = tt;
  looked = tt;
  room = tt;
  ok = tt;
  stamped = tt;
  moved = tt;
  err = (same_logged, same_at, same_stamp);
  same_finish = unfinished ∙ sym may.unfinished;
  steps = steps;
  same = same;
}
