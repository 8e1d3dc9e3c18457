-- A call's line up to its arguments, as it is read.
use Rattle.std.specs.Prelude.{nat_lt, Result, Ok}
use Rattle.printf_grammar.specs.Types.{Types}
use Rattle.arg_records.specs.declared.frame.TheConstants.{MAX_FRAME_WORDS}
use Rattle.arg_records.specs.Frames.{FrameLen}
use Rattle.trace_text.specs.declared.cause.TraceCause.{TraceCause}
use Rattle.trace_text.specs.declared.cause.TraceCause.TheVariants.{TooLong}
use Rattle.trace_text.specs.declared.call_line.CallLineHead.{CallLineHead}
use Rattle.trace_text.specs.declared.call_line.BegunCall.{BegunCall}
use Rattle.trace_text.specs.Lines.{WriterCall}
use Rattle.trace_text.specs.LineFields.{CallHead}
use Rattle.trace_text.specs.CallReading.{◌>>=◌, refused_if, arguments_at}

-- a head without where its fields lie
abbrev pub head_view : CallLineHead → CallHead
head_view head = record { writer = head.writer; stamp = head.stamp; id = head.id; fields = head.fields.now }

-- the call that was begun, with its arguments
abbrev pub begun_call : BegunCall → Result WriterCall TraceCause
begun_call begun = do
  args ← arguments_at (Types begun.message.now.format.pieces) begun.fields.now
  short ← refused_if (nat_lt MAX_FRAME_WORDS (FrameLen args)) TooLong
  Ok (record { writer = begun.writer; call = record { stamp = begun.stamp; id = begun.id; args = args } })
