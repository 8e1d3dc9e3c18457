use Rattle.std.proofs.Common.{◌++◌, ◌∷◌, [], sym, ap, arith}
use Rattle.printf_grammar.specs.declared.arg_type.ArgType.TheVariants.{Int}
use Rattle.arg_records.specs.Frames.{FrameLen}
use Rattle.trace_text.specs.CallFields.{result_as}
use Rattle.trace_text.proofs.CallFieldLemmas.{one_read, one_refused, frame_more}
use Rattle.trace_text.proofs.call_fields.read_arguments.Goals as goal

pub returns-in-Err-clause-words : goal.returns-in-Err-clause-words
returns-in-Err-clause-words c = sym (ap (result_as FrameLen) (one_refused c.args.types.now c.args.bytes.now c.loop-kind.kind-index c.loop-kind.rest.now c.loop-kind.invariant.args Int c.in-Err.cause c.loop-kind.invariant.read (omega arith) c.in-Err.ensures.err))

pub loop-kind-preserved : goal.loop-kind-preserved
loop-kind-preserved c =
    let args = c.loop-kind.invariant.args in
    let found = c.in-Ok.ensures.ok in
    record {
      args = args ++ found.value ∷ [];
      read = one_read c.args.types.now c.args.bytes.now c.loop-kind.kind-index c.loop-kind.rest.now args Int found.value c.in-Ok.after.now c.loop-kind.invariant.read (omega arith) (sym found.is);
      are_kept = found.keeps.kept args c.loop-kind.invariant.are_kept;
      words_are = omega (arith, frame_more args found.value, c.loop-kind.invariant.words_are, found.keeps.words_are);
      few = omega (arith, c.loop-kind.invariant.few, found.keeps.few);
    }
