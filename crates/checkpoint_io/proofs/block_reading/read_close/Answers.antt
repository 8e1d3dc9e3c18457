use Rattle.nibble_pack.proofs.lemmas.Parsing.{handed_on}
use Rattle.checkpoint_io.specs.Places.{log_place}
use Rattle.checkpoint_io.proofs.NextLaws.{close_stands, close_refused}
use Rattle.checkpoint_io.proofs.WriterLaws.{states_close}
use Rattle.checkpoint_io.proofs.block_reading.read_close.Goals as goal

pub returns-in_err-writer-clause-read : goal.returns-in_err-writer-clause-read
returns-in_err-writer-clause-read g c before are =
    handed_on _ _ _ _ c.from_residual.ensures.1 (close_refused c.args.header.now before (log_place c.args.pending.now (g.S.Source.left c.args.source.now)) _ c.in_err-writer.field-0.0 (c.in_err-writer.ensures.read before are))

pub returns-clause-read : goal.returns-clause-read
returns-clause-read g c before are =
    let writer = c.in_ok-writer.writer in
    record {
      takes = close_stands c.args.header.now before writer _ _ (c.in_ok-writer.ensures.read before are);
      states = states_close c.args.writers.now c.close.new.self c.args.header.now before writer c.in_ok-writer.ensures.known c.close.ensures.many c.close.ensures.own c.close.ensures.others c.close.ensures.lasts are;
    }
