use Rattle.std.proofs.Common.{◌∙◌}
use Rattle.nibble_pack.proofs.lemmas.Parsing.{handed_on}
use Rattle.checkpoint_io.specs.Places.{log_place}
use Rattle.checkpoint_io.proofs.NextLaws.{extent_stands, extent_refused, writer_refused}
use Rattle.checkpoint_io.proofs.WriterLaws.{states_go_on}
use Rattle.checkpoint_io.proofs.block_reading.read_extent.Goals as goal

pub returns-in_err-writer-clause-read : goal.returns-in_err-writer-clause-read
returns-in_err-writer-clause-read g c before known are =
    handed_on _ _ _ _ c.from_residual.ensures.1 (writer_refused c.args.header.now before (log_place c.args.pending.now (g.S.Source.left c.args.source.now)) _ c.in_err-writer.field-0.0 (c.in_err-writer.ensures.read before are))

pub returns-in_err-stamp-clause-read : goal.returns-in_err-stamp-clause-read
returns-in_err-stamp-clause-read g c before known are =
    let writer = c.in_ok-writer.writer in
    handed_on _ _ _ _ c.from_residual-in_err-stamp.ensures.1 (extent_refused c.args.header.now before c.args.dictionary.now c.last-last.result writer _ _ _ c.in_err-stamp.field-0.0 known (c.last-last.ensures ∙ are.lasts writer c.in_ok-writer.ensures.known) (c.in_ok-writer.ensures.read before are) c.in_err-stamp.ensures.read)

pub returns-clause-read : goal.returns-clause-read
returns-clause-read g c before known are =
    let writer = c.in_ok-writer.writer in
    let takes = c.in_ok-stamp.ensures.read in
    record {
      records = takes.records;
      takes = extent_stands c.args.header.now before c.args.dictionary.now c.last-last.result writer takes.records _ _ _ known (c.last-last.ensures ∙ are.lasts writer c.in_ok-writer.ensures.known) (c.in_ok-writer.ensures.read before are) takes.takes;
      last = c.last-last.result;
      body = takes.body;
      ends = takes.ends;
      states = states_go_on c.args.writers.now c.go_on.new.self c.args.header.now before writer c.in_ok-stamp.stamp takes.records c.in_ok-writer.ensures.known takes.ends c.go_on.ensures.many c.go_on.ensures.own c.go_on.ensures.others c.go_on.ensures.closed are;
    }
