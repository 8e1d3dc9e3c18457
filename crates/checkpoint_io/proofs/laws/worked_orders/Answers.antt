use Rattle.checkpoint_io.proofs.WorkedBreaks as worked
use Rattle.checkpoint_io.proofs.laws.worked_orders.Goals as goal

pub returns : goal.returns
returns c = record {
  magic_before_version = worked.magic_before_version;
  version_before_writers = worked.version_before_writers;
  writers_before_cut = worked.writers_before_cut;
  first_id_before_count = worked.first_id_before_count;
  severity_before_cut = worked.severity_before_cut;
  writer_before_length = worked.writer_before_length;
  length_before_cut = worked.length_before_cut;
  closed_before_length = worked.closed_before_length;
}
