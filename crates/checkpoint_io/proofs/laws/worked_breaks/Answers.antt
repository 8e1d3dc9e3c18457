use Rattle.checkpoint_io.proofs.WorkedBreaks as worked
use Rattle.checkpoint_io.proofs.laws.worked_breaks.Goals as goal

pub returns : goal.returns
returns c = record {
  no_bytes = worked.no_bytes;
  other_magic = worked.other_magic;
  other_version = worked.other_version;
  no_writers = worked.no_writers;
  other_tag = worked.other_tag;
  other_first_id = worked.other_first_id;
  no_messages = worked.no_messages;
  other_severity = worked.other_severity;
  other_writer = worked.other_writer;
  cut_at_60 = worked.cut_at_60;
  closed_twice = worked.closed_twice;
}
