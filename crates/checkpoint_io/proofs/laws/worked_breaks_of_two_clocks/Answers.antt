use Rattle.checkpoint_io.proofs.WorkedBreaks.{early_clock}
use Rattle.checkpoint_io.proofs.WorkedClocks as worked
use Rattle.checkpoint_io.proofs.laws.worked_breaks_of_two_clocks.Goals as goal

pub returns : goal.returns
returns c = record {
  other_version = worked.other_version;
  no_writers = worked.no_writers;
  too_many_writers = worked.too_many_writers;
  other_tag = worked.other_tag;
  same_tick = worked.same_tick;
  no_rate = worked.no_rate;
  late = worked.late;
  other_writer = worked.other_writer;
  cut = worked.cut;
  version_1 = early_clock;
  tick_before_rate = worked.tick_before_rate;
}
