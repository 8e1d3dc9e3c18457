use Rattle.std.proofs.Common.{refl, inl}
use Rattle.trace_text.proofs.WorkedRefusals.{empty, no_line_feed, no_last_line, other_version, leading_zero, other_id, no_rate, no_clock, no_writer, many_writers, many_writers_of_2, second_clock_of_1, second_without_rate, same_tick, call_of_none, line_behind, byte_behind}
use Rattle.trace_text.proofs.laws.texts_are_refused.Goals as goal

pub returns : goal.returns
returns c = record {
  too_large = λ bytes long. inl (long, refl, refl);
  empty = empty;
  no_line_feed = no_line_feed;
  no_last_line = no_last_line;
  other_version = other_version;
  leading_zero = leading_zero;
  other_id = other_id;
  no_rate = no_rate;
  no_clock = no_clock;
  no_writer = no_writer;
  many_writers = many_writers;
  many_writers_of_2 = many_writers_of_2;
  second_clock_of_1 = second_clock_of_1;
  second_without_rate = second_without_rate;
  same_tick = same_tick;
  call_of_none = call_of_none;
  line_behind = line_behind;
  byte_behind = byte_behind;
}
