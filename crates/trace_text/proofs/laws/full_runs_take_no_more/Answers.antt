use Rattle.std.proofs.Common.{refl, inl}
use Rattle.trace_text.proofs.LongLines.{last_call, one_call_more, last_message, last_clock, one_clock_more}
use Rattle.trace_text.proofs.laws.full_runs_take_no_more.Goals as goal

pub returns : goal.returns
returns c = record {
  last_call = last_call;
  one_call_more = one_call_more;
  last_message = last_message;
  one_message_more = λ version before fields full. inl (refl, inl (full, refl));
  last_clock = last_clock;
  one_clock_more = one_clock_more;
}
