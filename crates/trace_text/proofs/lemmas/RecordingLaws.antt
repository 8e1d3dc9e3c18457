-- Which runs are recordings, and which aren't.
use Rattle.std.proofs.Common.{◌≡◌, ℕ, zero, suc, ◌≤◌, lit≤, lit<, true, List, [], ◌∷◌, length, replicate, refl, arith}
use Rattle.std.proofs.lemmas.List.{length-replicate}
use Rattle.std.proofs.lemmas.List.Sums.{sum_by-cons}
use Rattle.printf_grammar.proofs.lemmas.Worked.{all_copies}
use Rattle.log_dictionary.specs.declared.message.Message.{Message}
use Rattle.arg_records.specs.declared.call.Call.{Call}
use Rattle.trace_text.specs.Recordings.{IsRecording}
use Rattle.arg_records.specs.Calls.{IsCall, NeverFalls}
use Rattle.arg_records.specs.Rows.{row_call, full_message, full_call}
use Rattle.log_dictionary.specs.Rows.{row_message}
use Rattle.log_dictionary.specs.Clocks.{FitsClock}
use Rattle.session_options.specs.Versions.{is_known, most_writers, MayHaveClocks}
use Rattle.session_options.proofs.lemmas.RunClocks.{may_have_more}
use Rattle.trace_text.specs.Rows.{row_clock, two_messages, two_clocks_run}
use Rattle.trace_text.proofs.lemmas.RunSteps.{one_clock, start_recorded}

-- ---- stamps

copies_rise : (least : ℕ) (call : Call) (n : ℕ) → least ≤ call.stamp → NeverFalls least (replicate n call)
copies_rise least call zero h = tt
copies_rise least call (suc n) h = (h, copies_rise call.stamp call n (omega arith))

-- ---- calls

pub row_is_call : (others : List Message) (n : ℕ) → n ≤ 9 → IsCall (row_message ∷ others) (row_call n)
row_is_call others n small = record { message = row_message; known = refl; fits = (record { sfits = omega (arith, small) }, tt); short = lit≤ tt }

full_is_call : (stamp : ℕ) → IsCall (row_message ∷ full_message ∷ []) (full_call stamp)
full_is_call stamp = record { message = full_message; known = refl; fits = tt; short = lit≤ tt }

-- ---- runs

row_fits : FitsClock row_clock
row_fits = record { tick = lit< tt; nanos = lit< tt; rate = lit< tt }

row_clock_alone : (version : ℕ) → MayHaveClocks version (row_clock ∷ [])
row_clock_alone version = one_clock version row_clock (lit≤ tt) row_fits

pub two_messages_recorded : IsRecording two_messages
two_messages_recorded = record {
  known = refl;
  clocks = row_clock_alone 1;
  some_writer = lit≤ tt;
  few_writers = lit≤ tt;
  few_calls = lit≤ tt;
  calls = (
    (row_is_call (full_message ∷ []) 1 (lit≤ tt), (full_is_call 1004, tt)),
    ((full_is_call 1000, (row_is_call (full_message ∷ []) 2 (lit≤ tt), tt)), ((row_is_call (full_message ∷ []) 3 (lit≤ tt), tt), tt)),
  );
  stamps = ((lit≤ tt, (lit≤ tt, tt)), ((lit≤ tt, (lit≤ tt, tt)), ((lit≤ tt, tt), tt)));
}

pub slowest_recorded : IsRecording (record two_messages { clocks = record row_clock { rate = 1 } ∷ [] })
slowest_recorded =
    let run = two_messages_recorded in
    record {
      known = refl;
      clocks = one_clock 1 (record row_clock { rate = 1 }) (lit≤ tt) (record { tick = lit< tt; nanos = lit< tt; rate = lit< tt });
      some_writer = run.some_writer;
      few_writers = run.few_writers;
      few_calls = run.few_calls;
      calls = run.calls;
      stamps = run.stamps;
    }

pub two_clocks_recorded : IsRecording two_clocks_run
two_clocks_recorded = record {
  known = refl;
  clocks = may_have_more 2 (row_clock ∷ []) _ _ (row_clock_alone 2) refl (record { few = lit< tt; above = lit< tt; rate = lit≤ tt }) (record { tick = lit< tt; nanos = lit< tt; rate = lit< tt }) refl;
  some_writer = lit≤ tt;
  few_writers = lit≤ tt;
  few_calls = lit≤ tt;
  calls = ((record { message = row_message; known = refl; fits = (record { sfits = omega arith }, tt); short = lit≤ tt }, tt), tt);
  stamps = ((lit≤ tt, tt), tt);
}

-- a run of so many writers without calls
pub writers_recorded : (version n : ℕ) → is_known version ≡ true → 1 ≤ n → n ≤ most_writers version → IsRecording (record two_messages { version = version; writers = replicate n [] })
writers_recorded version n known some few = start_recorded version two_messages.dictionary (row_clock ∷ []) n known (row_clock_alone version) some few

pub calls_recorded : (n : ℕ) → n ≤ 4194304 → IsRecording (record two_messages { writers = replicate n (row_call 1) ∷ [] })
calls_recorded n few = record {
  known = refl;
  clocks = row_clock_alone 1;
  some_writer = lit≤ tt;
  few_writers = lit≤ tt;
  few_calls = omega (arith, sum_by-cons length (replicate n (row_call 1)) [], length-replicate n (row_call 1), few);
  calls = (all_copies (IsCall two_messages.dictionary) (row_call 1) n (row_is_call (full_message ∷ []) 1 (lit≤ tt)), tt);
  stamps = (copies_rise 1000 (row_call 1) n (lit≤ tt), tt);
}
