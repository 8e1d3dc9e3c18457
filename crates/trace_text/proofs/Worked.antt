-- The worked examples are proved from their parts.
use Rattle.std.proofs.Common.{◌≡◌, ℕ, ◌≤◌, lit<, lit≤, List, [], ◌∷◌, refl, inl, inr, arith}
use Rattle.std.specs.Prelude.{codes, pos}
use Rattle.std.specs.Fmt.{digits}
use Rattle.std.specs.List.{AllByRecursion}
use Rattle.log_dictionary.specs.Texts.{IsPlain, SpellsText, itself, quotation_mark, backslash, line_feed, tab, hexadecimal}
use Rattle.trace_text.specs.Recordings.{IsRecording}
use Rattle.arg_records.specs.Calls.{IsCall}
use Rattle.printf_grammar.specs.declared.argument.Value.TheVariants.{Signed}
use Rattle.trace_text.specs.Lines.{WriterCall, SpellsCall}
use Rattle.trace_text.specs.Traces.{TraceText}
use Rattle.trace_text.specs.Canonical.{Canonical}
use Rattle.stamp_merge.specs.Ordering.{insert_by, in_order_by}
use Rattle.trace_text.specs.Rows.{row_clock, three_writers_run, three_writers_text, two_clocks_run, two_clocks_text, text_call, text_call_line}
use Rattle.arg_records.specs.Rows.{row_call}
use Rattle.log_dictionary.specs.Rows.{row_message}
use Rattle.log_dictionary.proofs.lemmas.LineWorked.{row_spelled}
use Rattle.trace_text.proofs.lemmas.RunSteps.{one_clock}
use Rattle.trace_text.proofs.lemmas.RecordingLaws.{two_clocks_recorded}

pub high : (b : ℕ) → 93 ≤ b → b ≤ 126 → IsPlain b
high b least most = inl (omega (arith, least), most, (λ e. omega (arith, least, e)), (λ e. omega (arith, least, e)))

-- bytes that stand for themselves
pub plain_text : (bytes : List ℕ) → AllByRecursion IsPlain bytes → SpellsText bytes bytes
plain_text [] all = refl
plain_text (b ∷ bytes) all = (b ∷ [], bytes, refl, itself all.0 refl, plain_text bytes all.1)

second_first : SpellsCall (codes "call 1 1003 0 2") (record { writer = 1; call = row_call 2 })
unfolding digits
second_first = record { fields = codes " 2"; spelled = refl; arguments = (codes "2", [], refl, refl, refl); stamp_fits = lit< tt }

first_first : SpellsCall (codes "call 0 1003 0 1") (record { writer = 0; call = row_call 1 })
unfolding digits
first_first = record { fields = codes " 1"; spelled = refl; arguments = (codes "1", [], refl, refl, refl); stamp_fits = lit< tt }

second_second : SpellsCall (codes "call 1 1003 0 3") (record { writer = 1; call = row_call 3 })
unfolding digits
second_second = record { fields = codes " 3"; spelled = refl; arguments = (codes "3", [], refl, refl, refl); stamp_fits = lit< tt }

is_call : (n : ℕ) → n ≤ 9 → IsCall (row_message ∷ []) (row_call n)
is_call n small = record { message = row_message; known = refl; fits = (record { sfits = omega (arith, small) }, tt); short = lit≤ tt }

recorded : IsRecording three_writers_run
recorded = record {
  known = refl;
  clocks = one_clock 1 row_clock (lit≤ tt) (record { tick = lit< tt; nanos = lit< tt; rate = lit< tt });
  some_writer = lit≤ tt;
  few_writers = lit≤ tt;
  few_calls = lit≤ tt;
  calls = ((is_call 1 (lit≤ tt), tt), ((is_call 2 (lit≤ tt), (is_call 3 (lit≤ tt), tt)), (tt, tt)));
  stamps = ((lit≤ tt, tt), ((lit≤ tt, (lit≤ tt, tt)), (tt, tt)));
}

pub mixed : TraceText three_writers_text three_writers_run
unfolding digits
mixed = record {
  short = lit≤ tt;
  message_lines = codes "message 0 NOTICE 12 \"srv.cc\" \"x=%d\"" ∷ [];
  call_lines = codes "call 1 1003 0 2" ∷ codes "call 0 1003 0 1" ∷ codes "call 1 1003 0 3" ∷ [];
  calls = record { writer = 1; call = row_call 2 } ∷ record { writer = 0; call = row_call 1 } ∷ record { writer = 1; call = row_call 3 } ∷ [];
  whole = refl;
  messages_spelled = (row_spelled, tt);
  distinct = λ i j d earlier within. absurd (omega (arith, earlier, within));
  few_messages = lit≤ tt;
  calls_spelled = (second_first, (first_first, (second_second, tt)));
  known_writers = (lit< tt, (lit< tt, (lit< tt, tt)));
  by_writer = refl;
  recorded = recorded;
}

-- ---- two clocks

abbrev later_call : WriterCall
later_call = record { writer = 0; call = record { stamp = 2003; id = 0; args = Signed (pos 7) ∷ [] } }

later_spelled : SpellsCall (codes "call 0 2003 0 7") later_call
unfolding digits
later_spelled = record { fields = codes " 7"; spelled = refl; arguments = (codes "7", [], refl, refl, refl); stamp_fits = lit< tt }

pub two_clocks_read : TraceText two_clocks_text two_clocks_run
unfolding digits
two_clocks_read = record {
  short = lit≤ tt;
  message_lines = codes "message 0 NOTICE 12 \"srv.cc\" \"x=%d\"" ∷ [];
  call_lines = codes "call 0 2003 0 7" ∷ [];
  calls = later_call ∷ [];
  whole = refl;
  messages_spelled = (row_spelled, tt);
  distinct = λ i j d earlier within. absurd (omega (arith, earlier, within));
  few_messages = lit≤ tt;
  calls_spelled = (later_spelled, tt);
  known_writers = (lit< tt, tt);
  by_writer = refl;
  recorded = two_clocks_recorded;
}

pub two_clocks_written : Canonical two_clocks_run ≡ two_clocks_text
unfolding digits insert_by in_order_by
two_clocks_written = refl

-- ---- escapes

escapes : SpellsText (codes "a\\\"\\\\\\n\\t\\xFe") (97 ∷ 34 ∷ 92 ∷ 10 ∷ 9 ∷ 254 ∷ [])
escapes = (
  codes "a",
  codes "\\\"\\\\\\n\\t\\xFe",
  refl,
  itself (high 97 (lit≤ tt) (lit≤ tt)) refl,
  (
    codes "\\\"",
    codes "\\\\\\n\\t\\xFe",
    refl,
    quotation_mark refl refl,
    (
      codes "\\\\",
      codes "\\n\\t\\xFe",
      refl,
      backslash refl refl,
      (
        codes "\\n",
        codes "\\t\\xFe",
        refl,
        line_feed refl refl,
        (
          codes "\\t",
          codes "\\xFe",
          refl,
          tab refl refl,
          (codes "\\xFe", [], refl, hexadecimal 70 101 (inl (inr (lit≤ tt, lit≤ tt))) (inr (lit≤ tt, lit≤ tt)) refl refl, refl),
        ),
      ),
    ),
  ),
)

pub escaped : SpellsCall text_call_line text_call
unfolding digits
escaped = record {
  fields = codes " \"a\\\"\\\\\\n\\t\\xFe\" 18446744073709551615";
  spelled = refl;
  arguments = (codes "\"a\\\"\\\\\\n\\t\\xFe\"", codes " 18446744073709551615", refl, (codes "a\\\"\\\\\\n\\t\\xFe", refl, escapes), (codes "18446744073709551615", [], refl, refl, refl));
  stamp_fits = lit< tt;
}
