-- Worked examples: runs of three writers, and calls with texts.
use Rattle.std.specs.Prelude.{◌≡◌, ℕ, List, [], ◌∷◌, ◌++◌, codes, replicate, Err, pos}
use Rattle.printf_grammar.specs.declared.piece.Piece.TheVariants.{Field}
use Rattle.printf_grammar.specs.declared.piece.Conversion.TheVariants.{S}
use Rattle.printf_grammar.specs.declared.argument.Value.TheVariants.{Signed, Unsigned, Text}
use Rattle.printf_grammar.specs.Narrow.{plain_d}
use Rattle.arg_records.specs.Rows.{row_call, full_message, mixed_calls, texts_message}
use Rattle.log_dictionary.specs.declared.clock.Clock.{Clock}
use Rattle.log_dictionary.specs.Rows.{row_message}
use Rattle.trace_text.specs.Recordings.{Recording}
use Rattle.trace_text.specs.declared.cause.TraceCause.{TraceCause}
use Rattle.trace_text.specs.Lines.{WriterCall}
use Rattle.trace_text.specs.CallReading.{call_at}

abbrev pub row_clock : Clock
row_clock = record { tick = 1000; nanos = 1514764800000000000; rate = 2000000000 }

-- the second writer's two calls stand around the first writer's one, and the third made none
abbrev pub three_writers_run : Recording
three_writers_run = record {
  version = 1;
  dictionary = row_message ∷ [];
  clocks = row_clock ∷ [];
  writers = (row_call 1 ∷ []) ∷ (row_call 2 ∷ row_call 3 ∷ []) ∷ [] ∷ [];
}

abbrev pub three_writers_text : List ℕ
three_writers_text =
    codes "nanolog-trace 1\n"
    ++ codes "message 0 NOTICE 12 \"srv.cc\" \"x=%d\"\n"
    ++ codes "clock 1000 1514764800000000000 2000000000\n"
    ++ codes "writers 3\n"
    ++ codes "call 1 1003 0 2\n"
    ++ codes "call 0 1003 0 1\n"
    ++ codes "call 1 1003 0 3\n"
    ++ codes "end\n"

-- the text of the dictionary of that run
abbrev pub dictionary_row : List ℕ
dictionary_row = codes "nanolog-trace 1\n" ++ codes "message 0 NOTICE 12 \"srv.cc\" \"x=%d\"\n"

-- three writers with calls of two messages; the second writer's first call is at the clock's tick
abbrev pub two_messages : Recording
two_messages = record three_writers_run {
  dictionary = row_message ∷ full_message ∷ [];
  writers = mixed_calls;
}

-- a call with a text in which each escape stands
abbrev pub text_call : WriterCall
text_call = record {
  writer = 3;
  call =
      record { stamp = 5; id = 2; args = Text (97 ∷ 34 ∷ 92 ∷ 10 ∷ 9 ∷ 254 ∷ []) ∷ Unsigned 18446744073709551615 ∷ [] };
}

abbrev pub text_call_line : List ℕ
text_call_line = codes "call 3 5 2 \"a\\\"\\\\\\n\\t\\xFe\" 18446744073709551615"

-- a run of two writers, of which the first made one call; the second message takes two texts
abbrev pub begun_run : Recording
begun_run =
    record three_writers_run { dictionary = row_message ∷ texts_message ∷ []; writers = (row_call 1 ∷ []) ∷ [] ∷ [] }

-- the cause from which the line is refused in that run
abbrev pub refused : List ℕ → TraceCause → Type 0
refused line cause = call_at begun_run line ≡ Err cause

-- a text of so many letters, behind its space
abbrev pub letters_text : ℕ → List ℕ
letters_text n = 32 ∷ 34 ∷ replicate n 97 ++ 34 ∷ []

-- a line of a call with two texts of so many letters each, which goes on with that run, and its call
abbrev pub texts_line : ℕ → ℕ → List ℕ
texts_line n m = codes "call 0 1003 1" ++ letters_text n ++ letters_text m

abbrev pub texts_made : ℕ → ℕ → WriterCall
texts_made n m = record {
  writer = 0;
  call = record { stamp = 1003; id = 1; args = Text (replicate n 97) ∷ Text (replicate m 97) ∷ [] };
}

-- a run of one writer who made so many calls
abbrev pub many_calls : ℕ → Recording
many_calls n = record two_messages { writers = replicate n (row_call 1) ∷ [] }

-- ---- runs as they are written

-- the text that is written of the run of three writers: the first writer's call stands first
abbrev pub three_writers_canonical : List ℕ
three_writers_canonical =
    codes "nanolog-trace 1\n"
    ++ codes "message 0 NOTICE 12 \"srv.cc\" \"x=%d\"\n"
    ++ codes "clock 1000 1514764800000000000 2000000000\n"
    ++ codes "writers 3\n"
    ++ codes "call 0 1003 0 1\n"
    ++ codes "call 1 1003 0 2\n"
    ++ codes "call 1 1003 0 3\n"
    ++ codes "end\n"

-- a run of one writer before its first call, whose message takes one text
abbrev pub one_text_run : Recording
one_text_run = record three_writers_run {
  dictionary =
      record row_message {
        format = record { bytes = codes "%s"; pieces = Field (record plain_d { conversion = S }) ∷ [] };
      } ∷ [];
  writers = [] ∷ [];
}

-- a call of it with a letter, another one and a line feed
abbrev pub one_text_call : WriterCall
one_text_call = record { writer = 0; call = record { stamp = 1003; id = 0; args = Text (97 ∷ 65 ∷ 10 ∷ []) ∷ [] } }

-- ---- a run of two clocks

-- one writer's call behind the second clock's tick
abbrev pub two_clocks_run : Recording
two_clocks_run = record {
  version = 2;
  dictionary = row_message ∷ [];
  clocks =
      row_clock ∷ record { tick = 2000; nanos = 1514764801000000000; rate = 1000000000 } ∷ [];
  writers = (record { stamp = 2003; id = 0; args = Signed (pos 7) ∷ [] } ∷ []) ∷ [];
}

abbrev pub two_clocks_text : List ℕ
two_clocks_text =
    codes "nanolog-trace 2\n"
    ++ codes "message 0 NOTICE 12 \"srv.cc\" \"x=%d\"\n"
    ++ codes "clock 1000 1514764800000000000 2000000000\n"
    ++ codes "clock 2000 1514764801000000000 1000000000\n"
    ++ codes "writers 1\n"
    ++ codes "call 0 2003 0 7\n"
    ++ codes "end\n"
