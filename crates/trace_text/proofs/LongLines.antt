-- Calls with long texts, and runs and dictionaries that are full.
use Rattle.std.proofs.Common.{◌≡◌, ◌≢◌, ℕ, zero, suc, ◌+◌, ◌/◌, ◌<◌, ◌≤◌, lit<, lit≤, true, false, List, [], ◌∷◌, ◌++◌, length, get_or, replicate, Option, Result, Ok, Err, refl, sym, ap, ◌∙◌, append_assoc, inl, arith}
use Rattle.std.specs.Prelude.{codes, Some, nat_lt, sum_by}
use Rattle.std.specs.Fmt.{digits}
use Rattle.std.specs.Option.{ok_or}
use Rattle.std.proofs.lemmas.Bool.{lt-ltb, le-leb, le-ltb}
use Rattle.std.proofs.lemmas.List.{append-nil, length-replicate}
use Rattle.std.proofs.lemmas.List.Sums.{sum_by-cons}
use Rattle.printf_grammar.specs.declared.argument.Value.{Value}
use Rattle.printf_grammar.specs.declared.argument.Value.TheVariants.{Text}
use Rattle.printf_grammar.specs.declared.arg_type.ArgType.TheVariants as types
use Rattle.printf_grammar.specs.declared.limits.TheConstants.{MAX_TEXT}
use Rattle.printf_grammar.proofs.lemmas.Worked.{all_copies}
use Rattle.log_dictionary.specs.declared.clock.Clock.{Clock}
use Rattle.log_dictionary.specs.declared.clocks.TheConstants.{MAX_CLOCKS}
use Rattle.log_dictionary.specs.declared.message.Message.{Message}
use Rattle.log_dictionary.specs.Clocks.{FitsClock, last_tick}
use Rattle.log_dictionary.specs.Texts.{IsPlain, SpellsText, has_nul}
use Rattle.log_dictionary.specs.Additions.{SpellsNew}
use Rattle.log_dictionary.proofs.lemmas.TextLaws.{opens_read}
use Rattle.arg_records.specs.declared.frame.TheConstants.{MAX_FRAME_WORDS}
use Rattle.arg_records.specs.Frames.{FrameLen}
use Rattle.arg_records.specs.Rows.{row_call, full_message}
use Rattle.arg_records.proofs.lemmas.Fitted.{copies_are_text}
use Rattle.trace_text.specs.declared.cause.TraceCause.{TraceCause}
use Rattle.trace_text.specs.declared.cause.TraceCause.TheVariants.{TooMany, TooManyClocks, CallForm, ArgKind, TooLong}
use Rattle.trace_text.specs.declared.trace.TheConstants.{MAX_CALLS}
use Rattle.trace_text.specs.Recordings.{Recording}
use Rattle.trace_text.specs.Lines.{last_line, clock_line, SpellsArgumentFields, SpellsCall}
use Rattle.trace_text.specs.LineFields.{CallHead, head_at}
use Rattle.trace_text.specs.CallReading.{◌>>=◌, Item, last_stamp, item_behind, item_at, checked_text, arguments_at, call_at}
use Rattle.trace_text.specs.CallReading.Item.{text}
use Rattle.trace_text.specs.Reading as parts
use Rattle.trace_text.specs.Reading.{Follows, Breaks}
use Rattle.trace_text.specs.Rows.{begun_run, letters_text, texts_line, texts_made, many_calls}
use Rattle.trace_text.proofs.Worked.{high, plain_text}
use Rattle.trace_text.proofs.lemmas.RecordingLaws.{row_is_call, calls_recorded}
use Rattle.trace_text.proofs.ArgumentLines.{arguments_read}
use Rattle.trace_text.proofs.CallLines.{head_read, call_read}
use Rattle.trace_text.proofs.Arguments.{with_value, with_item}
use Rattle.trace_text.proofs.CallSteps.{with_args, with_head}
use Rattle.trace_text.proofs.HeadLines.{later_read, is_later}
use Rattle.trace_text.proofs.NextMessages.{message_begins}

-- ---- long texts

abbrev two_texts : ℕ → ℕ → List Value
two_texts n m = Text (replicate n 97) ∷ Text (replicate m 97) ∷ []

abbrev texts_head : ℕ → ℕ → CallHead
texts_head n m = record { writer = 0; stamp = 1003; id = 1; fields = letters_text n ++ letters_text m }

spelled : (n : ℕ) → SpellsText (replicate n 97) (replicate n 97)
spelled n = plain_text (replicate n 97) (all_copies IsPlain 97 n (high 97 (lit≤ tt) (lit≤ tt)))

both_spelled : (n m : ℕ) → SpellsArgumentFields (letters_text n ++ letters_text m) (two_texts n m)
both_spelled n m = (34 ∷ replicate n 97 ++ 34 ∷ [], letters_text m, refl, (replicate n 97, refl, spelled n), (34 ∷ replicate m 97 ++ 34 ∷ [], [], sym (append-nil (letters_text m)), (replicate m 97, refl, spelled m), refl))

-- the line up to its arguments is right
head_is : (n m : ℕ) → head_at (texts_line n m) ≡ Some (texts_head n m)
unfolding digits
head_is n m = head_read (texts_head n m) (record { writer = lit< tt; stamp = lit< tt; id = lit< tt; ends = refl })

begun : (n m : ℕ) → call_at begun_run (texts_line n m) ≡ (arguments_at (types.Text ∷ types.Text ∷ []) (letters_text n ++ letters_text m) >>= with_args (texts_head n m))
begun n m = ap (λ (o : Option CallHead). ok_or o CallForm >>= with_head begun_run) (head_is n m)

-- two texts that are short enough are read
both_read : (n m : ℕ) → n ≤ 4000 → m ≤ 4000 → arguments_at (types.Text ∷ types.Text ∷ []) (letters_text n ++ letters_text m) ≡ Ok (two_texts n m)
both_read n m first second = arguments_read (types.Text ∷ types.Text ∷ []) (letters_text n ++ letters_text m) (two_texts n m) (both_spelled n m) (copies_are_text n first, (copies_are_text m second, tt))

frame_is : (n m : ℕ) → FrameLen (two_texts n m) ≡ 4 + (n + 7) / 8 + (m + 7) / 8
frame_is n m = omega (arith, ap (λ (k : ℕ). (k + 7) / 8) (length-replicate {A = ℕ} n 97), ap (λ (k : ℕ). (k + 7) / 8) (length-replicate {A = ℕ} m 97))

pub short_frame : (n m : ℕ) → n ≤ 4000 → m ≤ 4000 → 4 + (n + 7) / 8 + (m + 7) / 8 ≤ 512 → call_at begun_run (texts_line n m) ≡ Ok (texts_made n m)
short_frame n m first second short =
    begun n m ∙ rw (both_read n m first second, le-ltb MAX_FRAME_WORDS (FrameLen (two_texts n m)) (omega (arith, frame_is n m, short))) refl

pub long_frame : (n m : ℕ) → n ≤ 4000 → m ≤ 4000 → 512 < 4 + (n + 7) / 8 + (m + 7) / 8 → call_at begun_run (texts_line n m) ≡ Err TooLong
long_frame n m first second long =
    begun n m ∙ rw (both_read n m first second, lt-ltb MAX_FRAME_WORDS (FrameLen (two_texts n m)) (omega (arith, frame_is n m, long))) refl

no_nul : (n : ℕ) → has_nul (replicate n 97) ≡ false
no_nul zero = refl
no_nul (suc n) = no_nul n

-- the first text, which ends before a space
first_item : (n : ℕ) (rest : List ℕ) → item_at (34 ∷ replicate n 97 ++ 34 ∷ 32 ∷ rest) ≡ Some (text (replicate n 97), 32 ∷ rest)
first_item n rest =
    let bytes = 34 ∷ replicate n 97 ++ 34 ∷ 32 ∷ rest in
    ap (item_behind bytes) (opens_read bytes (replicate n 97) (32 ∷ rest) (record { spelled = replicate n 97; whole = refl; spells = spelled n }))

long_value : (n : ℕ) → 4000 < n → checked_text (replicate n 97) ≡ Err TooLong
long_value n long =
    let bytes : List ℕ = replicate n 97 in
    let more : nat_lt MAX_TEXT (length bytes) ≡ true = lt-ltb MAX_TEXT (length bytes) (omega (arith, length-replicate {A = ℕ} n 97, long)) in
    rw (no_nul n, more) refl

pub long_text : (n m : ℕ) → 4000 < n → call_at begun_run (texts_line n m) ≡ Err TooLong
long_text n m long =
    begun n m
    ∙ ap (λ (args : Result (List Value) TraceCause). args >>= with_args (texts_head n m)) (
    ap (λ (bytes : List ℕ). arguments_at (types.Text ∷ types.Text ∷ []) (32 ∷ bytes)) (append_assoc (34 ∷ replicate n 97) (34 ∷ []) (letters_text m))
    ∙ ap (λ (item : Option (Item × List ℕ)). ok_or item ArgKind >>= with_item types.Text (types.Text ∷ [])) (first_item n (34 ∷ replicate m 97 ++ 34 ∷ []))
    ∙ ap (λ (value : Result Value TraceCause). value >>= with_value (types.Text ∷ []) (letters_text m)) (long_value n long)
    )

-- ---- full runs

last_of_copies : (least n : ℕ) → least ≤ 1003 → last_stamp least (replicate n (row_call 1)) ≤ 1003
last_of_copies least zero within = within
last_of_copies least (suc n) within = last_of_copies 1003 n (lit≤ tt)

call_spelled : SpellsCall (codes "call 0 1003 0 2") (record { writer = 0; call = row_call 2 })
unfolding digits
call_spelled = record { fields = codes " 2"; spelled = refl; arguments = (codes "2", [], refl, refl, refl); stamp_fits = lit< tt }

pub last_call : (n : ℕ) → n < 4194304 → call_at (many_calls n) (codes "call 0 1003 0 2") ≡ Ok (record { writer = 0; call = row_call 2 })
last_call n room =
    call_read (many_calls n) (codes "call 0 1003 0 2") (record { writer = 0; call = row_call 2 }) (calls_recorded n (omega (arith, room))) (lit≤ tt) call_spelled
    (record {
      few = omega (arith, sum_by-cons length (replicate n (row_call 1)) [], length-replicate n (row_call 1), room);
      calls = replicate n (row_call 1);
      known = refl;
      risen = last_of_copies 1000 n (lit≤ tt);
      is_call = row_is_call (full_message ∷ []) 2 (lit≤ tt);
    })

no_last_line : (fields : List ℕ) → codes "call " ++ fields ≢ last_line
no_last_line fields e = let wrong : ◌≡◌ {A = ℕ} 99 101 = ap (λ (line : List ℕ). get_or line 0 0) e in omega arith

pub one_call_more : (run : Recording) (fields : List ℕ) → 4194304 ≤ sum_by length run.writers → Breaks (parts.calls run) (codes "call " ++ fields) TooMany
one_call_more run fields full = (no_last_line fields, rw (le-leb MAX_CALLS (sum_by length run.writers) full) refl)

pub last_message : (before : List Message) (line : List ℕ) (message : Message) → length before < 65536 → SpellsNew before line (length before) message → (version : ℕ) → Follows (parts.messages version before) line (parts.messages version (before ++ message ∷ []))
last_message before line message room new version = inl (message_begins line (length before) message new.spelled, room, (message, new, refl))

pub last_clock : (messages : List Message) (times : List Clock) (clock : Clock) → length times < 256 → last_tick times < clock.tick → 1 ≤ clock.rate → FitsClock clock → Follows (parts.clocks 2 messages times) (clock_line clock) (parts.clocks 2 messages (times ++ clock ∷ []))
last_clock messages times clock room above ticks fits = inl (is_later clock, (clock, later_read times clock room above fits ticks, refl))

pub one_clock_more : (messages : List Message) (times : List Clock) (fields : List ℕ) → 256 ≤ length times → Breaks (parts.clocks 2 messages times) (codes "clock " ++ fields) TooManyClocks
one_clock_more messages times fields full = inl (refl, rw (le-leb MAX_CLOCKS (length times) full) refl)
