-- Every text is that of a dictionary or is refused, and the text that is written of messages is theirs.
use Rattle.std.proofs.Common.{◌≡◌, ◌≢◌, ◌⊎◌, ℕ, ◌+◌, ◌<◌, ◌≤◌, Bool, true, false, ltb, List, [], ◌∷◌, ◌++◌, length, refl, sym, ap, subst, ◌∙◌, inl, inr, append_assoc, append-nil, arith}
use Rattle.std.specs.Prelude.{codes, map}
use Rattle.std.specs.Fmt.{digits}
use Rattle.std.specs.List.{AllByRecursion}
use Rattle.std.proofs.lemmas.Bool.{ltb-true, ltb-false}
use Rattle.std.proofs.lemmas.List.{length-append}
use Rattle.std.proofs.lemmas.List.Elements.{All-from_recursion}
use Rattle.log_dictionary.specs.declared.message.Message.{Message}
use Rattle.log_dictionary.specs.declared.dictionary.TheConstants.{MAX_MESSAGES}
use Rattle.log_dictionary.specs.Additions.{SpellsNew}
use Rattle.log_dictionary.specs.Canonical.{dictionary_text}
use Rattle.log_dictionary.proofs.lemmas.Lines.{none_by_test}
use Rattle.trace_text.specs.declared.cause.TraceCause.{TraceCause}
use Rattle.trace_text.specs.declared.cause.TraceCause.TheVariants as causes
use Rattle.trace_text.specs.declared.trace.TheConstants.{MAX_TRACE}
use Rattle.trace_text.specs.Canonical.{HaveMessageLines}
use Rattle.trace_text.specs.Dictionaries.{dictionary_line, SpellsDictionary, DictionaryText, BreaksDictionary, IsRefusedBehind, BreaksBehind, DictionaryBreak}
use Rattle.trace_text.specs.LineFields.{begins_with}
use Rattle.trace_text.specs.Lines.{first_line, last_line, clock_line, writers_line, text_of_lines}
use Rattle.trace_text.specs.Reading.{IsOneLine}
use Rattle.trace_text.specs.Recordings.{Recording}
use Rattle.trace_text.specs.Traces.{TraceText}
use Rattle.trace_text.proofs.CanonicalLaws.{lines_of, message_lines_are, lines_follow, spells_messages}
use Rattle.trace_text.proofs.Cuts.{CutOf, cut_of}
use Rattle.trace_text.proofs.DictionaryReads.{spelled_more, lacks_unended, lacks_other}
use Rattle.trace_text.proofs.OneLines.{joined}
use Rattle.trace_text.proofs.SomeOutcome.{same_or_other, some_new}
use Rattle.trace_text.proofs.SpelledRuns.{spelled_messages}

-- ---- one holds

abbrev Behind : List ℕ → Type 0
Behind bytes = ((messages : List Message) × SpellsDictionary bytes messages) ⊎ ((line : ℕ) × (cause : TraceCause) × BreaksBehind bytes line cause)

stops : (front : List ℕ) (messages : List Message) (rest : List ℕ) (cause : TraceCause) → SpellsDictionary front messages → IsRefusedBehind messages rest cause → Behind (front ++ rest)
stops front messages rest cause spells refused =
    inr (2 + length messages, cause, record { front = front; rest = rest; messages = messages; parted = refl; spelled = spells; refused = refused; line_is = refl })

-- the line is that of a message that follows, or is refused
judge_line : (before : List Message) (line : List ℕ) → ((message : Message) × SpellsNew before line (length before) message × (length before < MAX_MESSAGES)) ⊎ ((cause : TraceCause) × BreaksDictionary before line cause)
judge_line before line = begun (begins_with (codes "message ") line) refl
  where
    room : (b : Bool) → begins_with (codes "message ") line ≡ true → ltb (length before) MAX_MESSAGES ≡ b → ((message : Message) × SpellsNew before line (length before) message × (length before < MAX_MESSAGES)) ⊎ ((cause : TraceCause) × BreaksDictionary before line cause)
    room false begins full = inr (causes.TooMany, inl (begins, inl (ltb-false _ _ full, refl)))
    room true begins few = elim (some_new before line) [
      | inl found ↦ inl (found.0, found.1, ltb-true _ _ few)
      | inr none ↦ inr (causes.Message, inl (begins, inr (ltb-true _ _ few, none, refl)))
    ]

    begun : (b : Bool) → begins_with (codes "message ") line ≡ b → ((message : Message) × SpellsNew before line (length before) message × (length before < MAX_MESSAGES)) ⊎ ((cause : TraceCause) × BreaksDictionary before line cause)
    begun true begins = room (ltb (length before) MAX_MESSAGES) begins refl
    begun false other = inr (causes.Message, inr (other, refl))

-- what stands behind right lines
behind : (front : List ℕ) (messages : List Message) (lines : List (List ℕ)) (rest : List ℕ) → SpellsDictionary front messages → AllByRecursion IsOneLine lines → IsOneLine rest → Behind (front ++ (text_of_lines lines ++ rest))
behind front messages [] [] spells whole unended = inl (messages, subst (λ (bytes : List ℕ). SpellsDictionary bytes messages) (sym (append-nil front)) spells)
behind front messages [] (byte ∷ rest) spells whole unended = stops front messages (byte ∷ rest) causes.Message spells (inr (omega arith, unended, refl))
behind front messages (line ∷ lines) rest spells whole unended =
    let more = text_of_lines lines ++ rest in
    let there : text_of_lines (line ∷ lines) ++ rest ≡ line ++ 10 ∷ more = append_assoc line (10 ∷ text_of_lines lines) rest in
    let moved : (front ++ (line ++ 10 ∷ [])) ++ more ≡ front ++ (text_of_lines (line ∷ lines) ++ rest) = append_assoc front (line ++ 10 ∷ []) more ∙ ap (λ (b : List ℕ). front ++ b) (append_assoc line (10 ∷ []) more ∙ sym there) in
    elim (judge_line messages line) [
      | inl found ↦ subst Behind moved (behind (front ++ (line ++ 10 ∷ [])) (messages ++ found.0 ∷ []) lines rest (spelled_more front line messages _ spells (found.0, found.1, found.2, refl)) whole.1 unended)
      | inr refused ↦ stops front messages _ refused.0 spells (inl (line, more, record { parts = there; first = All-from_recursion (λ byte. byte ≢ 10) line whole.0 }, refused.1))
    ]

pub no_messages : SpellsDictionary (dictionary_line ++ 10 ∷ []) []
no_messages = record { message_lines = []; whole = refl; messages_spelled = tt; distinct = λ i j d earlier within. absurd (omega (arith, within)); few_messages = omega arith }

-- what a text is: that of messages, or refused
abbrev Outcome : List ℕ → Type 0
Outcome bytes = ((messages : List Message) × DictionaryText bytes messages) ⊎ ((line : ℕ) × (cause : TraceCause) × DictionaryBreak bytes line cause)

told_behind : (bytes : List ℕ) → length bytes ≤ MAX_TRACE → Behind bytes → Outcome bytes
told_behind bytes short (inl found) = inl (found.0, (short, found.1))
told_behind bytes short (inr broken) = inr (broken.0, broken.1, inr (short, inr broken.2))

from_first : (bytes line : List ℕ) (lines : List (List ℕ)) (rest : List ℕ) → length bytes ≤ MAX_TRACE → bytes ≡ text_of_lines (line ∷ lines) ++ rest → IsOneLine line → AllByRecursion IsOneLine lines → IsOneLine rest → (line ≡ dictionary_line) ⊎ (line ≢ dictionary_line) → Outcome bytes
from_first bytes line lines rest short joined one whole unended (inl same) =
    let first : (dictionary_line ++ 10 ∷ []) ++ (text_of_lines lines ++ rest) ≡ bytes = sym (joined ∙ append_assoc line (10 ∷ text_of_lines lines) rest ∙ ap (λ (l : List ℕ). l ++ 10 ∷ (text_of_lines lines ++ rest)) same) in
    told_behind bytes short (subst Behind first (behind (dictionary_line ++ 10 ∷ []) [] lines rest no_messages whole unended))
from_first bytes line lines rest short joined one whole unended (inr other) =
    inr (1, causes.Header, inr (short, inl (lacks_other bytes line (text_of_lines lines ++ rest) (joined ∙ append_assoc line (10 ∷ text_of_lines lines) rest) one other, refl, refl)))

told_by : (bytes : List ℕ) → length bytes ≤ MAX_TRACE → CutOf bytes → Outcome bytes
told_by bytes short found = by_lines found.lines refl
  where
    by_lines : (lines : List (List ℕ)) → found.lines ≡ lines → Outcome bytes
    by_lines [] none =
        let unended : IsOneLine bytes = subst IsOneLine (sym (found.cut.joined ∙ ap (λ (ls : List (List ℕ)). text_of_lines ls ++ found.rest) none)) found.cut.unended in
        inr (1, causes.Header, inr (short, inl (lacks_unended bytes unended, refl, refl)))
    by_lines (line ∷ lines) some =
        let whole = subst (AllByRecursion IsOneLine) some found.cut.whole in
        from_first bytes line lines found.rest short (found.cut.joined ∙ ap (λ (ls : List (List ℕ)). text_of_lines ls ++ found.rest) some) whole.0 whole.1 found.cut.unended (same_or_other line dictionary_line)

told_at : (bytes : List ℕ) (large : Bool) → ltb MAX_TRACE (length bytes) ≡ large → Outcome bytes
told_at bytes true large = inr (0, causes.TooLarge, inl (ltb-true _ _ large, refl, refl))
told_at bytes false small = told_by bytes (ltb-false _ _ small) (cut_of bytes)

pub dictionary_or_not : (bytes : List ℕ) → Outcome bytes
dictionary_or_not bytes = told_at bytes (ltb MAX_TRACE (length bytes)) refl

-- ---- what is written

pub written_reads : (messages : List Message) → HaveMessageLines messages → length (dictionary_text messages) ≤ MAX_TRACE → DictionaryText (dictionary_text messages) messages
written_reads messages have short = (
  short,
  record {
    message_lines = lines_of 0 messages;
    whole = ap (λ (bytes : List ℕ). codes "nanolog-trace 1\n" ++ bytes) (message_lines_are 0 messages);
    messages_spelled = spells_messages 0 messages (omega (arith, have.few)) have.lines;
    distinct = have.distinct;
    few_messages = have.few;
  },
)

-- what is read can be written
pub read_have_lines : (bytes : List ℕ) (messages : List Message) → DictionaryText bytes messages → HaveMessageLines messages
read_have_lines bytes messages text = record { distinct = text.1.distinct; few = text.1.few_messages; lines = spelled_messages 0 text.1.message_lines messages text.1.messages_spelled }

-- ---- traces

first_of_1 : first_line 1 ≡ dictionary_line
unfolding digits
first_of_1 = refl

-- the front of a trace of version 1 is the text of its dictionary
pub trace_front : (bytes : List ℕ) (run : Recording) → TraceText bytes run → run.version ≡ 1 → (front : List ℕ) × (rest : List ℕ) × (bytes ≡ front ++ rest) × DictionaryText front run.dictionary
trace_front bytes run text version =
    let behind : List (List ℕ) = map clock_line run.clocks ++ (writers_line (length run.writers) ∷ text.call_lines ++ last_line ∷ []) in
    let front = text_of_lines (dictionary_line ∷ text.message_lines) in
    let rest = text_of_lines behind in
    let first : first_line run.version ≡ dictionary_line = ap first_line version ∙ first_of_1 in
    let whole : bytes ≡ front ++ rest = text.whole ∙ ap (λ (line : List ℕ). text_of_lines (line ∷ text.message_lines ++ behind)) first ∙ lines_follow (dictionary_line ∷ text.message_lines) behind in
    let short : length front ≤ MAX_TRACE = omega (arith, text.short, ap length whole, length-append front rest) in
    (front, rest, whole, (short, record { message_lines = text.message_lines; whole = refl; messages_spelled = text.messages_spelled; distinct = text.distinct; few_messages = text.few_messages }))

-- ---- full dictionaries

pub one_too_many : (front fields behind : List ℕ) (messages : List Message) → SpellsDictionary front messages → length messages ≡ 65536 → IsOneLine fields → length (front ++ (codes "message " ++ fields ++ 10 ∷ behind)) ≤ 67108864
    → DictionaryBreak (front ++ (codes "message " ++ fields ++ 10 ∷ behind)) 65538 causes.TooMany
one_too_many front fields behind messages spells full one short =
    let rest = codes "message " ++ fields ++ 10 ∷ behind in
    let word = joined (codes "message ") fields (none_by_test 10 (codes "message ") refl) one in
    inr (
      short,
      inr (record {
        front = front;
        rest = rest;
        messages = messages;
        parted = refl;
        spelled = spells;
        refused = inl (codes "message " ++ fields, behind, record { parts = refl; first = All-from_recursion (λ byte. byte ≢ 10) (codes "message " ++ fields) word }, inl (refl, inl (omega (arith, full), refl)));
        line_is = omega (arith, full);
      }),
    )
