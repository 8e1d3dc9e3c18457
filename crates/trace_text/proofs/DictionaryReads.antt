-- A reader of the text of a dictionary, line by line.
use Rattle.std.proofs.Common.{◌≡◌, ◌≢◌, ℕ, ◌+◌, ◌≤◌, true, false, eqb, List, [], ◌∷◌, ◌++◌, length, All, Err, Ok, refl, sym, ap, subst, ◌∙◌, inl, inr, append_assoc, append-nil, arith}
use Rattle.std.specs.Prelude.{codes}
use Rattle.std.proofs.lemmas.Bool.{eqb-true}
use Rattle.std.proofs.lemmas.List.{length-append, nil_from_length}
use Rattle.std.proofs.lemmas.List.Elements.{recursion_from_All}
use Rattle.log_dictionary.specs.declared.message.Message.{Message}
use Rattle.log_dictionary.specs.declared.dictionary.LineFault.{LineFault}
use Rattle.log_dictionary.specs.declared.dictionary.LineFault.TheVariants as faults
use Rattle.log_dictionary.specs.Additions.{ReadsLine}
use Rattle.log_dictionary.specs.Fields.{IsFirstSplit}
use Rattle.log_dictionary.specs.Messages.{SpellsMessage}
use Rattle.log_dictionary.proofs.lemmas.Distinct.{still_distinct}
use Rattle.trace_text.specs.declared.cause.TraceCause.{TraceCause}
use Rattle.trace_text.specs.declared.cause.TraceCause.TheVariants as causes
use Rattle.trace_text.specs.declared.lines.Lines.{Lines}
use Rattle.trace_text.specs.declared.reading.TraceFault.{TraceFault}
use Rattle.trace_text.specs.declared.reading.TraceFault.TheVariants.{Refused}
use Rattle.trace_text.specs.declared.trace.TheConstants.{MAX_TRACE}
use Rattle.trace_text.specs.Dictionaries.{dictionary_line, SpellsDictionary, DictionaryText, IsRefusedBehind, LacksFirstLine, DictionaryBreak}
use Rattle.trace_text.specs.LineFields.{begins_with}
use Rattle.trace_text.specs.Lines.{SpellsMessages}
use Rattle.trace_text.specs.Progress.{message_fault}
use Rattle.trace_text.specs.Reading.{IsOneLine}
use Rattle.trace_text.specs.TraceReading.{IsAnswerTo}
use Rattle.trace_text.proofs.CanonicalLaws.{lines_follow}
use Rattle.trace_text.proofs.MessageSteps.{breaks_as}
use Rattle.trace_text.proofs.OneLines.{dictionary_is_line}
use Rattle.trace_text.proofs.OneOutcome.{feed_inside, same_first}

-- ---- one message more

spells-push : (n : ℕ) (lines : List (List ℕ)) (messages : List Message) (line : List ℕ) (message : Message) → SpellsMessages n lines messages → SpellsMessage line (n + length messages) message → SpellsMessages n (lines ++ line ∷ []) (messages ++ message ∷ [])
spells-push n [] [] line message spells last = let same : n + 0 ≡ n = omega arith in (subst (λ (id : ℕ). SpellsMessage line id message) same last, tt)
spells-push n (text ∷ lines) (first ∷ messages) line message spells last =
    let same : n + length (first ∷ messages) ≡ n + 1 + length messages = omega arith in
    (spells.0, spells-push (n + 1) lines messages line message spells.1 (subst (λ (id : ℕ). SpellsMessage line id message) same last))
spells-push n [] (first ∷ messages) line message spells last = absurd spells
spells-push n (text ∷ lines) [] line message spells last = absurd spells

pub spelled_more : (front line : List ℕ) (before after : List Message) → SpellsDictionary front before → ReadsLine before line after (Ok tt) → SpellsDictionary (front ++ (line ++ 10 ∷ [])) after
spelled_more front line before after spells (message, new, room, is) =
    subst (SpellsDictionary (front ++ (line ++ 10 ∷ []))) (sym is) (record {
      message_lines = spells.message_lines ++ line ∷ [];
      whole = ap (λ (f : List ℕ). f ++ (line ++ 10 ∷ [])) spells.whole ∙ sym (lines_follow (dictionary_line ∷ spells.message_lines) (line ∷ []));
      messages_spelled = let same : length before ≡ 0 + length before = omega arith in spells-push 0 spells.message_lines before line message spells.messages_spelled (subst (λ (id : ℕ). SpellsMessage line id message) same new.spelled);
      distinct = still_distinct before message spells.distinct new.new;
      few_messages = omega (arith, length-append before (message ∷ []), room);
    })

-- ---- how far the reader has come

-- the messages of the text up to these lines
pub record ReadTo (text : List ℕ) (messages : List Message) (lines : Lines) : Type 0 where
  pub front : List ℕ
  pub parted : text ≡ front ++ lines.bytes.now
  pub spelled : SpellsDictionary front messages
  pub numbered : lines.number ≡ 2 + length messages

pub read_none : (text : List ℕ) (messages : List Message) (lines : Lines) → messages ≡ [] → text ≡ dictionary_line ++ 10 ∷ lines.bytes.now → lines.number ≡ 2 → ReadTo text messages lines
read_none text messages lines none begun second =
    subst (λ (m : List Message). ReadTo text m lines) (sym none) (record {
      front = dictionary_line ++ 10 ∷ [];
      parted = begun;
      spelled = record { message_lines = []; whole = refl; messages_spelled = tt; distinct = λ i j d earlier within. absurd (omega (arith, within)); few_messages = omega arith };
      numbered = second;
    })

pub read_more : (text : List ℕ) (before after : List Message) (lines rest : Lines) (line : List ℕ) → ReadTo text before lines → IsFirstSplit 10 lines.bytes.now line rest.bytes.now → rest.number ≡ lines.number + 1 → ReadsLine before line after (Ok tt)
    → ReadTo text after rest
read_more text before after lines rest line was split next read = record {
  front = was.front ++ (line ++ 10 ∷ []);
  parted = was.parted ∙ ap (λ (b : List ℕ). was.front ++ b) (split.parts ∙ sym (append_assoc line (10 ∷ []) rest.bytes.now)) ∙ sym (append_assoc was.front (line ++ 10 ∷ []) rest.bytes.now);
  spelled = spelled_more was.front line before after was.spelled read;
  numbered = omega (arith, next, was.numbered, ap length read.3, length-append before (read.0 ∷ []));
}

-- ---- what it answers

pub refused_there : (text : List ℕ) (messages : List Message) (lines : Lines) (cause : TraceCause) → length text ≤ MAX_TRACE → ReadTo text messages lines → IsRefusedBehind messages lines.bytes.now cause → DictionaryBreak text lines.number cause
refused_there text messages lines cause short was refused = inr (short, inr (record { front = was.front; rest = lines.bytes.now; messages = messages; parted = was.parted; spelled = was.spelled; refused = refused; line_is = was.numbered }))

pub other_line : (text : List ℕ) (messages : List Message) (lines : Lines) (line behind : List ℕ) → length text ≤ MAX_TRACE → ReadTo text messages lines → IsFirstSplit 10 lines.bytes.now line behind → begins_with (codes "message ") line ≡ false
    → DictionaryBreak text lines.number causes.Message
other_line text messages lines line behind short was split other = refused_there text messages lines causes.Message short was (inl (line, behind, split, inr (other, refl)))

pub no_more : (text : List ℕ) (messages after : List Message) (lines : Lines) (line behind : List ℕ) (fault : LineFault) → length text ≤ MAX_TRACE → ReadTo text messages lines → IsFirstSplit 10 lines.bytes.now line behind → begins_with (codes "message ") line ≡ true
    → ReadsLine messages line after (Err fault) → IsAnswerTo (DictionaryText text) (DictionaryBreak text) (Err (message_fault lines.number fault))
no_more text messages after lines line behind faults.TooMany short was split begun read = refused_there text messages lines causes.TooMany short was (inl (line, behind, split, inl (breaks_as messages after line faults.TooMany begun read)))
no_more text messages after lines line behind faults.BadEntry short was split begun read = refused_there text messages lines causes.Message short was (inl (line, behind, split, inl (breaks_as messages after line faults.BadEntry begun read)))
no_more text messages after lines line behind faults.Order short was split begun read = refused_there text messages lines causes.Message short was (inl (line, behind, split, inl (breaks_as messages after line faults.Order begun read)))
no_more text messages after lines line behind faults.NoMemory short was split begun read = tt

some_left : (bytes : List ℕ) → eqb (length bytes) 0 ≡ false → 1 ≤ length bytes
some_left [] some = absurd cc
some_left (byte ∷ bytes) some = omega arith

pub last_line_cut : (text : List ℕ) (messages : List Message) (lines : Lines) → length text ≤ MAX_TRACE → ReadTo text messages lines → All (λ byte. byte ≢ 10) lines.bytes.now → eqb (length lines.bytes.now) 0 ≡ false
    → DictionaryBreak text lines.number causes.Message
last_line_cut text messages lines short was none some = refused_there text messages lines causes.Message short was (inr (some_left lines.bytes.now some, recursion_from_All (λ byte. byte ≢ 10) lines.bytes.now none, refl))

pub all_read : (text : List ℕ) (messages : List Message) (lines : Lines) → length text ≤ MAX_TRACE → ReadTo text messages lines → eqb (length lines.bytes.now) 0 ≡ true → DictionaryText text messages
all_read text messages lines short was none =
    let whole : text ≡ was.front = was.parted ∙ ap (λ (b : List ℕ). was.front ++ b) (nil_from_length lines.bytes.now (eqb-true _ _ none)) ∙ append-nil was.front in
    (short, subst (λ (b : List ℕ). SpellsDictionary b messages) (sym whole) was.spelled)

-- the fault tells the refusal
pub told_as : (text : List ℕ) (fault : TraceFault) (line : ℕ) (cause : TraceCause) → fault ≡ Refused line cause → DictionaryBreak text line cause → IsAnswerTo {A = List Message} (DictionaryText text) (DictionaryBreak text) (Err fault)
told_as text fault line cause is refused = subst (λ (f : TraceFault). IsAnswerTo {A = List Message} (DictionaryText text) (DictionaryBreak text) (Err f)) (sym is) refused

-- ---- the first line

pub lacks_unended : (bytes : List ℕ) → IsOneLine bytes → LacksFirstLine bytes
lacks_unended bytes unended rest is = feed_inside dictionary_line rest (subst IsOneLine is unended)

pub lacks_other : (bytes line behind : List ℕ) → bytes ≡ line ++ 10 ∷ behind → IsOneLine line → line ≢ dictionary_line → LacksFirstLine bytes
lacks_other bytes line behind whole one other rest is = other (same_first line dictionary_line behind rest one dictionary_is_line (sym whole ∙ is)).0
