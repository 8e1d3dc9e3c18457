-- A text is that of one dictionary, or it is refused at one line from one cause.
use Rattle.std.proofs.Common.{◌≡◌, ◌≢◌, ◌⊎◌, ℕ, ◌+◌, List, [], ◌∷◌, ◌++◌, length, refl, sym, ap, subst, ◌∙◌, inl, inr, append_assoc, append-nil, arith}
use Rattle.std.proofs.lemmas.List.Elements.{recursion_from_All}
use Rattle.log_dictionary.specs.declared.message.Message.{Message}
use Rattle.log_dictionary.specs.Fields.{IsFirstSplit}
use Rattle.log_dictionary.specs.Messages.{SpellsMessage}
use Rattle.log_dictionary.proofs.lemmas.LineMessages.{one_message}
use Rattle.trace_text.specs.declared.cause.TraceCause.{TraceCause}
use Rattle.trace_text.specs.Dictionaries.{dictionary_line, SpellsDictionary, DictionaryText, BreaksDictionary, IsRefusedBehind, BreaksBehind, DictionaryBreak}
use Rattle.trace_text.specs.Lines.{text_of_lines}
use Rattle.trace_text.specs.Reading as parts
use Rattle.trace_text.specs.Reading.{IsOneLine}
use Rattle.trace_text.proofs.NextMessages.{message_begins, IsNext, NextMessages, next_messages}
use Rattle.trace_text.proofs.OneLines.{dictionary_is_line, message_is_line}
use Rattle.trace_text.proofs.OneOutcome.{feed_inside, same_first, one_cause}
use Rattle.trace_text.proofs.OnlyAnswers.{AreApart}

-- nothing stands there, or what stands there is refused
abbrev EndsHere : List Message → List ℕ → Type 0
EndsHere before rest = (rest ≡ []) ⊎ ((cause : TraceCause) × IsRefusedBehind before rest cause)

line_of_split : (bytes line behind : List ℕ) → IsFirstSplit 10 bytes line behind → IsOneLine line
line_of_split bytes line behind split = recursion_from_All (λ byte. byte ≢ 10) line split.first

some_feed : (line more : List ℕ) → line ++ 10 ∷ more ≢ []
some_feed [] more e = cc
some_feed (byte ∷ line) more e = cc

no_break : (before : List Message) (line : List ℕ) (message : Message) (cause : TraceCause) → IsNext before line message → ¬ (BreaksDictionary before line cause)
no_break before line message cause next (inl (begun, inl full)) = omega (arith, next.room, full.0)
no_break before line message cause next (inl (begun, inr none)) = none.1 message next.new
no_break before line message cause next (inr other) = let begun = message_begins line (length before) message next.new.spelled in absurd cc

-- the line of a message that follows is no end
goes_on : (before : List Message) (line : List ℕ) (message : Message) (more : List ℕ) → IsNext before line message → ¬ (EndsHere before (line ++ 10 ∷ more))
goes_on before line message more next (inl e) = some_feed line more e
goes_on before line message more next (inr (cause, inl (other, behind, split, breaks))) =
    let same = same_first line other more behind (message_is_line line (length before) message next.new.spelled) (line_of_split _ other behind split) split.parts in
    no_break before line message cause next (subst (λ (l : List ℕ). BreaksDictionary before l cause) (sym same.0) breaks)
goes_on before line message more next (inr (cause, inr (some, unended, is))) = feed_inside line more unended

-- from each message on there is one way
one_walk : (before : List Message) (a b : List (List ℕ)) (m n : List Message) (x y : List ℕ) → NextMessages before a m → NextMessages before b n → EndsHere (before ++ m) x → EndsHere (before ++ n) y → text_of_lines a ++ x ≡ text_of_lines b ++ y → (m ≡ n) × (x ≡ y)
one_walk before [] [] [] [] x y first second end other same = (refl, same)
one_walk before [] (line ∷ b) [] (message ∷ n) x y first second end other same =
    absurd (goes_on before line message (text_of_lines b ++ y) second.0 (subst (EndsHere before) (same ∙ append_assoc line (10 ∷ text_of_lines b) y) (subst (λ (all : List Message). EndsHere all x) (append-nil before) end)))
one_walk before (line ∷ a) [] (message ∷ m) [] x y first second end other same =
    absurd (goes_on before line message (text_of_lines a ++ x) first.0 (subst (EndsHere before) (sym same ∙ append_assoc line (10 ∷ text_of_lines a) x) (subst (λ (all : List Message). EndsHere all y) (append-nil before) other)))
one_walk before (line ∷ a) (text ∷ b) (message ∷ m) (found ∷ n) x y first second end other same =
    let id = length before in
    let parted = same_first line text (text_of_lines a ++ x) (text_of_lines b ++ y) (message_is_line line id message first.0.new.spelled) (message_is_line text id found second.0.new.spelled) (sym (append_assoc line (10 ∷ text_of_lines a) x) ∙ same ∙ append_assoc text (10 ∷ text_of_lines b) y) in
    let one : message ≡ found = (one_message text id id message found (subst (λ (l : List ℕ). SpellsMessage l id message) parted.0 first.0.new.spelled) second.0.new.spelled).1 in
    let next = before ++ message ∷ [] in
    let others = one_walk next a b m n x y first.1 (subst (λ (p : Message). NextMessages (before ++ p ∷ []) b n) (sym one) second.1)
    (subst (λ (all : List Message). EndsHere all x) (sym (append_assoc before (message ∷ []) m)) end)
    (subst (λ (all : List Message). EndsHere all y) (ap (λ (p : Message). before ++ p ∷ n) (sym one) ∙ sym (append_assoc before (message ∷ []) n)) other) parted.1 in
    (ap (λ (p : Message). p ∷ m) one ∙ ap (λ (ms : List Message). found ∷ ms) others.0, others.1)
one_walk before [] b (message ∷ m) n x y first second end other same = absurd first
one_walk before (line ∷ a) b [] n x y first second end other same = absurd first
one_walk before a [] m (message ∷ n) x y first second end other same = absurd second
one_walk before a (line ∷ b) m [] x y first second end other same = absurd second

-- ---- texts

-- the first line, lines of messages that follow one after the other, and what stands behind them
record Parsed (bytes : List ℕ) (messages : List Message) (rest : List ℕ) : Type 0 where
  lines : List (List ℕ)
  whole : bytes ≡ dictionary_line ++ 10 ∷ (text_of_lines lines ++ rest)
  next : NextMessages [] lines messages
  end : EndsHere messages rest

one_parse : (bytes : List ℕ) (m n : List Message) (x y : List ℕ) → Parsed bytes m x → Parsed bytes n y → (m ≡ n) × (x ≡ y)
one_parse bytes m n x y first second =
    let parted = same_first dictionary_line dictionary_line (text_of_lines first.lines ++ x) (text_of_lines second.lines ++ y) dictionary_is_line dictionary_is_line (sym first.whole ∙ second.whole) in
    one_walk [] first.lines second.lines m n x y first.next second.next first.end second.end parted.1

parsed : (bytes front rest : List ℕ) (messages : List Message) → bytes ≡ front ++ rest → SpellsDictionary front messages → EndsHere messages rest → Parsed bytes messages rest
parsed bytes front rest messages parted spells end = record {
  lines = spells.message_lines;
  whole = parted ∙ ap (λ (b : List ℕ). b ++ rest) spells.whole ∙ append_assoc dictionary_line (10 ∷ text_of_lines spells.message_lines) rest;
  next = next_messages [] spells.message_lines messages spells.messages_spelled spells.distinct spells.few_messages;
  end = end;
}

parsed_whole : (bytes : List ℕ) (messages : List Message) → SpellsDictionary bytes messages → Parsed bytes messages []
parsed_whole bytes messages spells = parsed bytes bytes [] messages (sym (append-nil bytes)) spells (inl refl)

parsed_break : (bytes : List ℕ) (line : ℕ) (cause : TraceCause) (broken : BreaksBehind bytes line cause) → Parsed bytes broken.messages broken.rest
parsed_break bytes line cause broken = parsed bytes broken.front broken.rest broken.messages broken.parted broken.spelled (inr (cause, broken.refused))

-- ---- one cause

one_break : (before : List Message) (line : List ℕ) (a b : TraceCause) → BreaksDictionary before line a → BreaksDictionary before line b → a ≡ b
one_break before line a b (inl first) (inl second) = one_cause (parts.messages 1 before) line a b (inl first) (inl second)
one_break before line a b (inl first) (inr second) = absurd cc
one_break before line a b (inr first) (inl second) = absurd cc
one_break before line a b (inr first) (inr second) = first.1 ∙ sym second.1

unended_line : (rest line behind : List ℕ) → IsFirstSplit 10 rest line behind → ¬ (IsOneLine rest)
unended_line rest line behind split unended = feed_inside line behind (subst IsOneLine split.parts unended)

one_refusal : (before : List Message) (rest : List ℕ) (a b : TraceCause) → IsRefusedBehind before rest a → IsRefusedBehind before rest b → a ≡ b
one_refusal before rest a b (inl (line, behind, split, first)) (inl (other, more, parted, second)) =
    let same = same_first line other behind more (line_of_split rest line behind split) (line_of_split rest other more parted) (sym split.parts ∙ parted.parts) in
    one_break before other a b (subst (λ (l : List ℕ). BreaksDictionary before l a) same.0 first) second
one_refusal before rest a b (inl (line, behind, split, first)) (inr second) = absurd (unended_line rest line behind split second.1)
one_refusal before rest a b (inr first) (inl (other, more, parted, second)) = absurd (unended_line rest other more parted first.1)
one_refusal before rest a b (inr first) (inr second) = first.2 ∙ sym second.2

nothing_refused : (before : List Message) (cause : TraceCause) → ¬ (IsRefusedBehind before [] cause)
nothing_refused before cause (inl (line, behind, split, breaks)) = some_feed line behind (sym split.parts)
nothing_refused before cause (inr (some, unended, is)) = omega (arith, some)

-- ---- one of a text

has_first_line : (bytes rest : List ℕ) (messages : List Message) → Parsed bytes messages rest → (behind : List ℕ) × (bytes ≡ dictionary_line ++ 10 ∷ behind)
has_first_line bytes rest messages parse = (text_of_lines parse.lines ++ rest, parse.whole)

one_value : (bytes : List ℕ) (a b : List Message) → DictionaryText bytes a → DictionaryText bytes b → a ≡ b
one_value bytes a b first second = (one_parse bytes a b [] [] (parsed_whole bytes a first.1) (parsed_whole bytes b second.1)).0

not_both : (bytes : List ℕ) (messages : List Message) (line : ℕ) (cause : TraceCause) → DictionaryText bytes messages → ¬ (DictionaryBreak bytes line cause)
not_both bytes messages line cause text (inl large) = omega (arith, text.0, large.0)
not_both bytes messages line cause text (inr (short, inl lacks)) = let found = has_first_line bytes [] messages (parsed_whole bytes messages text.1) in lacks.0 found.0 found.1
not_both bytes messages line cause text (inr (short, inr broken)) =
    let same = (one_parse bytes messages broken.messages [] broken.rest (parsed_whole bytes messages text.1) (parsed_break bytes line cause broken)).1 in
    nothing_refused broken.messages cause (subst (λ (rest : List ℕ). IsRefusedBehind broken.messages rest cause) (sym same) broken.refused)

both_behind : (bytes : List ℕ) (i j : ℕ) (a b : TraceCause) → BreaksBehind bytes i a → BreaksBehind bytes j b → (i ≡ j) × (a ≡ b)
both_behind bytes i j a b first second =
    let same = one_parse bytes first.messages second.messages first.rest second.rest (parsed_break bytes i a first) (parsed_break bytes j b second) in
    let moved = subst (λ (rest : List ℕ). IsRefusedBehind second.messages rest a) same.1 (subst (λ (m : List Message). IsRefusedBehind m first.rest a) same.0 first.refused) in
    (first.line_is ∙ ap (λ (m : List Message). 2 + length m) same.0 ∙ sym second.line_is, one_refusal second.messages second.rest a b moved second.refused)

one_line : (bytes : List ℕ) (i j : ℕ) (a b : TraceCause) → DictionaryBreak bytes i a → DictionaryBreak bytes j b → (i ≡ j) × (a ≡ b)
one_line bytes i j a b (inl first) (inl second) = (first.1 ∙ sym second.1, first.2 ∙ sym second.2)
one_line bytes i j a b (inl first) (inr second) = absurd (omega (arith, first.0, second.0))
one_line bytes i j a b (inr first) (inl second) = absurd (omega (arith, first.0, second.0))
one_line bytes i j a b (inr (short, inl first)) (inr (_, inl second)) = (first.1 ∙ sym second.1, first.2 ∙ sym second.2)
one_line bytes i j a b (inr (short, inl first)) (inr (_, inr second)) = let found = has_first_line bytes _ _ (parsed_break bytes j b second) in absurd (first.0 found.0 found.1)
one_line bytes i j a b (inr (short, inr first)) (inr (_, inl second)) = let found = has_first_line bytes _ _ (parsed_break bytes i a first) in absurd (second.0 found.0 found.1)
one_line bytes i j a b (inr (short, inr first)) (inr (_, inr second)) = both_behind bytes i j a b first second

pub dictionaries_apart : (bytes : List ℕ) → AreApart (DictionaryText bytes) (DictionaryBreak bytes)
dictionaries_apart bytes = record { one_value = one_value bytes; not_both = not_both bytes; one_refusal = one_line bytes }
