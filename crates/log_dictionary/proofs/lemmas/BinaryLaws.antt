-- What is read of an entry, and its spelling.
use Rattle.std.proofs.Common.{◌≡◌, ◌⊎◌, ℕ, ◌+◌, ◌<◌, ◌≤◌, ◌^◌, Bool, true, false, eqb, List, [], ◌∷◌, ◌++◌, length, take, drop, Result, Ok, Err, refl, sym, ap, subst, ◌∙◌, inl, inr, arith, append_assoc}
use Rattle.std.specs.Prelude.{nat_le, ◌&&◌, if◌then◌else◌}
use Rattle.std.specs.Hash.{le_bytes}
use Rattle.std.proofs.lemmas.Bool.{cases_lt, le-leb, leb-true, eqb-true, and_parts, and_from}
use Rattle.std.proofs.lemmas.List.{take_at, drop_at, length-append}
use Rattle.nibble_pack.specs.Bytes.{AreBytes}
use Rattle.nibble_pack.specs.Parsing.{IsSteady}
use Rattle.nibble_pack.proofs.lemmas.Parsing.{given}
use Rattle.nibble_pack.proofs.lemmas.Steady.{stays_broken}
use Rattle.nibble_pack.proofs.lemmas.Formats.{IsFormat, then_format, tested_then, made_format, judged_format, respelled, byte_format, number_format, many_format, one_spelling as spelling_is_one, spelling_not_broken, front_of_spelling_is_cut}
use Rattle.printf_grammar.specs.Pieces.{Parsed}
use Rattle.printf_grammar.specs.Spelling.{Spells}
use Rattle.printf_grammar.proofs.lemmas.Total.{SpellsOrBreaks, one_holds}
use Rattle.printf_grammar.proofs.lemmas.Unique.{spells_once, never_both}
use Rattle.log_dictionary.specs.declared.severity.Severity.{Severity}
use Rattle.log_dictionary.specs.declared.severity.Severity.TheVariants.{Error, Warning, Notice, Debug}
use Rattle.log_dictionary.specs.declared.message.TheConstants.{MAX_FILE_NAME}
use Rattle.log_dictionary.specs.declared.message.Message.{Message}
use Rattle.log_dictionary.specs.declared.binary_entry.EntryCause.{EntryCause}
use Rattle.log_dictionary.specs.declared.binary_entry.EntryCause.TheVariants.{Cut, BadEntry}
use Rattle.log_dictionary.specs.Severities.{severity_number}
use Rattle.log_dictionary.specs.Messages.{SameMessage}
use Rattle.log_dictionary.specs.BinaryEntries.{RawEntry, entry_head_bytes, text_bytes, raw_entry_bytes, raw_of, entry_bytes, IsInRange, SpellsEntry, BeginsWithEntry}
use Rattle.log_dictionary.specs.EntryReading.{severity_of, severity_at, sized_text_at, fields_at, message_made, message_of, entry_at}
use Rattle.log_dictionary.proofs.lemmas.SameMessages.{same_message}
use Rattle.log_dictionary.proofs.BinaryNumbers.{two_long, four_long}

-- ---- numbers

-- fronts of one length are one front
pub same_fronts : (a b r q : List ℕ) → length a ≡ length b → a ++ r ≡ b ++ q → (a ≡ b) × (r ≡ q)
same_fronts a b r q long e = (
  sym (take_at a r (length b) long) ∙ ap (take (length b)) e ∙ take_at b q (length b) refl,
  sym (drop_at a r (length b) long) ∙ ap (drop (length b)) e ∙ drop_at b q (length b) refl,
)

-- ---- parts of an entry

-- an entry, nested to the right
nested : (raw : RawEntry) → raw_entry_bytes raw ≡ entry_head_bytes raw.severity raw.line ++ (text_bytes raw.file ++ text_bytes raw.format)
nested raw = append_assoc (entry_head_bytes raw.severity raw.line) (text_bytes raw.file) (text_bytes raw.format)

pub raw_length : (raw : RawEntry) → length (raw_entry_bytes raw) ≡ 9 + length raw.file + length raw.format
raw_length raw =
    let head : List ℕ = entry_head_bytes raw.severity raw.line in omega (
      arith,
      four_long raw.line,
      two_long (length raw.file),
      two_long (length raw.format),
      length-append (le_bytes 2 (length raw.file)) raw.file,
      length-append (le_bytes 2 (length raw.format)) raw.format,
      length-append head (text_bytes raw.file),
      length-append (head ++ text_bytes raw.file) (text_bytes raw.format),
    )

-- the place behind a text with its length
pub after_text : (at : ℕ) (text : List ℕ) → at + length (text_bytes text) ≡ at + 2 + length text
after_text at text = omega (arith, two_long (length text), length-append (le_bytes 2 (length text)) text)

-- ---- fields

severity_again : (severity : Severity) → severity_of (severity_number severity) ≡ Ok severity
severity_again Error = refl
severity_again Warning = refl
severity_again Notice = refl
severity_again Debug = refl

severity_is : (n : ℕ) (severity : Severity) → severity_of n ≡ Ok severity → n ≡ severity_number severity
severity_is n severity is = by_tests (eqb n 1) (eqb n 2) (eqb n 3) (eqb n 4) refl refl refl refl is
  where
    named : (s : Severity) → ◌≡◌ {A = Result Severity EntryCause} (Ok s) (Ok severity) → severity_number s ≡ severity_number severity
    named s e = ap severity_number cc

    by_tests : (one two three four : Bool) → eqb n 1 ≡ one → eqb n 2 ≡ two → eqb n 3 ≡ three → eqb n 4 ≡ four
        → (if one then Ok Error else if two then Ok Warning else if three then Ok Notice else if four then Ok Debug else Err BadEntry) ≡ Ok severity → n ≡ severity_number severity
    by_tests true two three four e f g h is = eqb-true n 1 e ∙ named Error is
    by_tests false true three four e f g h is = eqb-true n 2 f ∙ named Warning is
    by_tests false false true four e f g h is = eqb-true n 3 g ∙ named Notice is
    by_tests false false false true e f g h is = eqb-true n 4 h ∙ named Debug is
    by_tests false false false false e f g h is = absurd cc

severity_format : IsFormat Cut (λ severity front. front ≡ severity_number severity ∷ []) severity_at
severity_format =
    respelled (judged_format severity_of (byte_format Cut))
    (λ severity front small (byte, is, judged). is ∙ ap (λ (b : ℕ). b ∷ []) (severity_is byte severity judged))
    (λ severity front is. (severity_number severity, is, severity_again severity))

text_format : (least most : ℕ) → most < 2 ^ 16 → IsFormat Cut (λ text front. (front ≡ text_bytes text) × (least ≤ length text) × (length text ≤ most)) (sized_text_at least most)
text_format least most fits =
    respelled (tested_then (λ len. nat_le least len && nat_le len most) BadEntry (number_format 2 Cut) (λ len is. many_format len Cut))
    (λ text front small (len, first, back, joined, (few, is), (within, (long, same))).
    let both = and_parts (nat_le least len) (nat_le len most) within in
    let least_is = leb-true least len both.0 in
    let most_is = leb-true len most both.1 in
    (joined ∙ (λ t. (is ∙ ap (le_bytes 2) (sym long)) t ++ same t), omega (arith, long, least_is), omega (arith, long, most_is)))
    (λ text front (is, long, short). (length text, _, _, is, (omega (arith, short, fits), refl), (and_from _ _ (le-leb least (length text) long) (le-leb (length text) most short), (refl, refl))))

abbrev fields_of : Severity → ℕ → List ℕ → List ℕ → RawEntry
fields_of severity line file format = record { severity = severity; line = line; file = file; format = format }

-- fields in range are read, and those that are read are in range
pub fields_format : IsFormat Cut (λ raw front. (front ≡ raw_entry_bytes raw) × IsInRange raw) fields_at
fields_format =
    respelled (then_format severity_format (λ severity. then_format (number_format 4 Cut) (λ line. then_format (text_format 1 255 (omega arith)) (λ file.
    made_format (λ format. fields_of severity line file format) (text_format 0 4095 (omega arith))))))
    (λ raw front small (severity, a, b, ab, first, (line, c, d, cd, second, (file, e, f, ef, third, (format, last, made)))).
    subst (λ (r : RawEntry). (front ≡ raw_entry_bytes r) × IsInRange r) made (
      ab ∙ (λ t. first t ++ (cd ∙ (λ u. second.1 u ++ (ef ∙ (λ v. third.0 v ++ last.0 v)) u)) t) ∙ sym (nested (fields_of severity line file format)),
      record { line_fits = second.0; named = third.1; short_name = third.2; short_format = last.2 },
    ))
    (λ raw front (is, right). (raw.severity, _, _, is ∙ nested raw, refl, (raw.line, _, _, refl, (right.line_fits, refl), (raw.file, _, _, refl, (refl, right.named, right.short_name), (raw.format, (refl, omega arith, right.short_format), refl)))))

-- ---- messages

same_formats : (a b : Parsed) → a.bytes ≡ b.bytes → a.pieces ≡ b.pieces → a ≡ b
same_formats a b bytes pieces = rw (bytes, pieces) refl

-- a message is made of its own fields
made_again : (message : Message) → Spells message.format.bytes message.format.pieces → (format : SpellsOrBreaks message.format.bytes) (named : (length message.file < 1) ⊎ (1 ≤ length message.file)) (short : (MAX_FILE_NAME < length message.file) ⊎ (length message.file ≤ MAX_FILE_NAME))
    → message_made (raw_of message) format named short ≡ Ok message
made_again message formed (inl (pieces, spelled)) (inr named) (inr short) =
    ap Ok (same_message _ message refl refl refl (same_formats _ message.format refl (spells_once message.format.bytes pieces message.format.pieces spelled formed)))
made_again message formed (inl (pieces, spelled)) (inl none) short = absurd (omega (arith, none, message.file_length.0))
made_again message formed (inl (pieces, spelled)) (inr named) (inl long) = absurd (omega (arith, long, message.file_length.1))
made_again message formed (inr (cause, place, breaks)) named short = absurd (never_both message.format.bytes message.format.pieces cause place formed breaks)

pub message_again : (message : Message) → Spells message.format.bytes message.format.pieces → message_of (raw_of message) ≡ Ok message
message_again message formed = made_again message formed (one_holds message.format.bytes) (cases_lt (length message.file) 1) (cases_lt MAX_FILE_NAME (length message.file))

made_taken : (raw : RawEntry) (message : Message) (format : SpellsOrBreaks raw.format) (named : (length raw.file < 1) ⊎ (1 ≤ length raw.file)) (short : (MAX_FILE_NAME < length raw.file) ⊎ (length raw.file ≤ MAX_FILE_NAME))
    → message_made raw format named short ≡ Ok message → (raw ≡ raw_of message) × Spells message.format.bytes message.format.pieces
made_taken raw message (inl (pieces, spelled)) (inr named) (inr short) e =
    let made : Message = record { file = raw.file; line = raw.line; severity = raw.severity; format = record { bytes = raw.format; pieces = pieces }; file_length = (named, short) } in
    let same : made ≡ message = (given true Cut made message e).1 in
    (ap raw_of same, subst (λ (m : Message). Spells m.format.bytes m.format.pieces) same spelled)
made_taken raw message (inl (pieces, spelled)) (inl none) short e = absurd cc
made_taken raw message (inl (pieces, spelled)) (inr named) (inl long) e = absurd cc
made_taken raw message (inr breaks) named short e = absurd cc

-- ---- entries

pub entry_in_range : (bytes : List ℕ) (message : Message) → SpellsEntry bytes message → IsInRange (raw_of message)
entry_in_range bytes message spelled = record { line_fits = spelled.line_fits; named = message.file_length.0; short_name = message.file_length.1; short_format = spelled.formed.short }

pub entry_format : IsFormat Cut (λ message front. SpellsEntry front message) entry_at
entry_format =
    respelled (judged_format message_of fields_format)
    (λ message front small (raw, (is, right), judged).
    let made = made_taken raw message (one_holds raw.format) (cases_lt (length raw.file) 1) (cases_lt MAX_FILE_NAME (length raw.file)) judged in
    record { spelled = is ∙ ap raw_entry_bytes made.0; line_fits = subst (λ (r : RawEntry). r.line < 2 ^ 32) made.0 right.line_fits; formed = made.1 })
    (λ message front spelled. (raw_of message, (spelled.spelled, entry_in_range front message spelled), message_again message spelled.formed))

-- an entry is read as its message, whatever stands behind it
pub entry_again : (message : Message) (front rest : List ℕ) → SpellsEntry front message → entry_at (front ++ rest) ≡ Ok (message, rest)
entry_again = entry_format.again

-- what was read is spelled so
pub entry_taken : (message : Message) (bytes rest : List ℕ) → AreBytes bytes → entry_at bytes ≡ Ok (message, rest) → (front : List ℕ) × (bytes ≡ front ++ rest) × SpellsEntry front message
entry_taken message bytes rest small e = entry_format.taken bytes message rest small e

pub steady_entry : IsSteady Cut entry_at
steady_entry = entry_format.steady

-- bytes that don't begin with fields begin with no entry
pub no_fields : (bytes : List ℕ) (cause : EntryCause) → fields_at bytes ≡ Err cause → entry_at bytes ≡ Err cause
no_fields bytes cause none = rw none refl

-- an entry of the file and of the format that were read takes no more bytes than there are
pub entry_within : (bytes rest : List ℕ) (raw : RawEntry) (file format : List ℕ) (len : ℕ) → AreBytes bytes → fields_at bytes ≡ Ok (raw, rest) → file ≡ raw.file → format ≡ raw.format
    → len ≡ length (raw_entry_bytes (record { severity = raw.severity; line = raw.line; file = file; format = format })) → len ≤ length bytes
entry_within bytes rest raw file format len small fields of_file of_format len_is =
    let is : raw ≡ record { severity = raw.severity; line = raw.line; file = file; format = format } = rw (of_file, of_format) refl in
    let (front, parts, (spelled, range)) = fields_format.taken bytes raw rest small fields in
    omega (arith, len_is, ap (λ (r : RawEntry). length (raw_entry_bytes r)) is, ap length parts, length-append front rest, ap length spelled)

-- the message that was made of the fields
pub entry_made : (bytes rest : List ℕ) (raw : RawEntry) (message : Message) (len : ℕ) → AreBytes bytes → fields_at bytes ≡ Ok (raw, rest) → message.severity ≡ raw.severity → message.line ≡ raw.line → message.file ≡ raw.file → message.format.bytes ≡ raw.format
    → Spells raw.format message.format.pieces → len ≡ length (entry_bytes message) → entry_at bytes ≡ Ok (message, drop len bytes)
entry_made bytes rest raw message len small fields severity line file format formed len_is =
    let is : raw ≡ raw_of message = rw (severity, line, file, format) refl in
    let own : Spells message.format.bytes message.format.pieces = subst (λ (f : List ℕ). Spells f message.format.pieces) (sym format) formed in
    let (front, joined, (spelled, range)) = fields_format.taken bytes raw rest small fields in
    let parts : bytes ≡ entry_bytes message ++ rest = joined ∙ ap (λ (b : List ℕ). b ++ rest) (spelled ∙ ap raw_entry_bytes is) in
    let behind : drop len bytes ≡ rest = ap (drop len) parts ∙ drop_at (entry_bytes message) rest len (sym len_is) in
    rw (fields, is, message_again message own, behind) refl

-- ---- one entry

-- bytes begin with one entry, of one message
pub one_entry : (front other rest other_rest : List ℕ) (a b : Message) → SpellsEntry front a → SpellsEntry other b → front ++ rest ≡ other ++ other_rest → (a ≡ b) × (front ≡ other)
one_entry front other rest other_rest a b first second e = spelling_is_one entry_format a b front other rest other_rest first second e

pub one_spelling : (front other rest other_rest : List ℕ) (a b : Message) → SpellsEntry front a → SpellsEntry other b → front ++ rest ≡ other ++ other_rest → (front ≡ other) × SameMessage a b
one_spelling front other rest other_rest a b first second e =
    let one = one_entry front other rest other_rest a b first second e in (
      one.1,
      record {
        file = ap (λ (m : Message). m.file) one.0;
        line = ap (λ (m : Message). m.line) one.0;
        severity = ap (λ (m : Message). m.severity) one.0;
        format = ap (λ (m : Message). m.format.bytes) one.0;
      },
    )

pub begins_with_one : (bytes : List ℕ) (cause : EntryCause) → BeginsWithEntry bytes → entry_at bytes ≡ Err cause → ⊥
begins_with_one bytes cause begins none = spelling_not_broken entry_format bytes begins.message begins.rest cause (begins.front, begins.joined, begins.entry) none

-- one of the three holds
pub entry_cases : (bytes : List ℕ) → AreBytes bytes → (entry_at bytes ≡ Err Cut) ⊎ (entry_at bytes ≡ Err BadEntry) ⊎ BeginsWithEntry bytes
entry_cases bytes small = by_read (entry_at bytes) refl
  where
    by_read : (read : Result (Message × List ℕ) EntryCause) → entry_at bytes ≡ read → (entry_at bytes ≡ Err Cut) ⊎ (entry_at bytes ≡ Err BadEntry) ⊎ BeginsWithEntry bytes
    by_read (Ok pair) e = let taken = entry_taken pair.0 bytes pair.1 small e in inr (inr (record { message = pair.0; front = taken.0; rest = pair.1; joined = taken.1; entry = taken.2 }))
    by_read (Err Cut) e = inl e
    by_read (Err BadEntry) e = inr (inl e)

-- each proper front of an entry is cut off
pub front_of_entry_is_cut : (front more : List ℕ) (message : Message) → SpellsEntry (front ++ more) message → 1 ≤ length more → entry_at front ≡ Err Cut
front_of_entry_is_cut front more message whole some = front_of_spelling_is_cut entry_format front more message whole some

-- what is wrong stays wrong
pub stays_bad : (bytes more : List ℕ) → entry_at bytes ≡ Err BadEntry → entry_at (bytes ++ more) ≡ Err BadEntry
stays_bad bytes more bad = stays_broken Cut BadEntry entry_at bytes more entry_format.steady (λ e. cc) bad
