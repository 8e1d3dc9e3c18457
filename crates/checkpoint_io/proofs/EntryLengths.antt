-- How long bytes are that end inside an entry.
use Rattle.std.proofs.Common.{◌≡◌, ◌⊎◌, inl, inr, ℕ, ◌+◌, ◌<◌, ◌≤◌, Bool, true, false, eqb, List, [], ◌∷◌, length, Result, Ok, Err, refl, ap, ◌∙◌, arith}
use Rattle.std.specs.Prelude.{nat_le, ◌&&◌, if◌then◌else◌}
use Rattle.std.proofs.lemmas.Bool.{cases_lt, leb-true, leb-false, and_parts}
use Rattle.std.proofs.lemmas.List.{length-drop}
use Rattle.nibble_pack.specs.Bytes.{number_of_bytes}
use Rattle.nibble_pack.specs.Parsing.{Parse, ◌>>=◌, provided, so_many, low_first}
use Rattle.log_dictionary.specs.declared.severity.Severity.{Severity}
use Rattle.log_dictionary.specs.declared.severity.Severity.TheVariants.{Error, Warning, Notice, Debug}
use Rattle.log_dictionary.specs.declared.message.TheConstants.{MAX_FILE_NAME}
use Rattle.log_dictionary.specs.declared.message.Message.{Message}
use Rattle.log_dictionary.specs.declared.binary_entry.EntryCause.{EntryCause}
use Rattle.log_dictionary.specs.declared.binary_entry.EntryCause.TheVariants.{Cut, BadEntry}
use Rattle.log_dictionary.specs.EntryReading.{severity_of, severity_at, sized_text_at, fields_at, message_made, message_of, entry_at}
use Rattle.log_dictionary.specs.BinaryEntries.{RawEntry}
use Rattle.printf_grammar.proofs.lemmas.Total.{SpellsOrBreaks, one_holds}

-- no more bytes than so many are read, and fewer are cut off
abbrev TookAtMost : {A : Type 0} → ℕ → List ℕ → Parse EntryCause A → Type 0
TookAtMost most bytes (Ok found) = length bytes ≤ most + length found.1
TookAtMost most bytes (Err cause) = cause ≡ Cut → length bytes < most

abbrev ReadsAtMost : {A : Type 0} → ℕ → (List ℕ → Parse EntryCause A) → Type 0
ReadsAtMost most read = (bytes : List ℕ) → TookAtMost most bytes (read bytes)

at_most_then : {A B : Type 0} (a b : ℕ) (read : List ℕ → Parse EntryCause A) (next : A × List ℕ → Parse EntryCause B) → ReadsAtMost a read → ((x : A) → ReadsAtMost b (λ bytes. next (x, bytes))) → ReadsAtMost (a + b) (λ bytes. read bytes >>= next)
at_most_then {A} {B} a b read next first second bytes = by_first (read bytes) (first bytes)
  where
    by_second : (rest : List ℕ) (behind : Parse EntryCause B) → length bytes ≤ a + length rest → TookAtMost b rest behind → TookAtMost (a + b) bytes behind
    by_second rest (Ok found) within more = omega (arith, within, more)
    by_second rest (Err cause) within more = λ e. let less = more e in omega (arith, within, less)

    by_first : (part : Parse EntryCause A) → TookAtMost a bytes part → TookAtMost (a + b) bytes (part >>= next)
    by_first (Ok found) within = by_second found.1 (next found) within (second found.0 found.1)
    by_first (Err cause) short = λ e. let less = short e in omega (arith, less)

at_most_many : (count most : ℕ) → count ≤ most → ReadsAtMost most (so_many count Cut)
at_most_many count most within bytes = by_test (nat_le count (length bytes)) refl
  where
    by_test : (test : Bool) → nat_le count (length bytes) ≡ test → TookAtMost most bytes (so_many count Cut bytes)
    by_test true e = rw e (omega (arith, length-drop count bytes, within))
    by_test false e = rw e (λ _. omega (arith, leb-false count (length bytes) e, within))

at_most_number : (count : ℕ) → ReadsAtMost (count + 0) (low_first count Cut)
at_most_number count = at_most_then count 0 (so_many count Cut) (λ front. Ok (number_of_bytes front.0, front.1)) (at_most_many count count (omega arith)) (λ front bytes. omega arith)

not_cut : (n : ℕ) → severity_of n ≡ Err Cut → ⊥
not_cut n e = by_tests (eqb n 1) (eqb n 2) (eqb n 3) (eqb n 4) e
  where
    by_tests : (one two three four : Bool) → ◌≡◌ {A = Result Severity EntryCause} (if one then Ok Error else if two then Ok Warning else if three then Ok Notice else if four then Ok Debug else Err BadEntry) (Err Cut) → ⊥
    by_tests true two three four e = cc
    by_tests false true three four e = cc
    by_tests false false true four e = cc
    by_tests false false false true e = cc
    by_tests false false false false e = cc

at_most_severity : ReadsAtMost 1 severity_at
at_most_severity [] = λ e. omega arith
at_most_severity (byte ∷ bytes) = by_number (severity_of byte) refl
  where
    by_number : (read : Result Severity EntryCause) → severity_of byte ≡ read → TookAtMost 1 (byte ∷ bytes) (read >>= (λ severity. Ok (severity, bytes)))
    by_number (Ok severity) e = omega arith
    by_number (Err cause) e = λ is. absurd (not_cut byte (e ∙ ap Err is))

at_most_text : (least most : ℕ) → ReadsAtMost (2 + 0 + most) (sized_text_at least most)
at_most_text least most = at_most_then (2 + 0) most (low_first 2 Cut) _ (at_most_number 2) (λ n bytes. by_test n bytes (nat_le least n && nat_le n most) refl)
  where
    by_test : (n : ℕ) (bytes : List ℕ) (test : Bool) → (nat_le least n && nat_le n most) ≡ test → (let len : ℕ × List ℕ = (n, bytes) in TookAtMost most bytes (provided test BadEntry len >>= (λ judged. so_many judged.0 Cut judged.1)))
    by_test n bytes true e = at_most_many n most (leb-true n most (and_parts (nat_le least n) (nat_le n most) e).1) bytes
    by_test n bytes false e = λ is. absurd cc

at_most_entry : ReadsAtMost (1 + ((4 + 0) + ((2 + 0 + 255) + ((2 + 0 + 4095) + 0)))) fields_at
at_most_entry =
    at_most_then 1 ((4 + 0) + ((2 + 0 + 255) + ((2 + 0 + 4095) + 0))) severity_at _ at_most_severity (λ severity.
    at_most_then (4 + 0) ((2 + 0 + 255) + ((2 + 0 + 4095) + 0)) (low_first 4 Cut) _ (at_most_number 4) (λ line.
    at_most_then (2 + 0 + 255) ((2 + 0 + 4095) + 0) (sized_text_at 1 255) _ (at_most_text 1 255) (λ file.
    at_most_then (2 + 0 + 4095) 0 (sized_text_at 0 4095) _ (at_most_text 0 4095) (λ format bytes. omega arith))))

no_message : (raw : RawEntry) (format : SpellsOrBreaks raw.format) (named : (length raw.file < 1) ⊎ (1 ≤ length raw.file)) (short : (MAX_FILE_NAME < length raw.file) ⊎ (length raw.file ≤ MAX_FILE_NAME)) → message_made raw format named short ≡ Err Cut → ⊥
no_message raw (inl spelled) (inr named) (inr short) e = cc
no_message raw (inl spelled) (inr named) (inl long) e = cc
no_message raw (inl spelled) (inl none) short e = cc
no_message raw (inr breaks) named short e = cc

abbrev and_left : List ℕ → Message → Parse EntryCause Message
and_left rest message = Ok (message, rest)

abbrev message_behind : RawEntry × List ℕ → Parse EntryCause Message
message_behind fields = message_of fields.0 >>= and_left fields.1

-- bytes that end inside an entry are fewer than the longest one has
pub cut_short : (bytes : List ℕ) → entry_at bytes ≡ Err Cut → length bytes < 4359
cut_short bytes cut = by_fields (fields_at bytes) (at_most_entry bytes) cut
  where
    by_message : (read : Result Message EntryCause) (rest : List ℕ) → (read >>= and_left rest) ≡ Err Cut → read ≡ Err Cut
    by_message (Ok message) rest e = absurd cc
    by_message (Err cause) rest e = let same : cause ≡ Cut = cc in ap Err same

    by_fields : (read : Parse EntryCause RawEntry) → TookAtMost 4359 bytes read → (read >>= message_behind) ≡ Err Cut → length bytes < 4359
    by_fields (Ok found) within e =
        absurd (no_message found.0 (one_holds found.0.format) (cases_lt (length found.0.file) 1) (cases_lt MAX_FILE_NAME (length found.0.file)) (by_message (message_of found.0) found.1 e))
    by_fields (Err cause) within e = within (let same : cause ≡ Cut = cc in same)
