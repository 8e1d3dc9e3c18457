-- Headers that are read from a source.
use Rattle.std.proofs.Common.{◌≡◌, ℕ, ◌-◌, ◌≤◌, List, [], ◌∷◌, ◌++◌, length, get_or, take, drop, true, Result, Ok, Err, refl, sym, ap, subst, ◌∙◌, eq-eqb, arith}
use Rattle.std.proofs.lemmas.Bool.{le-leb}
use Rattle.std.proofs.lemmas.List.{take_all}
use Rattle.nibble_pack.specs.Parsing.{Parse, ◌>>=◌, first_byte, low_first, these_bytes}
use Rattle.nl_io.specs.Content.{Told}
use Rattle.checkpoint_io.specs.declared.cause.Cause.{Cause}
use Rattle.checkpoint_io.specs.declared.cause.Cause.TheVariants as causes
use Rattle.checkpoint_io.specs.declared.fault.BlockFault.{BlockFault}
use Rattle.checkpoint_io.specs.declared.header.Header.{Header}
use Rattle.checkpoint_io.specs.Versions.{is_known, writer_len, most_writers}
use Rattle.checkpoint_io.specs.Reading.{header_rate_at, header_nanos_at, header_clock_at, header_writers_at, header_version_at, header_letters_at}
use Rattle.checkpoint_io.specs.Places.{LogPlace, StandsBetween, Refuses, ReadsAs}
use Rattle.checkpoint_io.proofs.ReadingForms.{version_again, byte_taken}
use Rattle.checkpoint_io.proofs.StepLaws.{refused_then, refused_first, answers_then, answers_behind}

-- where it is cut off behind the tick, and behind the nanoseconds
pub nanos_refused : (version writers tick : ℕ) (from mid : LogPlace) (left : Told) (fault : BlockFault) → StandsBetween (low_first 8 causes.Cut) tick from mid → Refuses (low_first 8 causes.Cut) mid left fault → Refuses (header_clock_at version writers) from left fault
nanos_refused version writers tick from mid left fault ticks refused =
    refused_then (low_first 8 causes.Cut) (λ tick. header_nanos_at version writers tick.0 tick.1) tick from mid left fault ticks
    (refused_first (low_first 8 causes.Cut) (λ nanos. header_rate_at version writers tick nanos.0 nanos.1) mid left fault refused)

pub rate_refused : (version writers tick nanos : ℕ) (from first mid : LogPlace) (left : Told) (fault : BlockFault) → StandsBetween (low_first 8 causes.Cut) tick from first → StandsBetween (low_first 8 causes.Cut) nanos first mid → Refuses (header_rate_at version writers tick nanos) mid left fault → Refuses (header_clock_at version writers) from left fault
rate_refused version writers tick nanos from first mid left fault ticks of_nanos refused =
    refused_then (low_first 8 causes.Cut) (λ tick. header_nanos_at version writers tick.0 tick.1) tick from first left fault ticks
    (refused_then (low_first 8 causes.Cut) (λ nanos. header_rate_at version writers tick nanos.0 nanos.1) nanos first mid left fault of_nanos refused)

pub writers_answer : (r : Result Header BlockFault) (version len n : ℕ) (from mid to : LogPlace) (left : Told) → len ≡ writer_len version → 1 ≤ n → n ≤ most_writers version → StandsBetween (low_first len causes.Cut) n from mid → ReadsAs (header_clock_at version n) mid to left r → ReadsAs (header_writers_at version) from to left r
writers_answer r version len n from mid to left is some few stands answers =
    answers_then r (low_first (writer_len version) causes.Cut) _ (header_clock_at version n) n from mid to left
    (subst (λ (k : ℕ). StandsBetween (low_first k causes.Cut) n from mid) is stands)
    (λ rest. rw (le-leb 1 n some, le-leb n (most_writers version) few) refl) answers

pub version_answer : (r : Result Header BlockFault) (version : ℕ) (from mid to : LogPlace) (left : Told) → is_known version ≡ true → StandsBetween (first_byte causes.Cut) version from mid → ReadsAs (header_writers_at version) mid to left r → ReadsAs header_version_at from to left r
version_answer r version from mid to left known stands answers =
    answers_then r (first_byte causes.Cut) _ (header_writers_at version) version from mid to left stands (λ rest. version_again version rest known) answers

abbrev behind_letter : ℕ → List ℕ × List ℕ → Parse Cause (List ℕ)
behind_letter letter behind = Ok (letter ∷ behind.0, behind.1)

letter_on : (letter : ℕ) (letters rest : List ℕ) → header_letters_at (letter ∷ letters) (letter ∷ rest) ≡ header_letters_at letters rest
letter_on letter letters rest = rw (eq-eqb letter letter refl) (joined (these_bytes causes.BadMagic causes.Cut letters rest))
  where
    joined : (read : Parse Cause (List ℕ)) → (read >>= behind_letter letter >>= (λ magic. header_version_at magic.1)) ≡ (read >>= (λ magic. header_version_at magic.1))
    joined (Ok found) = refl
    joined (Err cause) = refl

-- the first of the letters, and the others
pub letters_answer : (r : Result Header BlockFault) (letters : List ℕ) (byte : ℕ) (from mid to : LogPlace) (left : Told) → 1 ≤ length letters → byte ≡ get_or letters 0 0 → StandsBetween (first_byte causes.Cut) byte from mid → ReadsAs (header_letters_at (take (length letters - 1) (drop 1 letters))) mid to left r → ReadsAs (header_letters_at letters) from to left r
letters_answer r [] byte from mid to left some is stands answers = absurd (omega (arith, some))
letters_answer r (letter ∷ letters) byte from mid to left some is stands answers =
    let all : take (length (letter ∷ letters) - 1) letters ≡ letters = take_all (length (letter ∷ letters) - 1) letters (omega arith) in
    answers_behind r (header_letters_at (letter ∷ letters)) (header_letters_at (take (length (letter ∷ letters) - 1) letters)) stands.front from mid to left
    (λ rest. ap (header_letters_at (letter ∷ letters)) (byte_taken (stands.front ++ rest) rest byte (stands.found rest) ∙ ap (λ (b : ℕ). b ∷ rest) is) ∙ letter_on letter letters rest ∙ ap (λ (l : List ℕ). header_letters_at l rest) (sym all)) stands.passes answers
