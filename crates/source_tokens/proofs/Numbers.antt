-- Numbers that are passed byte by byte.
use Rattle.std.proofs.Common.{◌≡◌, ℕ, ◌<◌, ◌≤◌, Bool, true, false, ◌&&◌, ◌||◌, ◌==◌, List, [], ◌∷◌, length, get_or, refl, ap, ◌∙◌, inl, inr, arith}
use Rattle.std.proofs.lemmas.Bool.{cases_Bool, eqb-true, and_parts}
use Rattle.std.proofs.Math.Bool.{and-false}
use Rattle.source_tokens.specs.Bytes.{is_number_byte, is_sign, is_exponent}
use Rattle.source_tokens.specs.Forms.{is_number_tail, first_passes}
use Rattle.source_tokens.specs.Splices.{past_splices}
use Rattle.source_tokens.specs.Reading.{ReadsUnspliced, EndsLongest}
use Rattle.source_tokens.proofs.lemmas.Texts.{reads-first, reads-nothing}
use Rattle.source_tokens.proofs.lemmas.Passing.{Passes, back_of, passes-front, ends-nothing, ends-front}

-- the byte goes on with a number, whatever follows
abbrev pub goes_on_alone : ℕ → ℕ → Bool
goes_on_alone before byte = is_number_byte byte || byte == 46 || (is_sign byte && is_exponent before)

byte_out : (before byte : ℕ) → goes_on_alone before byte ≡ true → (more : List ℕ) → is_number_tail before (byte ∷ more) ≡ is_number_tail byte more
unfolding is_number_tail
byte_out before byte on more = ap (λ b. (b || (byte == 39 && first_passes is_number_byte more)) && is_number_tail byte more) on

pub number-front : (first before : ℕ) (bytes rest : List ℕ) → Passes (is_number_tail first) (is_number_tail before) bytes rest → 1 ≤ length rest → goes_on_alone before (get_or rest 0 0) ≡ true → Passes (is_number_tail first) (is_number_tail (get_or rest 0 0)) bytes (past_splices (back_of rest))
number-front first before bytes rest passes some on = passes-front (is_number_tail first) (is_number_tail before) (is_number_tail (get_or rest 0 0)) bytes rest passes some (byte_out before (get_or rest 0 0) on)

-- what may follow behind a `'` of a number
abbrev pub behind_mark : List ℕ → Bool
behind_mark [] = false
behind_mark (byte ∷ more) = is_number_byte byte && is_number_tail byte more

mark_out : (before byte : ℕ) → byte ≡ 39 → (more : List ℕ) → is_number_tail before (byte ∷ more) ≡ behind_mark more
unfolding is_number_tail
mark_out before byte mark [] = rw mark refl
mark_out before byte mark (next ∷ more) = elim (cases_Bool (is_number_byte next)) [ inl is ↦ rw (mark, is) refl | inr isnt ↦ rw (mark, isnt) refl ]

digit_out : (byte : ℕ) → is_number_byte byte ≡ true → (more : List ℕ) → behind_mark (byte ∷ more) ≡ is_number_tail byte more
digit_out byte digit more = ap (λ b. b && is_number_tail byte more) digit

pub number-pair : (first before : ℕ) (bytes rest next : List ℕ) → next ≡ past_splices (back_of rest) → Passes (is_number_tail first) (is_number_tail before) bytes rest → 1 ≤ length rest → get_or rest 0 0 ≡ 39 → 1 ≤ length next → is_number_byte (get_or next 0 0) ≡ true
    → Passes (is_number_tail first) (is_number_tail (get_or next 0 0)) bytes (past_splices (back_of next))
number-pair first before bytes rest next next_is passes some mark more digit =
    let front : Passes (is_number_tail first) behind_mark bytes next = rw next_is (passes-front (is_number_tail first) (is_number_tail before) behind_mark bytes rest passes some (mark_out before (get_or rest 0 0) mark)) in
    passes-front (is_number_tail first) behind_mark (is_number_tail (get_or next 0 0)) bytes next front more (digit_out (get_or next 0 0) digit)

tail_nothing : (before : ℕ) → is_number_tail before [] ≡ true
unfolding is_number_tail
tail_nothing before = refl

pub number-nothing : (first before : ℕ) (bytes rest : List ℕ) → Passes (is_number_tail first) (is_number_tail before) bytes rest → length rest < 1 → EndsLongest (is_number_tail first) bytes rest
number-nothing first before bytes rest passes none = ends-nothing (is_number_tail first) (is_number_tail before) bytes rest passes (tail_nothing before) none

-- the byte is no `'`, or no letter, digit or `_` stands behind it
abbrev pub NoPair : ℕ → List ℕ → Type 0
NoPair byte next = byte ≡ 39 → 1 ≤ length next → is_number_byte (get_or next 0 0) ≡ true → ⊥

no_pair : (byte : ℕ) (next more behind : List ℕ) → NoPair byte next → ReadsUnspliced next more behind → (byte == 39 && first_passes is_number_byte more) ≡ false
no_pair byte next [] behind none reads = and-false (byte == 39)
no_pair byte [] (first ∷ more) behind none reads = absurd (reads-nothing first more behind reads)
no_pair byte (other ∷ next) (first ∷ more) behind none reads =
    let same : other ≡ first = (reads-first other next first more behind reads).0 in
    elim (cases_Bool (byte == 39 && is_number_byte first)) [
      | inl both ↦
          let parts = and_parts (byte == 39) (is_number_byte first) both in
          absurd (none (eqb-true byte 39 parts.0) (omega arith) (ap is_number_byte same ∙ parts.1))
      | inr neither ↦ neither
    ]

stops_out : (before byte : ℕ) (next more behind : List ℕ) → goes_on_alone before byte ≡ false → NoPair byte next → ReadsUnspliced next more behind → is_number_tail before (byte ∷ more) ≡ false
unfolding is_number_tail
stops_out before byte next more behind alone none reads =
    let pair : (byte == 39 && first_passes is_number_byte more) ≡ false = no_pair byte next more behind none reads in
    rw (alone, pair) refl

pub number-ends : (first before : ℕ) (bytes rest next : List ℕ) → next ≡ past_splices (back_of rest) → Passes (is_number_tail first) (is_number_tail before) bytes rest → 1 ≤ length rest → goes_on_alone before (get_or rest 0 0) ≡ false → NoPair (get_or rest 0 0) next → EndsLongest (is_number_tail first) bytes rest
number-ends first before bytes rest next next_is passes some alone none =
    ends-front (is_number_tail first) (is_number_tail before) bytes rest passes (tail_nothing before) some
    (λ more behind reads. stops_out before (get_or rest 0 0) next more behind alone none (rw next_is reads))
