-- Texts that stand at the front of bytes.
use Rattle.std.proofs.Common.{◌≡◌, ℕ, ◌+◌, ◌<◌, ◌≤◌, Bool, true, List, [], ◌∷◌, ◌++◌, length, refl, sym, subst, ap, ◌∙◌, inl, inr, arith}
use Rattle.std.proofs.lemmas.Bool.{cases_lt}
use Rattle.std.proofs.lemmas.List.{append-nil}
use Rattle.source_tokens.specs.Splices.{past_splices}
use Rattle.source_tokens.specs.Reading.{ReadsUnspliced, IsLongest}
use Rattle.source_tokens.proofs.Splicing.{length-past}

-- what stands behind a text goes on with it
pub reads-append : (bytes text middle more rest : List ℕ) → ReadsUnspliced bytes text middle → ReadsUnspliced middle more rest → ReadsUnspliced bytes (text ++ more) rest
unfolding ReadsUnspliced
reads-append bytes [] middle more rest here there = subst (λ (front : List ℕ). ReadsUnspliced front more rest) (sym here) there
reads-append [] (first ∷ text) middle more rest here there = here
reads-append (byte ∷ bytes) (first ∷ text) middle more rest here there = (here.0, reads-append (past_splices bytes) text middle more rest here.1 there)

-- a text with one more byte
pub reads-push : (bytes text : List ℕ) (byte : ℕ) (behind : List ℕ) → ReadsUnspliced bytes text (byte ∷ behind) → ReadsUnspliced bytes (text ++ byte ∷ []) (past_splices behind)
unfolding ReadsUnspliced
reads-push bytes text byte behind here = reads-append bytes text (byte ∷ behind) (byte ∷ []) (past_splices behind) here (refl, refl)

-- a text that is no shorter begins with the shorter one
pub reads-longer : (bytes text rest longer behind : List ℕ) → ReadsUnspliced bytes text rest → ReadsUnspliced bytes longer behind → length text ≤ length longer → (more : List ℕ) × (longer ≡ text ++ more) × ReadsUnspliced rest more behind
unfolding ReadsUnspliced
reads-longer bytes [] rest longer behind short long le = (longer, refl, subst (λ (front : List ℕ). ReadsUnspliced front longer behind) short long)
reads-longer [] (first ∷ text) rest longer behind short long le = absurd short
reads-longer (byte ∷ bytes) (first ∷ text) rest [] behind short long le = absurd (omega arith)
reads-longer (byte ∷ bytes) (first ∷ text) rest (other ∷ longer) behind short long le =
    let found = reads-longer (past_splices bytes) text rest longer behind short.1 long.1 (omega arith) in
    let same : other ≡ first = cc in
    (found.0, cc, found.2)

-- what was read is no longer part of the rest
pub reads-length : (bytes text rest : List ℕ) → ReadsUnspliced bytes text rest → length text + length rest ≤ length bytes
unfolding ReadsUnspliced
reads-length bytes [] rest here = omega (arith, ap length here)
reads-length [] (first ∷ text) rest here = absurd here
reads-length (byte ∷ bytes) (first ∷ text) rest here = omega (arith, reads-length (past_splices bytes) text rest here.1, length-past bytes)

-- the form doesn't go on behind the text with what follows
abbrev pub Stops : (List ℕ → Bool) → List ℕ → List ℕ → Type 0
Stops form text rest = (byte : ℕ) (more behind : List ℕ) → ReadsUnspliced rest (byte ∷ more) behind → form (text ++ byte ∷ more) ≡ true → ⊥

-- then no longer text is of the form
none_longer : (form : List ℕ → Bool) (text rest longer more behind : List ℕ) → Stops form text rest → longer ≡ text ++ more → ReadsUnspliced rest more behind → form longer ≡ true → length text < length longer → ⊥
none_longer form text rest longer [] behind stops same reads right lt = omega (arith, simp append-nil at (ap length same))
none_longer form text rest longer (byte ∷ more) behind stops same reads right lt = stops byte more behind reads (rw same at right)

-- a text is the longest of its form if the form doesn't go on with what follows
pub longest-stops : (form : List ℕ → Bool) (bytes text rest : List ℕ) → ReadsUnspliced bytes text rest → form text ≡ true → Stops form text rest → IsLongest form bytes text rest
longest-stops form bytes text rest reads right stops = record {
  reads = reads;
  of_form = right;
  longest = λ longer behind read ok.
      elim (cases_lt (length text) (length longer)) [
        | inl lt ↦
            let found = reads-longer bytes text rest longer behind reads read (omega arith) in
            absurd (none_longer form text rest longer found.0 behind stops found.1 found.2 ok lt)
        | inr ge ↦ ge
      ];
}

-- nothing stands behind all bytes
pub reads-nothing : (byte : ℕ) (more behind : List ℕ) → ReadsUnspliced [] (byte ∷ more) behind → ⊥
unfolding ReadsUnspliced
reads-nothing byte more behind here = here

-- the first byte of a text is that of the bytes, and the text goes on behind its splices
pub reads-first : (first : ℕ) (bytes : List ℕ) (byte : ℕ) (more behind : List ℕ) → ReadsUnspliced (first ∷ bytes) (byte ∷ more) behind → (first ≡ byte) × ReadsUnspliced (past_splices bytes) more behind
unfolding ReadsUnspliced
reads-first first bytes byte more behind here = here

pub reads-none : (bytes : List ℕ) → ReadsUnspliced bytes [] bytes
unfolding ReadsUnspliced
reads-none bytes = refl

pub reads-more : (byte : ℕ) (bytes text rest : List ℕ) → ReadsUnspliced (past_splices bytes) text rest → ReadsUnspliced (byte ∷ bytes) (byte ∷ text) rest
unfolding ReadsUnspliced
reads-more byte bytes text rest here = (refl, here)

-- what stands behind a text is what stands behind its first part, less the other
pub reads-rest : (bytes text middle more rest : List ℕ) → ReadsUnspliced bytes text middle → ReadsUnspliced bytes (text ++ more) rest → ReadsUnspliced middle more rest
unfolding ReadsUnspliced
reads-rest bytes [] middle more rest here there = subst (λ (front : List ℕ). ReadsUnspliced front more rest) here there
reads-rest [] (first ∷ text) middle more rest here there = absurd here
reads-rest (byte ∷ bytes) (first ∷ text) middle more rest here there = reads-rest (past_splices bytes) text middle more rest here.1 there.1

-- one text has one rest
pub reads-once : (bytes text rest other : List ℕ) → ReadsUnspliced bytes text rest → ReadsUnspliced bytes text other → rest ≡ other
unfolding ReadsUnspliced
reads-once bytes [] rest other here there = sym here ∙ there
reads-once [] (first ∷ text) rest other here there = absurd here
reads-once (byte ∷ bytes) (first ∷ text) rest other here there = reads-once (past_splices bytes) text rest other here.1 there.1
