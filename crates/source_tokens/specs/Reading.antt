-- What stands at the front of a source when its splices are removed.
use Rattle.std.specs.Prelude.{◌≡◌, ℕ, ◌≤◌, Bool, true, List, [], ◌∷◌, length}
use Rattle.source_tokens.specs.Splices.{past_splices}

-- the bytes begin with this text and the rest follows, if each byte of the text is taken with the splices behind it;
-- no splice stands at the front
unfoldable pub ReadsUnspliced : List ℕ → List ℕ → List ℕ → Type 0
ReadsUnspliced bytes [] rest = bytes ≡ rest
ReadsUnspliced [] (first ∷ text) rest = ⊥
ReadsUnspliced (byte ∷ bytes) (first ∷ text) rest = (byte ≡ first) × ReadsUnspliced (past_splices bytes) text rest

-- the text stands at the front, is of the form, and no longer text that stands there is
pub record IsLongest (form : List ℕ → Bool) (bytes text rest : List ℕ) : Type 0 where
  pub reads : ReadsUnspliced bytes text rest
  pub of_form : form text ≡ true
  pub longest : (longer behind : List ℕ) → ReadsUnspliced bytes longer behind → form longer ≡ true
      → length longer ≤ length text

-- the rest stands behind the longest text of the form
abbrev pub EndsLongest : (List ℕ → Bool) → List ℕ → List ℕ → Type 0
EndsLongest form bytes rest = (text : List ℕ) × IsLongest form bytes text rest
