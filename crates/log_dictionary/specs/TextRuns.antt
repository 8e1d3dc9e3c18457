-- Texts in runs: bytes that stand for themselves, and escapes between them.
use Rattle.std.specs.Prelude.{◌≡◌, ℕ, Bool, true, List, [], ◌∷◌, ◌++◌, Some, None, ◌==◌, ◌||◌, ⊤}
use Rattle.std.specs.List.{list_all}
use Rattle.log_dictionary.specs.Texts.{is_plain, unit_from, text_from}
use Rattle.log_dictionary.specs.Texts.TextPlace.{outside}

-- a quotation mark and a backslash end a run
abbrev pub ends_run : ℕ → Bool
ends_run b = (b == 34) || (b == 92)

-- nothing follows, or a byte that ends a run
abbrev pub EndsRun : List ℕ → Type 0
EndsRun [] = ⊤
EndsRun (b ∷ bytes) = ends_run b ≡ true

-- the bytes begin with a run, all of whose bytes stand for themselves, and the rest follows it
pub record IsRun (bytes run rest : List ℕ) : Type 0 where
  pub joined : bytes ≡ run ++ rest
  pub plain : list_all is_plain run ≡ true
  pub ended : EndsRun rest

-- the bytes begin with the escape of a byte and a run behind it, and the rest follows that
pub record IsEscapedRun (bytes : List ℕ) (byte : ℕ) (run rest : List ℕ) : Type 0 where
  pub behind : List ℕ
  pub escape : unit_from outside bytes ≡ Some (byte, behind)
  pub follows : IsRun behind run rest

-- whatever follows these bytes, no text begins with them
abbrev pub BeginsNoText : List ℕ → Type 0
BeginsNoText bytes = (rest : List ℕ) → text_from outside (bytes ++ rest) ≡ None
