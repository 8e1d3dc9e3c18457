-- Texts on their way to a sink.
use Rattle.std.specs.Prelude.{◌≡◌, ◌≢◌, ◌≤◌, ◌++◌, ℕ, List, []}
use Rattle.std.specs.Borrow.{Bor}
use Rattle.std.specs.List.{flat_map}
use Rattle.nl_io.specs.Count.{Rose}
use Rattle.nl_io.specs.Content.{Told, with_end, PutsFront}

-- The text is what was put since, followed by what is held back.
pub record Carries (text : List ℕ) (was is : Told) (held : List ℕ) : Type 0 where
  pub front : List ℕ
  pub put : is ≡ with_end front was
  pub joined : front ++ held ≡ text

-- The text, in which there is something, was cut off: a front of it was put, and a call failed.
pub record IsCutOff (text : List ℕ) (was is : Told) (before after : ℕ) : Type 0 where
  pub some : text ≢ []
  pub put : PutsFront text was is
  pub rose : Rose before after
  pub count : before ≤ after

-- the pieces, one behind the other
abbrev pub text_of_pieces : List (Bor (List ℕ)) → List ℕ
text_of_pieces pieces = flat_map (λ piece. piece.now) pieces
