-- A source as the join of its parts.
use Rattle.std.specs.Prelude.{◌≡◌, ℕ, ◌<◌, List, [], ◌∷◌}
use Rattle.source_tokens.specs.declared.token.Token.{Token}

-- the parts stand one behind the other from one place to another, and none is empty
unfoldable pub JoinsFrom : ℕ → List Token → ℕ → Type 0
JoinsFrom start [] end = start ≡ end
JoinsFrom start (part ∷ parts) end = (part.start ≡ start) × (start < part.end) × JoinsFrom part.end parts end
