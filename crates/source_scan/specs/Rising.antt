-- Tokens in the order of their source.
use Rattle.std.specs.Prelude.{ℕ, ◌<◌, ◌≤◌, List, [], ◌∷◌}
use Rattle.source_tokens.specs.declared.token.Token.{Token}

-- the tokens stand one behind the other between two places, perhaps apart, and none is empty
unfoldable pub RiseFrom : ℕ → List Token → ℕ → Type 0
RiseFrom start [] end = start ≤ end
RiseFrom start (token ∷ tokens) end = (start ≤ token.start) × (token.start < token.end) × RiseFrom token.end tokens end
