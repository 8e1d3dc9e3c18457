-- Texts that are written in several calls.
use Rattle.std.proofs.Common.{◌≡◌, ◌≤◌, ℕ, List, ◌++◌, length, take, sym, ap, ◌∙◌, arith}
use Rattle.std.proofs.lemmas.List.{append_assoc, length-append, take-take, take-append-le, take_all}

-- what stood first still does
pub kept : (old more middle new : List ℕ) (before between : ℕ) → before ≡ length old → between ≡ length middle → middle ≡ old ++ more → take between new ≡ middle → take before new ≡ old
kept old more middle new before between before_is between_is is stands =
    let more_stands : before ≤ between = omega (arith, ap length is, length-append old more) in
    sym (take-take before between new more_stands) ∙ ap (take before) (stands ∙ is) ∙ ap (λ n. take n (old ++ more)) before_is ∙ take-append-le (length old) old more (omega arith) ∙ take_all (length old) old (omega arith)

-- the line of a message, where each list is the one before with a part appended
pub line_joined : (old fields file space format end a b c d new : List ℕ) → a ≡ old ++ fields → b ≡ a ++ file → c ≡ b ++ space → d ≡ c ++ format → new ≡ d ++ end → new ≡ old ++ (fields ++ file ++ (space ++ format) ++ end)
line_joined old fields file space format end a b c d new ea eb ec ed en = rw (en, ed, ec, eb, ea) (simp append_assoc)

-- the same of its first parts
pub line_begun : (old fields file space a b new : List ℕ) → a ≡ old ++ fields → b ≡ a ++ file → new ≡ b ++ space → new ≡ old ++ (fields ++ file ++ space)
line_begun old fields file space a b new ea eb en = rw (en, eb, ea) (simp append_assoc)
