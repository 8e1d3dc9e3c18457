-- Sources in which heads of statements are calls by number.
use Rattle.std.specs.Prelude.{ℕ, ◌<◌, ◌≤◌, ◌==◌, List, [], ◌∷◌, ◌++◌, codes, decimal, drop, filter, slice_range}
use Rattle.code_inject.specs.declared.rewrite.Rewrite.{Rewrite}

-- the line feeds among the bytes
abbrev pub line_feeds : List ℕ → List ℕ
line_feeds bytes = filter (λ (byte : ℕ). byte == 10) bytes

-- what takes the place of these bytes, for the message with the id
abbrev pub call_by_id : ℕ → List ℕ → List ℕ
call_by_id id bytes = codes "NANO_LOG_CALL(" ++ decimal id ++ line_feeds bytes

-- the source from a place up to behind a head, where a call takes the head's place
abbrev pub rewritten_head : List ℕ → ℕ → Rewrite → List ℕ
rewritten_head source from rewrite =
    slice_range source from rewrite.start ++ call_by_id rewrite.id (slice_range source rewrite.start rewrite.head)

-- the source from a place on, where a call takes the place of each of these heads
unfoldable pub rewritten_from : List ℕ → ℕ → List Rewrite → List ℕ
rewritten_from source from [] = drop from source
rewritten_from source from (rewrite ∷ rewrites) =
    rewritten_head source from rewrite ++ rewritten_from source rewrite.head rewrites

-- the heads stand one behind the other between two places
abbrev pub HeadsFrom : ℕ → List Rewrite → ℕ → Type 0
HeadsFrom from [] to = from ≤ to
HeadsFrom from (rewrite ∷ rewrites) to =
    (from ≤ rewrite.start) × (rewrite.start < rewrite.head) × HeadsFrom rewrite.head rewrites to
