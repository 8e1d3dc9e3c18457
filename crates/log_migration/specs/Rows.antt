-- The worked log as one of version 2.
use Rattle.std.specs.Prelude.{ℕ, List, [], ◌∷◌, ◌++◌}
use Rattle.checkpoint_io.specs.Rows.{clock_header_bytes, row_fragment_bytes, row_body}

-- the same call in an extent whose writer has two bytes
abbrev pub migrated_extent_bytes : List ℕ
migrated_extent_bytes = 2 ∷ 0 ∷ 0 ∷ 4 ∷ 0 ∷ 0 ∷ 0 ∷ [] ++ row_body

-- the whole file: 71 bytes
abbrev pub migrated_bytes : List ℕ
migrated_bytes = clock_header_bytes ++ row_fragment_bytes ++ migrated_extent_bytes ++ 4 ∷ 0 ∷ 0 ∷ []
