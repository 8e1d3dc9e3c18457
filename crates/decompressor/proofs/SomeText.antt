-- Each file stands for a text.
use Rattle.std.proofs.Common.{inl, inr, ℕ, ◌<◌, List, [], All, refl}
use Rattle.checkpoint_io.proofs.lemmas.Wholeness.{front_or_none}
use Rattle.decompressor.specs.Decompression.{whole_text, Decompressed, of_front, of_nothing}

-- each file stands for a text
pub some_text : (bytes : List ℕ) → All (λ byte. byte < 256) bytes → (text : List ℕ) × Decompressed bytes text
some_text bytes small = elim (front_or_none bytes small) [
  | inl (header, blocks, count, front) ↦ (whole_text header blocks, of_front header blocks count front refl)
  | inr none ↦ ([], of_nothing none refl)
]
