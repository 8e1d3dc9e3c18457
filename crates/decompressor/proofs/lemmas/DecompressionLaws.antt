-- Bytes stand for one text, and a whole log for the lines of all its calls.
use Rattle.std.proofs.Common.{◌≡◌, ℕ, List, refl, sym, ◌∙◌, length}
use Rattle.checkpoint_io.specs.declared.header.Header.{Header}
use Rattle.checkpoint_io.specs.Blocks.{Block, FileOf}
use Rattle.checkpoint_io.specs.Validity.{Valid}
use Rattle.checkpoint_io.proofs.lemmas.FrontLaws.{one_front, whole_is_front}
use Rattle.decompressor.specs.Decompression.{whole_text, Decompressed, of_front, of_nothing}

-- bytes stand for one text
pub one_text : (bytes text other : List ℕ) → Decompressed bytes text → Decompressed bytes other → text ≡ other
one_text bytes text other (of_front header blocks count front is) (of_front header2 blocks2 count2 front2 is_too) =
    let same = one_front bytes header header2 blocks blocks2 _ _ front front2 in
    is ∙ (λ i. let h = same.0 i in whole_text h (same.1 i)) ∙ sym is_too
one_text bytes text other (of_front header blocks count front is) (of_nothing none is_too) = absurd (none header blocks _ front.begins)
one_text bytes text other (of_nothing none is) (of_front header blocks count front is_too) = absurd (none header blocks _ front.begins)
one_text bytes text other (of_nothing none is) (of_nothing none_too is_too) = is ∙ sym is_too

-- a log that is whole and right stands for the lines of all its calls
pub whole_is_text : (header : Header) (blocks : List Block) (bytes : List ℕ) → FileOf header blocks bytes → Valid header blocks → Decompressed bytes (whole_text header blocks)
whole_is_text header blocks bytes file valid = of_front header blocks (length bytes) (whole_is_front header blocks bytes file valid) refl
