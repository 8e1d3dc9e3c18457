-- Each file is a log from its first byte to its last, or it breaks.
use Rattle.std.proofs.Common.{◌≡◌, ◌⊎◌, inl, inr, ℕ, zero, suc, ◌≤◌, List, [], ◌∷◌, ◌++◌, length, Ok, Err, refl, sym, ap, subst, ◌∙◌, append_assoc, arith}
use Rattle.std.proofs.lemmas.List.{length-append, append-nil}
use Rattle.log_dictionary.specs.declared.message.Message.{Message}
use Rattle.nibble_pack.specs.Bytes.{AreBytes, back_bytes}
use Rattle.nibble_pack.specs.Parsing.{Parse}
use Rattle.checkpoint_io.specs.declared.cause.Cause.{Cause}
use Rattle.checkpoint_io.specs.declared.header.Header.{Header}
use Rattle.checkpoint_io.specs.Blocks.{Block, Fragment, Extent, NewClock, Close, header_bytes, SpellsBlock, FileOf}
use Rattle.checkpoint_io.specs.Validity.{Valid}
use Rattle.checkpoint_io.specs.Reading.{header_at, block_at}
use Rattle.checkpoint_io.specs.Fronts.{Front, HasNoHeader, Break, at_header, at_block}
use Rattle.checkpoint_io.proofs.lemmas.FrontLaws.{empty_file, file_goes_on, whole_is_front}
use Rattle.checkpoint_io.proofs.lemmas.ValidityLaws.{goes_on, messages_differ}
use Rattle.checkpoint_io.proofs.ReadingForms.{header_taken, block_taken}
use Rattle.checkpoint_io.proofs.lemmas.BreakLaws.{front_of_break}

-- the bytes are a log, or they break
abbrev IsWholeOrBreaks : List ℕ → Type 0
IsWholeOrBreaks bytes =
    ((header : Header) × (blocks : List Block) × FileOf header blocks bytes × Valid header blocks)
    ⊎ ((offset : ℕ) × (cause : Cause) × Break bytes offset cause)

-- a thing and what is left, or a cause
found_or_broken : {A : Type 0} (read : Parse Cause A) → ((thing : A) × (rest : List ℕ) × (read ≡ Ok (thing, rest))) ⊎ ((cause : Cause) × (read ≡ Err cause))
found_or_broken (Ok found) = inl (found.0, found.1, refl)
found_or_broken (Err cause) = inr (cause, refl)

-- a block has a byte
some_byte : (messages : List Message) (header : Header) (block : Block) (bytes : List ℕ) → SpellsBlock messages header block bytes → 1 ≤ length bytes
some_byte messages header (Fragment first added) bytes spelled = omega (arith, ap length spelled.joined)
some_byte messages header (Extent writer records) bytes spelled = omega (arith, ap length spelled.joined)
some_byte messages header (NewClock clock) bytes spelled = omega (arith, ap length spelled.joined)
some_byte messages header (Close writer) bytes spelled = omega (arith, ap length spelled.joined)

shorter : (front back bytes : List ℕ) (most : ℕ) → bytes ≡ front ++ back → 1 ≤ length front → length bytes ≤ suc most → length back ≤ most
shorter front back bytes most joined some short = omega (arith, ap length joined, length-append front back, some, short)

-- what is behind a log that the bytes begin with tells of all bytes
behind_front : (bytes : List ℕ) (header : Header) (blocks : List Block) (most : ℕ) (front rest : List ℕ) → length rest ≤ most → AreBytes rest → bytes ≡ front ++ rest → FileOf header blocks front → Valid header blocks → IsWholeOrBreaks bytes
behind_front bytes header blocks most front [] short small joined file valid = inl (header, blocks, subst (FileOf header blocks) (sym (append-nil front) ∙ sym joined) file, valid)
behind_front bytes header blocks zero front (byte ∷ rest) short small joined file valid = absurd (omega arith)
behind_front bytes header blocks (suc most) front (byte ∷ rest) short small joined file valid = elim (found_or_broken (block_at header blocks (byte ∷ rest))) [
  | inr (cause, reads) ↦ inr (length front, cause, at_block header blocks front (byte ∷ rest) cause joined file valid (omega arith) reads)
  | inl (block, back, reads) ↦
      let read = block_taken header blocks (byte ∷ rest) block back (messages_differ header blocks valid).distinct small reads in
      behind_front bytes header (blocks ++ block ∷ []) most (front ++ read.front) back (shorter read.front back (byte ∷ rest) most read.joined (some_byte _ header block read.front read.spelled) short) (back_bytes (byte ∷ rest) read.front back read.joined small)
      (joined ∙ ap (λ (b : List ℕ). front ++ b) read.joined ∙ sym (append_assoc front read.front back)) (file_goes_on header blocks block front read.front file read.spelled) (goes_on header blocks block valid read.right)
]

-- each file is a log from its first byte to its last, or it breaks
pub whole_or_breaks : (bytes : List ℕ) → AreBytes bytes → ((header : Header) × (blocks : List Block) × FileOf header blocks bytes × Valid header blocks) ⊎ ((offset : ℕ) × (cause : Cause) × Break bytes offset cause)
whole_or_breaks bytes small = elim (found_or_broken (header_at bytes)) [
  | inr (cause, reads) ↦ inr (0, cause, at_header cause reads)
  | inl (header, rest, reads) ↦
      let read = header_taken bytes header rest small reads in
      behind_front bytes header [] (length rest) (header_bytes header) rest (omega arith) (back_bytes bytes (header_bytes header) rest read.joined small) read.joined (empty_file header) (record { header_right = read.right; blocks_right = tt })
]

-- each file has a front, or no header
pub front_or_none : (bytes : List ℕ) → AreBytes bytes → ((header : Header) × (blocks : List Block) × (count : ℕ) × Front bytes header blocks count) ⊎ HasNoHeader bytes
front_or_none bytes small = elim (whole_or_breaks bytes small) [
  | inl (header, blocks, file, valid) ↦ inl (header, blocks, length bytes, whole_is_front header blocks bytes file valid)
  | inr (offset, cause, breaks) ↦ ended offset (front_of_break bytes offset cause breaks)
]
  where
    ended : (offset : ℕ) → (HasNoHeader bytes × (offset ≡ 0)) ⊎ ((header : Header) × (blocks : List Block) × Front bytes header blocks offset) → ((header : Header) × (blocks : List Block) × (count : ℕ) × Front bytes header blocks count) ⊎ HasNoHeader bytes
    ended offset (inl (none, is)) = inr none
    ended offset (inr (header, blocks, front)) = inl (header, blocks, offset, front)
