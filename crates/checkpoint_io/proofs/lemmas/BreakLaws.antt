-- A file is broken at one offset and from one cause, and a whole one isn't.
use Rattle.std.proofs.Common.{◌≡◌, ℕ, ◌≤◌, List, [], ◌++◌, length, Err, refl, sym, ap, subst, ◌∙◌, inl, inr, ◌⊎◌, arith}
use Rattle.std.proofs.lemmas.List.{length-append, append-nil}
use Rattle.log_dictionary.proofs.lemmas.BinaryLaws.{same_fronts}
use Rattle.checkpoint_io.specs.declared.cause.Cause.{Cause}
use Rattle.checkpoint_io.specs.declared.cause.Cause.TheVariants as causes
use Rattle.checkpoint_io.specs.declared.header.Header.{Header}
use Rattle.checkpoint_io.specs.Blocks.{Block, FileOf}
use Rattle.checkpoint_io.specs.Validity.{Valid}
use Rattle.checkpoint_io.specs.Reading.{header_at, block_at}
use Rattle.checkpoint_io.specs.Fronts.{Front, HasNoHeader, Break, at_header, at_block, BreaksByCutAlone, IsCutAt}
use Rattle.checkpoint_io.proofs.lemmas.FrontLaws.{no_header, cut_is_front, whole_is_front, one_front, StopsAt}
use Rattle.checkpoint_io.proofs.ReadingForms.{header_again, block_again}

-- behind a broken place no right block stands
stops_at_break : (header : Header) (blocks : List Block) (rest : List ℕ) (cause : Cause) → block_at header blocks rest ≡ Err cause → StopsAt header blocks rest
stops_at_break header blocks rest cause breaks block front back right spelled is =
    let clash = sym (block_again header blocks block front back right spelled) ∙ ap (block_at header blocks) (sym is) ∙ breaks in cc

front_at_break : (header : Header) (blocks : List Block) (bytes front rest : List ℕ) (cause : Cause) → bytes ≡ front ++ rest → FileOf header blocks front → Valid header blocks → block_at header blocks rest ≡ Err cause → Front bytes header blocks (length front)
front_at_break header blocks bytes front rest cause joined file valid breaks = subst (λ (b : List ℕ). Front b header blocks (length front)) (sym joined) (cut_is_front header blocks front rest file valid (stops_at_break header blocks rest cause breaks))

-- bytes whose header is broken have none
no_header_at_break : (bytes : List ℕ) (cause : Cause) → header_at bytes ≡ Err cause → HasNoHeader bytes
no_header_at_break bytes cause breaks = no_header bytes (λ header rest right is.
    let clash = sym (header_again header rest right) ∙ ap header_at (sym is) ∙ breaks in cc)

-- the front ends where the file is broken
pub front_of_break : (bytes : List ℕ) (offset : ℕ) (cause : Cause) → Break bytes offset cause → (HasNoHeader bytes × (offset ≡ 0)) ⊎ ((header : Header) × (blocks : List Block) × Front bytes header blocks offset)
front_of_break bytes _ _ (at_header cause breaks) = inl (no_header_at_break bytes cause breaks, refl)
front_of_break bytes _ _ (at_block header blocks front rest cause joined file valid some breaks) = inr (header, blocks, front_at_break header blocks bytes front rest cause joined file valid breaks)

header_or_front : (bytes : List ℕ) (header : Header) (blocks : List Block) (front rest : List ℕ) (cause : Cause) → bytes ≡ front ++ rest → FileOf header blocks front → Valid header blocks → header_at bytes ≡ Err cause → ⊥
header_or_front bytes header blocks front rest cause joined file valid breaks = no_header_at_break bytes cause breaks header blocks (length front) (record { prefix = front; rest = rest; whole = joined; taken = refl; file = file; valid = valid })

-- a file is broken at one offset, from one cause
pub one_break : (bytes : List ℕ) (a b : ℕ) (cause other : Cause) → Break bytes a cause → Break bytes b other → (a ≡ b) × (cause ≡ other)
one_break bytes _ _ _ _ (at_header cause breaks) (at_header other breaks_too) =
    let e = sym breaks ∙ breaks_too in (refl, cc)
one_break bytes _ _ _ _ (at_header cause breaks) (at_block header blocks front rest other joined file valid some breaks_too) = absurd (header_or_front bytes header blocks front rest cause joined file valid breaks)
one_break bytes _ _ _ _ (at_block header blocks front rest cause joined file valid some breaks) (at_header other breaks_too) = absurd (header_or_front bytes header blocks front rest other joined file valid breaks_too)
one_break bytes _ _ _ _ (at_block header blocks front rest cause joined file valid some breaks) (at_block header2 others front2 more other joined_too file_too valid_too some_too breaks_too) =
    let one = one_front bytes header header2 blocks others (length front) (length front2) (front_at_break header blocks bytes front rest cause joined file valid breaks) (front_at_break header2 others bytes front2 more other joined_too file_too valid_too breaks_too) in
    let same = (same_fronts front front2 rest more one.2 (sym joined ∙ joined_too)).1 in
    let e = sym breaks ∙ (λ t. block_at (one.0 t) (one.1 t) (same t)) ∙ breaks_too in
    (one.2, cc)

shorter : (front rest : List ℕ) (count : ℕ) → count ≡ length (front ++ rest) → 1 ≤ length rest → count ≡ length front → ⊥
shorter front rest count all some is = omega (arith, all, some, is, length-append front rest)

-- a whole file isn't broken
pub whole_or_break : (header : Header) (blocks : List Block) (bytes : List ℕ) (offset : ℕ) (cause : Cause) → FileOf header blocks bytes → Valid header blocks → Break bytes offset cause → ⊥
whole_or_break header blocks bytes _ _ file valid (at_header cause breaks) = header_or_front bytes header blocks bytes [] cause (sym (append-nil bytes)) file valid breaks
whole_or_break header blocks bytes _ _ file valid (at_block header2 others front rest cause joined file_too valid_too some breaks) =
    let one = one_front bytes header header2 blocks others (length bytes) (length front) (whole_is_front header blocks bytes file valid) (front_at_break header2 others bytes front rest cause joined file_too valid_too breaks) in
    shorter front rest (length bytes) (ap length joined) some one.2

-- bytes that are cut off break there by Cut, or nowhere
pub cut_breaks : (bytes : List ℕ) (offset other : ℕ) (cause : Cause) → IsCutAt bytes offset → Break bytes other cause → (other ≡ offset) × (cause ≡ causes.Cut)
cut_breaks bytes offset other cause (inl cut) breaks = one_break bytes other offset cause causes.Cut breaks cut
cut_breaks bytes offset other cause (inr (header, blocks, file, valid, ends)) breaks = absurd (whole_or_break header blocks bytes other cause file valid breaks)

pub cut_alone : (bytes : List ℕ) (offset : ℕ) → IsCutAt bytes offset → BreaksByCutAlone bytes
cut_alone bytes offset cut other cause breaks = (cut_breaks bytes offset other cause cut breaks).1
