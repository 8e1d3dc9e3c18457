-- Files that are read block by block: what was taken of them, and that they are one log.
use Rattle.std.proofs.Common.{◌≡◌, ℕ, ◌<◌, ◌≤◌, lit<, List, [], ◌∷◌, ◌++◌, length, Some, None, refl, ap, sym, ◌∙◌, subst, inl, inr, ◌⊎◌, append_assoc, arith}
use Rattle.std.specs.Prelude.{IfSome}
use Rattle.std.proofs.lemmas.List.{append-nil, length-append}
use Rattle.nl_io.specs.Content.{Told, IsAtEnd}
use Rattle.log_dictionary.proofs.lemmas.BinaryLaws.{same_fronts}
use Rattle.log_dictionary.specs.declared.message.Message.{Message}
use Rattle.arg_records.specs.declared.call.Call.{Call}
use Rattle.buffer_extent.specs.Bodies.{IsBody}
use Rattle.checkpoint_io.specs.declared.cause.Cause.{Cause}
use Rattle.checkpoint_io.specs.declared.cause.Cause.TheVariants as causes
use Rattle.checkpoint_io.specs.declared.header.Header.{Header}
use Rattle.checkpoint_io.specs.declared.block.Block.{Block as ReadBlock}
use Rattle.checkpoint_io.specs.declared.block.Block.TheVariants as read
use Rattle.checkpoint_io.specs.Blocks.{Block, Fragment, Extent, NewClock, Close, FileOf}
use Rattle.checkpoint_io.specs.Validity.{Valid}
use Rattle.checkpoint_io.specs.Fronts.{BeginsWithLog, Front, HasNoHeader, Break, IsCutAt}
use Rattle.checkpoint_io.specs.Places.{with_front}
use Rattle.checkpoint_io.specs.Readers.{ReaderState, StandsFor}
use Rattle.checkpoint_io.specs.NextBlocks.{Describes, HasBody, TakesNext, IsTooLarge}
use Rattle.checkpoint_io.proofs.lemmas.FrontLaws.{whole_is_front, one_front, short_bytes}
use Rattle.checkpoint_io.proofs.lemmas.BreakLaws.{front_of_break}
use Rattle.checkpoint_io.proofs.lemmas.ValidityLaws.{AreRightAfter-split}

-- ---- the bytes of the file

pub with_front-both : (a b : List ℕ) (told : Told) → with_front (a ++ b) told ≡ with_front a (with_front b told)
with_front-both a b None = refl
with_front-both a b (Some content) = ap Some (append_assoc a b content)

-- what stands behind what was taken stands there in the file
pub file_behind : (taken waiting bytes : List ℕ) (left behind : Told) → with_front waiting left ≡ with_front bytes behind → with_front (taken ++ waiting) left ≡ with_front (taken ++ bytes) behind
file_behind taken waiting bytes left behind same = with_front-both taken waiting left ∙ ap (with_front taken) same ∙ sym (with_front-both taken bytes behind)

pub file_on : (taken front waiting more : List ℕ) (left behind : Told) → with_front waiting left ≡ with_front (front ++ more) behind
    → with_front (taken ++ waiting) left ≡ with_front ((taken ++ front) ++ more) behind
file_on taken front waiting more left behind joined =
    file_behind taken waiting (front ++ more) left behind joined
    ∙ ap (λ (bytes : List ℕ). with_front bytes behind) (sym (append_assoc taken front more))

-- the file begins with what was taken
pub file_begins : (taken waiting : List ℕ) (left : Told) → IfSome (with_front (taken ++ waiting) left) (λ bytes. (rest : List ℕ) × (bytes ≡ taken ++ rest))
file_begins taken waiting None = tt
file_begins taken waiting (Some content) = (waiting ++ content, append_assoc taken waiting content)

pub file_ends : (taken waiting : List ℕ) (left : Told) → IsAtEnd (with_front waiting left) → IfSome (with_front (taken ++ waiting) left) (λ bytes. bytes ≡ taken)
file_ends taken waiting None ended = tt
file_ends taken waiting (Some content) ended = append_assoc taken waiting content ∙ ap (λ (bytes : List ℕ). taken ++ bytes) ended ∙ append-nil taken

-- ---- one log

-- bytes are one log
pub one_log : (header other : Header) (blocks others : List Block) (bytes : List ℕ) → FileOf header blocks bytes → Valid header blocks → FileOf other others bytes → Valid other others → (header ≡ other) × (blocks ≡ others)
one_log header other blocks others bytes file valid file_too valid_too =
    let one = one_front bytes header other blocks others (length bytes) (length bytes) (whole_is_front header blocks bytes file valid) (whole_is_front other others bytes file_too valid_too) in
    (one.0, one.1)

pub longer : (blocks : List Block) (block : Block) → blocks ≡ blocks ++ block ∷ [] → ⊥
longer blocks block same = omega (arith, ap length same, length-append blocks (block ∷ []))

-- up to an offset bytes begin with one log
pub one_start : (bytes : List ℕ) (header other : Header) (blocks others : List Block) (offset : ℕ) → BeginsWithLog bytes header blocks offset → BeginsWithLog bytes other others offset → (header ≡ other) × (blocks ≡ others)
one_start bytes header other blocks others offset p q =
    let prefixes = (same_fronts p.prefix q.prefix p.rest q.rest (sym p.taken ∙ q.taken) (sym p.whole ∙ q.whole)).0 in
    one_log header other blocks others p.prefix p.file p.valid (subst (FileOf other others) (sym prefixes) q.file) q.valid

pub no_more_than : (bytes : List ℕ) (header : Header) (blocks : List Block) (count : ℕ) → BeginsWithLog bytes header blocks count → count ≤ length bytes
no_more_than bytes header blocks count b = omega (arith, b.taken, ap length b.whole, length-append b.prefix b.rest)

-- a log has bytes
pub no_log : (bytes : List ℕ) (header : Header) (blocks : List Block) → BeginsWithLog bytes header blocks 0 → ⊥
no_log bytes header blocks b = at_prefix b.prefix b.taken b.file
  where
    at_prefix : (prefix : List ℕ) → 0 ≡ length prefix → FileOf header blocks prefix → ⊥
    at_prefix [] none file = short_bytes [] (lit< tt) header blocks 0 (record { prefix = []; rest = []; whole = refl; taken = refl; file = file; valid = b.valid })
    at_prefix (byte ∷ prefix) none file = omega (arith, none)

-- the front of bytes that break behind such a start is that start
pub broken_there : (bytes : List ℕ) (header : Header) (blocks : List Block) (offset : ℕ) (cause : Cause) → BeginsWithLog bytes header blocks offset → Break bytes offset cause → Front bytes header blocks offset
broken_there bytes header blocks offset cause begun breaks = at_front (front_of_break bytes offset cause breaks)
  where
    at_front : (HasNoHeader bytes × (offset ≡ 0)) ⊎ ((other : Header) × (others : List Block) × Front bytes other others offset) → Front bytes header blocks offset
    at_front (inl (none, start)) = absurd (none header blocks offset begun)
    at_front (inr (other, others, front)) =
        let same = one_start bytes other header others blocks offset front.begins begun in
        subst (λ (h : Header). Front bytes h blocks offset) same.0 (subst (λ (bs : List Block). Front bytes other bs offset) same.1 front)

-- so is that of bytes that are cut off behind it
pub cut_there : (bytes : List ℕ) (header : Header) (blocks : List Block) (offset : ℕ) → BeginsWithLog bytes header blocks offset → IsCutAt bytes offset → Front bytes header blocks offset
cut_there bytes header blocks offset begun (inl cut) = broken_there bytes header blocks offset causes.Cut begun cut
cut_there bytes header blocks offset begun (inr (other, others, file, valid, ends)) =
    let front : Front bytes other others offset = subst (Front bytes other others) (sym ends) (whole_is_front other others bytes file valid) in
    let same = one_start bytes other header others blocks offset front.begins begun in
    subst (λ (h : Header). Front bytes h blocks offset) same.0 (subst (λ (bs : List Block). Front bytes other bs offset) same.1 front)

-- the block that ends past the most bytes stands behind such a start
pub large_there : (bytes : List ℕ) (header : Header) (blocks : List Block) (offset : ℕ) → BeginsWithLog bytes header blocks offset → (large : IsTooLarge bytes offset) → BeginsWithLog bytes header (blocks ++ large.block ∷ []) large.count
large_there bytes header blocks offset begun large =
    let right = AreRightAfter-split large.header [] large.blocks (large.block ∷ []) large.begins.valid.blocks_right in
    let start : BeginsWithLog bytes large.header large.blocks offset = record {
      prefix = large.front;
      rest = large.rest;
      whole = large.joined;
      taken = large.ends;
      file = large.file;
      valid = record { header_right = large.begins.valid.header_right; blocks_right = right.0 };
    } in
    let same = one_start bytes large.header header large.blocks blocks offset start begun in
    subst (λ (h : Header). BeginsWithLog bytes h (blocks ++ large.block ∷ []) large.count) same.0 (subst (λ (bs : List Block). BeginsWithLog bytes large.header (bs ++ large.block ∷ []) large.count) same.1 large.begins)

-- then the bytes are more than are read
pub more_than_read : (bytes : List ℕ) (offset : ℕ) → IsTooLarge bytes offset → length bytes ≤ 134217728 → ⊥
more_than_read bytes offset large short = omega (arith, short, large.large, no_more_than bytes large.header (large.blocks ++ large.block ∷ []) large.count large.begins)

-- bytes that break at their start have no header
pub no_header : (bytes : List ℕ) (cause : Cause) → Break bytes 0 cause → HasNoHeader bytes
no_header bytes cause breaks = at_start (front_of_break bytes 0 cause breaks)
  where
    at_start : (HasNoHeader bytes × ◌≡◌ {A = ℕ} 0 0) ⊎ ((header : Header) × (blocks : List Block) × Front bytes header blocks 0) → HasNoHeader bytes
    at_start (inl (none, start)) = none
    at_start (inr (header, blocks, front)) = absurd (no_log bytes header blocks front.begins)

-- ---- a block that was read

-- an extent, whose records the body has
pub is_extent : (tick writer : ℕ) (messages : List Message) (body : List ℕ) (block : Block) → Describes (read.Extent writer) block → HasBody tick messages block body
    → (records : List Call) × (block ≡ Extent writer records) × (last : ℕ) × IsBody messages tick last records body
is_extent tick writer messages body (Fragment first defined) tells has = absurd cc
is_extent tick writer messages body (Extent w records) tells has =
    let same : writer ≡ w = cc in
    (records, ap (λ (n : ℕ). Extent n records) (sym same), has.0, has.1)
is_extent tick writer messages body (NewClock clock) tells has = absurd cc
is_extent tick writer messages body (Close w) tells has = absurd cc

-- the reader stood for what was taken, and stands behind the next block
module _ (old new : ReaderState) (taken : List ℕ) (stood : StandsFor old taken) (told : ReadBlock) (left behind : Told) (next : TakesNext old new taken stood told left behind) where
  -- each block takes a byte at least
  pub offset_rises : old.offset < new.offset
  offset_rises = at_front next.front refl
    where
      at_front : (front : List ℕ) → front ≡ next.front → old.offset < new.offset
      at_front [] is =
          let bytes : taken ++ next.front ≡ taken = ap (λ (f : List ℕ). taken ++ f) (sym is) ∙ append-nil taken in
          let file_too : FileOf new.header next.stands.blocks taken = subst (FileOf new.header next.stands.blocks) bytes next.stands.file in
          let one = one_log old.header new.header stood.blocks next.stands.blocks taken stood.file stood.valid file_too next.stands.valid in
          absurd (longer stood.blocks next.block (one.1 ∙ next.blocks))
      at_front (byte ∷ rest) is = omega (arith, next.stands.offset, stood.offset, length-append taken next.front, ap length is)

  pub offset_within : new.offset ≤ 134217728
  offset_within = omega (arith, next.stands.offset, next.stands.within)
