-- The bytes of a log have one front, and a whole file is its own.
use Rattle.std.proofs.Common.{◌≡◌, ◌≢◌, ℕ, ◌<◌, ◌≤◌, List, [], ◌∷◌, ◌++◌, length, refl, sym, ap, subst, ◌∙◌, append_assoc, arith}
use Rattle.std.proofs.lemmas.List.{append-nil, length-append}
use Rattle.log_dictionary.specs.declared.message.Message.{Message}
use Rattle.checkpoint_io.specs.declared.header.Header.{Header}
use Rattle.checkpoint_io.specs.Blocks.{Block, Fragment, Extent, NewClock, Close, messages_of, header_bytes, SpellsBlock, SpellsBlocks, FileOf}
use Rattle.checkpoint_io.specs.Validity.{IsRightAfter, AreRightAfter, IsHeader, Valid}
use Rattle.checkpoint_io.specs.Fronts.{BeginsWithLog, Front, HasNoHeader}
use Rattle.log_dictionary.proofs.lemmas.BinaryLaws.{same_fronts}
use Rattle.checkpoint_io.proofs.lemmas.VersionLaws.{some_len}
use Rattle.checkpoint_io.proofs.lemmas.BlockLaws.{length-header_bytes}
use Rattle.checkpoint_io.proofs.ReadingForms.{one_header, one_block}

-- ---- runs of blocks

-- a block's spelling has a byte
some_byte : (messages : List Message) (header : Header) (block : Block) (front back : List ℕ) → SpellsBlock messages header block front → [] ≡ front ++ back → ⊥
some_byte messages header (Fragment first added) front back s e = omega (arith, ap length (e ∙ ap (λ (f : List ℕ). f ++ back) s.joined))
some_byte messages header (Extent writer records) front back s e = omega (arith, ap length (e ∙ ap (λ (f : List ℕ). f ++ back) s.joined))
some_byte messages header (NewClock clock) front back s e = omega (arith, ap length (e ∙ ap (λ (f : List ℕ). f ++ back) s.joined))
some_byte messages header (Close writer) front back s e = omega (arith, ap length (e ∙ ap (λ (f : List ℕ). f ++ back) s.joined))

-- the first blocks of two runs are one, and the others go on with the same bytes
one_step : (header : Header) (before : List Block) (a b : Block) (front other xs ys bytes others rest more : List ℕ) → bytes ≡ front ++ xs → others ≡ other ++ ys → AreRightAfter header before (a ∷ []) → AreRightAfter header before (b ∷ []) → SpellsBlock (messages_of before) header a front → SpellsBlock (messages_of before) header b other → bytes ++ rest ≡ others ++ more → (a ≡ b) × (front ≡ other) × (xs ++ rest ≡ ys ++ more)
one_step header before a b front other xs ys bytes others rest more joined joined_too a_right b_right a_is b_is e =
    let whole : front ++ (xs ++ rest) ≡ other ++ (ys ++ more) = sym (append_assoc front xs rest) ∙ ap (λ (f : List ℕ). f ++ rest) (sym joined) ∙ e ∙ ap (λ (f : List ℕ). f ++ more) joined_too ∙ append_assoc other ys more in
    let here = one_block header before a b front other (xs ++ rest) (ys ++ more) a_right.0 b_right.0 a_is b_is whole in
    (here.0, here.1, (same_fronts front other (xs ++ rest) (ys ++ more) (ap length here.1) whole).1)

-- behind these blocks the bytes begin with no right block
abbrev pub StopsAt : Header → List Block → List ℕ → Type 0
StopsAt header blocks bytes = (block : Block) (front back : List ℕ) → IsRightAfter header blocks block → SpellsBlock (messages_of blocks) header block front → bytes ≢ front ++ back

-- no run of right blocks has more blocks than one behind which no right block stands
no_longer : (header : Header) (before blocks others : List Block) (bytes front tail rest : List ℕ) → StopsAt header (before ++ blocks) tail → AreRightAfter header before blocks → AreRightAfter header before others → SpellsBlocks header before blocks bytes → SpellsBlocks header before others front → bytes ++ tail ≡ front ++ rest → length others ≤ length blocks
no_longer header before blocks [] bytes front tail rest stops p q s t e = omega arith
no_longer header before [] (b ∷ bs) bytes front tail rest stops p q s (y, ys, y_joined, y_is, ys_are) e =
    let here = subst (λ (l : List Block). StopsAt header l tail) (append-nil before) stops in
    absurd (here b y (ys ++ rest) q.0 y_is (ap (λ (f : List ℕ). f ++ tail) (sym s) ∙ e ∙ ap (λ (f : List ℕ). f ++ rest) y_joined ∙ append_assoc y ys rest))
no_longer header before (a ∷ more_a) (b ∷ more_b) bytes front tail rest stops p q (x, xs, x_joined, x_is, xs_are) (y, ys, y_joined, y_is, ys_are) e =
    let step = one_step header before a b x y xs ys bytes front tail rest x_joined y_joined (p.0, tt) (q.0, tt) x_is y_is e in
    let b_right = subst (λ (block : Block). AreRightAfter header (before ++ block ∷ []) more_b) (sym step.0) q.1 in
    let b_spelled = subst (λ (block : Block). SpellsBlocks header (before ++ block ∷ []) more_b ys) (sym step.0) ys_are in
    let behind = subst (λ (l : List Block). StopsAt header l tail) (sym (append_assoc before (a ∷ []) more_a)) stops in
    omega (arith, no_longer header (before ++ a ∷ []) more_a more_b xs ys tail rest behind p.1 b_right xs_are b_spelled step.2)

-- two runs of as many right blocks, with which the same bytes begin, are one
one_run : (header : Header) (before blocks others : List Block) (bytes front rest more : List ℕ) → AreRightAfter header before blocks → AreRightAfter header before others → SpellsBlocks header before blocks bytes → SpellsBlocks header before others front → bytes ++ rest ≡ front ++ more → length blocks ≡ length others → (blocks ≡ others) × (bytes ≡ front)
one_run header before [] [] bytes front rest more p q s t e count = (refl, s ∙ sym t)
one_run header before [] (b ∷ bs) bytes front rest more p q s t e count = absurd (omega (arith, count))
one_run header before (a ∷ more_a) [] bytes front rest more p q s t e count = absurd (omega (arith, count))
one_run header before (a ∷ more_a) (b ∷ more_b) bytes front rest more p q (x, xs, x_joined, x_is, xs_are) (y, ys, y_joined, y_is, ys_are) e count =
    let step = one_step header before a b x y xs ys bytes front rest more x_joined y_joined (p.0, tt) (q.0, tt) x_is y_is e in
    let b_right = subst (λ (block : Block). AreRightAfter header (before ++ block ∷ []) more_b) (sym step.0) q.1 in
    let b_spelled = subst (λ (block : Block). SpellsBlocks header (before ++ block ∷ []) more_b ys) (sym step.0) ys_are in
    let others = one_run header (before ++ a ∷ []) more_a more_b xs ys rest more p.1 b_right xs_are b_spelled step.2 (omega (arith, count)) in
    ((λ i. step.0 i ∷ others.0 i), x_joined ∙ (λ i. step.1 i ++ others.1 i) ∙ sym y_joined)

-- ---- files

-- a header alone
pub empty_file : (header : Header) → FileOf header [] (header_bytes header)
empty_file header = record { block_bytes = []; spelled = refl; joined = sym (append-nil (header_bytes header)) }

one_more : (header : Header) (before blocks : List Block) (block : Block) (bytes spelled : List ℕ) → SpellsBlocks header before blocks bytes → SpellsBlock (messages_of (before ++ blocks)) header block spelled → SpellsBlocks header before (blocks ++ block ∷ []) (bytes ++ spelled)
one_more header before [] block bytes spelled none is =
    let here = subst (λ (b : List Block). SpellsBlock (messages_of b) header block spelled) (append-nil before) is in
    (spelled, [], ap (λ (l : List ℕ). l ++ spelled) none ∙ sym (append-nil spelled), here, refl)
one_more header before (first ∷ blocks) block bytes spelled (front, back, joined, first_is, rest) is =
    let behind = subst (λ (b : List Block). SpellsBlock (messages_of b) header block spelled) (sym (append_assoc before (first ∷ []) blocks)) is in
    (front, back ++ spelled, ap (λ (l : List ℕ). l ++ spelled) joined ∙ append_assoc front back spelled, first_is, one_more header (before ++ first ∷ []) blocks block back spelled rest behind)

-- a file goes on with a block
pub file_goes_on : (header : Header) (blocks : List Block) (block : Block) (bytes spelled : List ℕ) → FileOf header blocks bytes → SpellsBlock (messages_of blocks) header block spelled → FileOf header (blocks ++ block ∷ []) (bytes ++ spelled)
file_goes_on header blocks block bytes spelled file is = record {
  block_bytes = file.block_bytes ++ spelled;
  spelled = one_more header [] blocks block file.block_bytes spelled file.spelled is;
  joined = ap (λ (l : List ℕ). l ++ spelled) file.joined ∙ append_assoc (header_bytes header) file.block_bytes spelled;
}

-- ---- fronts

pub begins_apart : (bytes : List ℕ) (header : Header) (blocks : List Block) (count : ℕ) → (b : BeginsWithLog bytes header blocks count) → bytes ≡ header_bytes header ++ (b.file.block_bytes ++ b.rest)
begins_apart bytes header blocks count b = b.whole ∙ ap (λ (f : List ℕ). f ++ b.rest) b.file.joined ∙ append_assoc (header_bytes header) b.file.block_bytes b.rest

-- a log behind which no right block stands is the front
pub cut_is_front : (header : Header) (blocks : List Block) (bytes rest : List ℕ) → FileOf header blocks bytes → Valid header blocks → StopsAt header blocks rest → Front (bytes ++ rest) header blocks (length bytes)
cut_is_front header blocks bytes rest file valid stops = record {
  begins = record { prefix = bytes; rest = rest; whole = refl; taken = refl; file = file; valid = valid };
  longest = λ others less b.
      let joined : bytes ++ rest ≡ header_bytes header ++ (file.block_bytes ++ rest) = ap (λ (f : List ℕ). f ++ rest) file.joined ∙ append_assoc (header_bytes header) file.block_bytes rest in
      let behind = (same_fronts (header_bytes header) (header_bytes header) (file.block_bytes ++ rest) (b.file.block_bytes ++ b.rest) refl (sym joined ∙ begins_apart (bytes ++ rest) header others less b)).1 in
      no_longer header [] blocks others file.block_bytes b.file.block_bytes rest b.rest stops valid.blocks_right b.valid.blocks_right file.spelled b.file.spelled behind;
}

-- a file that is whole and right is its own front
pub whole_is_front : (header : Header) (blocks : List Block) (bytes : List ℕ) → FileOf header blocks bytes → Valid header blocks → Front bytes header blocks (length bytes)
whole_is_front header blocks bytes file valid =
    subst (λ (b : List ℕ). Front b header blocks (length bytes)) (append-nil bytes) (cut_is_front header blocks bytes [] file valid (λ block front back right is. some_byte (messages_of blocks) header block front back is))

same_front_of : (bytes : List ℕ) (header : Header) (blocks others : List Block) (count less : ℕ) → Front bytes header blocks count → Front bytes header others less → (blocks ≡ others) × (count ≡ less)
same_front_of bytes header blocks others count less p q =
    let b = p.begins in
    let c = q.begins in
    let behind = (same_fronts (header_bytes header) (header_bytes header) (b.file.block_bytes ++ b.rest) (c.file.block_bytes ++ c.rest) refl (sym (begins_apart bytes header blocks count b) ∙ begins_apart bytes header others less c)).1 in
    let counts : length blocks ≡ length others = omega (arith, p.longest others less c, q.longest blocks count b) in
    let runs = one_run header [] blocks others b.file.block_bytes c.file.block_bytes b.rest c.rest b.valid.blocks_right c.valid.blocks_right b.file.spelled c.file.spelled behind counts in
    (runs.0, b.taken ∙ ap length (b.file.joined ∙ ap (λ (l : List ℕ). header_bytes header ++ l) runs.1 ∙ sym c.file.joined) ∙ sym c.taken)

-- bytes have one front
pub one_front : (bytes : List ℕ) (header header2 : Header) (blocks others : List Block) (count less : ℕ) → Front bytes header blocks count → Front bytes header2 others less → (header ≡ header2) × (blocks ≡ others) × (count ≡ less)
one_front bytes header header2 blocks others count less p q =
    let b = p.begins in
    let c = q.begins in
    let headers = (one_header header header2 (b.file.block_bytes ++ b.rest) (c.file.block_bytes ++ c.rest) b.valid.header_right c.valid.header_right (sym (begins_apart bytes header blocks count b) ∙ begins_apart bytes header2 others less c)).0 in
    let same = same_front_of bytes header blocks others count less p (subst (λ (h : Header). Front bytes h others less) (sym headers) q) in
    (headers, same.0, same.1)

-- ---- headers at the front

-- bytes that begin with a right header have one
pub some_header : (header : Header) (rest : List ℕ) → IsHeader header → ¬ (HasNoHeader (header_bytes header ++ rest))
some_header header rest right none = none header [] (length (header_bytes header)) (record {
  prefix = header_bytes header;
  rest = rest;
  whole = refl;
  taken = refl;
  file = empty_file header;
  valid = record { header_right = right; blocks_right = tt };
})

-- bytes that begin with none have none
pub no_header : (bytes : List ℕ) → ((header : Header) (rest : List ℕ) → IsHeader header → bytes ≢ header_bytes header ++ rest) → HasNoHeader bytes
no_header bytes never header blocks count b = never header (b.file.block_bytes ++ b.rest) b.valid.header_right (begins_apart bytes header blocks count b)

long_enough : (header : Header) (rest : List ℕ) → 30 ≤ length (header_bytes header ++ rest)
long_enough header rest = omega (arith, length-append (header_bytes header) rest, length-header_bytes header, some_len header.version)

pub short_bytes : (bytes : List ℕ) → length bytes < 30 → HasNoHeader bytes
short_bytes bytes short = no_header bytes (λ header rest right e. omega (arith, short, long_enough header rest, ap length e))
