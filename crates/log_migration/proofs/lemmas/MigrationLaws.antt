-- What the definition of a migrated log says of all files.
use Rattle.std.proofs.Common.{◌≡◌, ℕ, ◌≤◌, ◌<◌, List, [], ◌∷◌, ◌++◌, length, Result, Ok, Err, refl, ap, sym, subst, ◌∙◌, append-nil, inl, inr, arith}
use Rattle.checkpoint_io.specs.declared.header.Header.{Header}
use Rattle.checkpoint_io.specs.declared.cause.Cause.{Cause}
use Rattle.checkpoint_io.specs.Blocks.{Block, Fragment, Extent, NewClock, Close, FileOf}
use Rattle.checkpoint_io.specs.Fronts.{BeginsWithLog}
use Rattle.checkpoint_io.specs.NextBlocks.{StopsAt}
use Rattle.checkpoint_io.specs.Validity.{IsRightAfter, AreRightAfter, IsHeader, Valid}
use Rattle.checkpoint_io.proofs.lemmas.FileLaws.{one_log, more_than_read}
use Rattle.checkpoint_io.proofs.lemmas.BreakLaws.{whole_or_break}
use Rattle.log_migration.specs.declared.fault.MigrateFault.{MigrateFault}
use Rattle.log_migration.specs.declared.fault.MigrateFault.TheVariants.{ReadFault, Damaged, NotOne, TooLarge, NoMemory}
use Rattle.log_migration.specs.Migrating.{version_2, IsMigrated, BeginsWithVersion, HaveMigration}
use Rattle.log_migration.proofs.NextBlocks.{few_of}
use Rattle.log_migration.proofs.Outcomes.{not_two}
use Rattle.log_migration.proofs.Spellings.{file_one}

-- ---- one outcome

pub one_migration : (bytes migrated other : List ℕ) (count many : ℕ) → IsMigrated bytes migrated count → IsMigrated bytes other many → (migrated ≡ other) × (count ≡ many)
one_migration bytes migrated other count many is is_too =
    let one = one_log is.header is_too.header is.blocks is_too.blocks bytes is.file is.valid is_too.file is_too.valid in
    let spelled : FileOf (version_2 is.header) is.blocks other = subst (λ (h : Header). FileOf (version_2 h) is.blocks other) (sym one.0) (subst (λ (bs : List Block). FileOf (version_2 is_too.header) bs other) (sym one.1) is_too.spelled) in
    (file_one (version_2 is.header) is.blocks migrated other is.spelled spelled, is.many ∙ ap length one.1 ∙ sym is_too.many)

-- ---- a right log

right_header : (header : Header) → IsHeader header → IsHeader (version_2 header)
right_header header right = record {
  version_known = refl;
  some_writer = right.some_writer;
  few_writers = few_of header right.few_writers;
  tick_fits = right.tick_fits;
  nanos_fits = right.nanos_fits;
  rate_fits = right.rate_fits;
  rate = right.rate;
}

right_block : (header : Header) (before : List Block) (block : Block) → IsRightAfter header before block → IsRightAfter (version_2 header) before block
right_block header before (Fragment first messages) right = right
right_block header before (Extent writer records) right = record { writer_open = record { known = right.writer_open.known; unclosed = right.writer_open.unclosed }; right = right.right; rising = right.rising }
right_block header before (NewClock clock) right = record { few = right.few; rising = right.rising; early = right.early; rate = right.rate }
right_block header before (Close writer) right = record { known = right.known; unclosed = right.unclosed }

right_blocks : (header : Header) (before blocks : List Block) → AreRightAfter header before blocks → AreRightAfter (version_2 header) before blocks
right_blocks header before [] right = tt
right_blocks header before (block ∷ blocks) right = (right_block header before block right.0, right_blocks header (before ++ block ∷ []) blocks right.1)

-- the same blocks are right in version 2
pub right_log : (header : Header) (blocks : List Block) → Valid header blocks → Valid (version_2 header) blocks
right_log header blocks valid = record { header_right = right_header header valid.header_right; blocks_right = right_blocks header [] blocks valid.blocks_right }

-- ---- one answer

module _ (header : Header) (blocks : List Block) (bytes migrated old new : List ℕ) (one : header.version ≡ 1) (file : FileOf header blocks bytes) (valid : Valid header blocks) (short : length bytes ≤ 134217728) (spelled : FileOf (version_2 header) blocks migrated) where
  this : IsMigrated bytes migrated (length blocks)
  this = record { header = header; blocks = blocks; version = one; file = file; valid = valid; spelled = spelled; many = refl }

  begins : BeginsWithLog bytes header blocks (length bytes)
  begins = record { prefix = bytes; rest = []; whole = sym (append-nil bytes); taken = refl; file = file; valid = valid }

  unbroken : (offset : ℕ) (cause : Cause) → StopsAt bytes offset cause → ⊥
  unbroken offset cause (inl breaks) = whole_or_break header blocks bytes offset cause file valid breaks
  unbroken offset cause (inr (named, large)) = more_than_read bytes offset large short

  pub fitting_answer : length migrated ≤ 134217728 → (answer : Result ℕ MigrateFault) → HaveMigration old new answer bytes → (answer ≡ Ok (length blocks)) × (new ≡ old ++ migrated)
  fitting_answer fits (Ok count) (found, is, within, fits_too, put) =
      let same = one_migration bytes found migrated count (length blocks) is this in
      (ap Ok same.1, put ∙ ap (λ (l : List ℕ). old ++ l) same.0)
  fitting_answer fits (Err (Damaged offset cause)) (stops, other) = absurd (unbroken offset cause stops)
  fitting_answer fits (Err NotOne) two = absurd (not_two bytes header blocks (length bytes) begins one two)
  fitting_answer fits (Err TooLarge) (found, count, is, within, large) =
      absurd (omega (arith, fits, large, ap length (one_migration bytes found migrated count (length blocks) is this).0))
  fitting_answer fits (Err ReadFault) wrong = absurd wrong
  fitting_answer fits (Err NoMemory) wrong = absurd wrong

  pub large_answer : 134217728 < length migrated → (answer : Result ℕ MigrateFault) → HaveMigration old new answer bytes → answer ≡ Err TooLarge
  large_answer large (Ok count) (found, is, within, fits, put) =
      absurd (omega (arith, fits, large, ap length (one_migration bytes found migrated count (length blocks) is this).0))
  large_answer large (Err (Damaged offset cause)) (stops, other) = absurd (unbroken offset cause stops)
  large_answer large (Err NotOne) two = absurd (not_two bytes header blocks (length bytes) begins one two)
  large_answer large (Err TooLarge) is = refl
  large_answer large (Err ReadFault) wrong = absurd wrong
  large_answer large (Err NoMemory) wrong = absurd wrong

never_migrated : (bytes migrated : List ℕ) (count : ℕ) → BeginsWithVersion 2 bytes → IsMigrated bytes migrated count → ⊥
never_migrated bytes migrated count two is =
    not_two bytes is.header is.blocks (length bytes) (record { prefix = bytes; rest = []; whole = sym (append-nil bytes); taken = refl; file = is.file; valid = is.valid }) is.version two

pub answer_of_2 : (bytes old new : List ℕ) (answer : Result ℕ MigrateFault) → BeginsWithVersion 2 bytes → HaveMigration old new answer bytes → answer ≡ Err NotOne
answer_of_2 bytes old new (Ok count) two (found, is, within, fits, put) = absurd (never_migrated bytes found count two is)
answer_of_2 bytes old new (Err (Damaged offset cause)) two (stops, other) = absurd (other two)
answer_of_2 bytes old new (Err NotOne) two is = refl
answer_of_2 bytes old new (Err TooLarge) two (found, count, is, within, large) = absurd (never_migrated bytes found count two is)
answer_of_2 bytes old new (Err ReadFault) two wrong = absurd wrong
answer_of_2 bytes old new (Err NoMemory) two wrong = absurd wrong
