-- What is answered of a log.
use Rattle.std.proofs.Common.{◌≡◌, ℕ, Bool, true, false, ◌||◌, nat_eq, List, [], ◌++◌, length, get_or, Option, Some, None, Err, refl, ap, sym, subst, ◌∙◌, append-nil, inl, arith}
use Rattle.std.specs.Prelude.{IfSome}
use Rattle.std.proofs.lemmas.Bool.{eqb-true}
use Rattle.nl_io.specs.Content.{Told}
use Rattle.log_dictionary.proofs.lemmas.BinaryLaws.{same_fronts}
use Rattle.checkpoint_io.specs.declared.cause.Cause.{Cause}
use Rattle.checkpoint_io.specs.declared.cause.Cause.TheVariants as causes
use Rattle.checkpoint_io.specs.declared.fault.BlockFault.{BlockFault}
use Rattle.checkpoint_io.specs.declared.fault.BlockFault.TheVariants as reading
use Rattle.checkpoint_io.specs.declared.header.Header.{Header}
use Rattle.checkpoint_io.specs.Versions.{is_known}
use Rattle.checkpoint_io.specs.Blocks.{Block, FileOf}
use Rattle.checkpoint_io.specs.Fronts.{BeginsWithLog, HasNoHeader, Break}
use Rattle.checkpoint_io.specs.Places.{with_front, TookSuch}
use Rattle.checkpoint_io.specs.Readers.{ReaderState, StandsFor}
use Rattle.checkpoint_io.proofs.lemmas.BlockLaws.{header_nested}
use Rattle.checkpoint_io.proofs.lemmas.BreakLaws.{cut_alone}
use Rattle.checkpoint_io.proofs.lemmas.FileLaws.{file_begins, no_header}
use Rattle.checkpoint_io.proofs.lemmas.FrontLaws.{begins_apart}
use Rattle.log_scan.specs.declared.scan.ScanEnd.{ScanEnd}
use Rattle.log_scan.specs.declared.scan.ScanEnd.TheVariants as ends
use Rattle.log_scan.specs.Parts.{LogPart, header_alone, log_part}
use Rattle.log_scan.specs.Scans.{IsPartWithin, IsWholeScan, IsDamagedScan, EndsWhole, EndsScan, IsReaderOf, scan_of, Scans}
use Rattle.log_scan.specs.Scans.IsPartWithin.{of_front, of_part}
use Rattle.log_scan.proofs.lemmas.Ends.{some_of}
use Rattle.log_migration.specs.declared.fault.MigrateFault.TheVariants.{ReadFault, Damaged}
use Rattle.log_migration.specs.declared.migration.Migration.{Migration}
use Rattle.log_migration.specs.Migrating.{BeginsWithVersion, HaveMigration, AnswersMigration}
use Rattle.log_migration.specs.Migrations.{HasMigration, IsWholeMigration, fault_of}

-- ---- the version at the front

-- it is the fifth byte
version_at : (bytes : List ℕ) (header : Header) (blocks : List Block) (count : ℕ) → BeginsWithLog bytes header blocks count → get_or bytes 4 0 ≡ header.version
version_at bytes header blocks count begins =
    ap (λ (l : List ℕ). get_or l 4 0) (begins_apart bytes header blocks count begins ∙ header_nested header (begins.file.block_bytes ++ begins.rest))

one_or_two : (version : ℕ) → version ≡ 1 → version ≡ 2 → ⊥
one_or_two version one two = absurd (omega (arith, one, two))

pub not_two : (bytes : List ℕ) (header : Header) (blocks : List Block) (count : ℕ) → BeginsWithLog bytes header blocks count → header.version ≡ 1 → ¬ (BeginsWithVersion 2 bytes)
not_two bytes header blocks count begins one (other, less, begins_too, two) =
    one_or_two (get_or bytes 4 0) (version_at bytes header blocks count begins ∙ one) (version_at bytes other [] less begins_too ∙ two)

none_begins : (bytes : List ℕ) → HasNoHeader bytes → ¬ (BeginsWithVersion 2 bytes)
none_begins bytes none (header, count, begins, two) = none header [] count begins

-- ---- no header

pub answers_no_header : (left behind : Told) (old new : List ℕ) (fault : BlockFault) → ((cause : Cause) → fault ≡ reading.Damaged cause → IfSome left (λ bytes. Break bytes 0 cause)) → (fault ≡ reading.ReadFault → TookSuch (λ bytes. Break bytes 0 causes.Cut) left behind) → AnswersMigration left behind old new (Err (fault_of fault))
answers_no_header left behind old new (reading.Damaged cause) damaged cut =
    some_of left (λ bytes. Break bytes 0 cause) (HaveMigration old new (Err (Damaged 0 cause))) (λ bytes breaks. (inl breaks, none_begins bytes (no_header bytes cause breaks))) (damaged cause refl)
answers_no_header left behind old new reading.ReadFault damaged cut =
    let (bytes, parted, breaks) = cut refl in
    (bytes, parted, (cut_alone bytes 0 (inl breaks), none_begins bytes (no_header bytes causes.Cut breaks)))
answers_no_header left behind old new reading.NoMemory damaged cut = tt

-- ---- another version

is_two : (version : ℕ) → is_known version ≡ true → ¬ (version ≡ 1) → version ≡ 2
is_two version known other = by_test (nat_eq version 1) refl known
  where
    by_test : (one : Bool) → nat_eq version 1 ≡ one → (one || nat_eq version 2) ≡ true → version ≡ 2
    by_test true is known = absurd (other (eqb-true version 1 is))
    by_test false is known = eqb-true version 2 known

pub not_one : (left behind : Told) (reader : ReaderState) (taken : List ℕ) → (read : StandsFor reader taken) → read.blocks ≡ [] → left ≡ with_front (taken ++ reader.waiting.bytes) behind → ¬ (reader.header.version ≡ 1) → IfSome left (BeginsWithVersion 2)
not_one left behind reader taken read none joined other =
    subst (λ (told : Told). IfSome told (BeginsWithVersion 2)) (sym joined)
    (some_of (with_front (taken ++ reader.waiting.bytes) behind) (λ bytes. (rest : List ℕ) × (bytes ≡ taken ++ rest)) (BeginsWithVersion 2)
    (λ bytes (rest, whole). (
      reader.header,
      length taken,
      subst (λ (blocks : List Block). BeginsWithLog bytes reader.header blocks (length taken)) none (record { prefix = taken; rest = rest; whole = whole; taken = refl; file = read.file; valid = read.valid }),
      is_two reader.header.version read.valid.header_right.version_known other,
    ))
    (file_begins taken reader.waiting.bytes behind))

-- ---- a log of version 1

-- the part is of version 1, as its reader's header is
part_of : (reader : ReaderState) (part : Option LogPart) → IsReaderOf (Some reader) part → reader.header.version ≡ 1 → (p : LogPart) × (part ≡ Some p) × (p.header.version ≡ 1)
part_of reader None wrong one = absurd wrong
part_of reader (Some p) knows one = (p, refl, ap (λ (h : Header). h.version) (sym knows.header) ∙ one)

whole_bytes : (bytes : List ℕ) (p : LogPart) → BeginsWithLog bytes p.header p.blocks (length bytes) → FileOf p.header p.blocks bytes
whole_bytes bytes p begins =
    subst (FileOf p.header p.blocks) (same_fronts begins.prefix bytes begins.rest [] (sym begins.taken) (sym begins.whole ∙ sym (append-nil bytes))).0 begins.file

whole_migration : (bytes : List ℕ) (p : LogPart) (migration : Migration) → p.header.version ≡ 1 → IsWholeScan bytes p → HasMigration migration (Some p) → IsWholeMigration bytes migration
whole_migration bytes p migration one whole has =
    let (migrated, spelled, holds) = has.made one in
    let begins = whole.front.begins in
    record {
      migrated = migrated;
      is = record { header = p.header; blocks = p.blocks; version = one; file = whole_bytes bytes p begins; valid = begins.valid; spelled = spelled; many = has.many };
      within = whole.within;
      holds = holds;
    }

begins_within : (bytes : List ℕ) (p : LogPart) (offset : ℕ) → IsPartWithin bytes p offset → BeginsWithLog bytes p.header p.blocks offset
begins_within bytes p offset (of_front front short) = front.begins
begins_within bytes p offset (of_part block count begins short more large) = begins

-- what was made of the header alone
pub begun : (reader : ReaderState) (taken : List ℕ) (header : Header) (migration : Migration) → (read : StandsFor reader taken) → read.blocks ≡ [] → header ≡ reader.header → HasMigration migration (Some (header_alone header)) → HasMigration migration (Some (log_part reader read.blocks))
begun reader taken header migration read none same has = subst (λ (part : LogPart). HasMigration migration (Some part)) (λ i. record { header = same i; blocks = sym none i }) has

module _ (left file behind : Told) (joined : left ≡ file) (migration : Migration) (reader : ReaderState) (one : reader.header.version ≡ 1) (end : ScanEnd) (scanned : Scans HasMigration file behind migration (scan_of end reader)) where
  -- the part that was read, and how that ended
  abbrev Ends : ScanEnd → Type 0
  Ends last = (p : LogPart) × (p.header.version ≡ 1) × HasMigration migration (Some p) × EndsScan left behind (Some p) last

  ends_so : (last : ScanEnd) → end ≡ last → Ends last
  ends_so last same =
      let (p, is, first) = part_of reader scanned.part scanned.read one in
      let ended = subst (EndsScan file behind scanned.part) same scanned.ends in
      (p, first, subst (HasMigration migration) is scanned.folded, subst (λ (told : Told). EndsScan told behind (Some p) last) (sym joined) (subst (λ (part : Option LogPart). EndsScan file behind part last) is ended))

  pub whole_made : end ≡ ends.Whole → IfSome left (λ bytes. IsWholeMigration bytes migration)
  whole_made same =
      let (p, first, has, ended) = ends_so ends.Whole same in
      some_of left (λ bytes. EndsWhole bytes (Some p)) (λ bytes. IsWholeMigration bytes migration) (λ bytes whole. whole_migration bytes p migration first whole has) ended

  pub answers_damaged : (old new : List ℕ) (offset : ℕ) (cause : Cause) → end ≡ ends.Damaged offset cause → AnswersMigration left behind old new (Err (Damaged offset cause))
  answers_damaged old new offset cause same =
      let (p, first, has, ended) = ends_so (ends.Damaged offset cause) same in
      some_of left (λ bytes. IsDamagedScan bytes (Some p) offset cause) (HaveMigration old new (Err (Damaged offset cause)))
      (λ bytes damaged. (damaged.stops, not_two bytes p.header p.blocks offset (begins_within bytes p offset damaged.before) first)) ended

  pub answers_failed : (old new : List ℕ) → end ≡ ends.ReadFault → AnswersMigration left behind old new (Err ReadFault)
  answers_failed old new same =
      let (p, first, has, (bytes, parted, cut)) = ends_so ends.ReadFault same in
      let (count, front) = cut.all in
      (bytes, parted, (cut.alone, not_two bytes p.header p.blocks count front.begins first))
