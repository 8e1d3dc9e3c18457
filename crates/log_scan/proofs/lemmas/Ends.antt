-- What the end of a scan says of the bytes.
use Rattle.std.proofs.Common.{◌≡◌, ℕ, ◌≤◌, List, ◌++◌, length, Some, None, refl, ap, sym, subst, inl, inr, arith}
use Rattle.std.specs.Prelude.{IfSome}
use Rattle.nl_io.specs.Content.{Told}
use Rattle.checkpoint_io.specs.declared.cause.Cause.{Cause}
use Rattle.checkpoint_io.specs.declared.cause.Cause.TheVariants as causes
use Rattle.checkpoint_io.specs.Blocks.{FileOf}
use Rattle.checkpoint_io.specs.Validity.{Valid}
use Rattle.checkpoint_io.specs.Fronts.{BeginsWithLog, Break, IsCutAt}
use Rattle.checkpoint_io.specs.NextBlocks.{StopsAt}
use Rattle.checkpoint_io.proofs.lemmas.FrontLaws.{whole_is_front}
use Rattle.checkpoint_io.proofs.lemmas.BreakLaws.{whole_or_break, cut_alone}
use Rattle.checkpoint_io.proofs.lemmas.FileLaws.{broken_there, cut_there, large_there, more_than_read, no_header}
use Rattle.log_scan.specs.Parts.{LogPart}
use Rattle.log_scan.specs.Scans.{BeginsWithin, IsWholeScan, IsDamagedScan, IsCutScan}
use Rattle.log_scan.specs.Scans.IsPartWithin.{of_front, of_part}

-- ---- what is told

pub some_of : (told : Told) (P Q : List ℕ → Type 0) → ((bytes : List ℕ) → P bytes → Q bytes) → IfSome told P → IfSome told Q
some_of None P Q then p = tt
some_of (Some bytes) P Q then p = then bytes p

pub some_of_both : (told : Told) (P Q R : List ℕ → Type 0) → ((bytes : List ℕ) → P bytes → Q bytes → R bytes) → IfSome told P → IfSome told Q → IfSome told R
some_of_both None P Q R then p q = tt
some_of_both (Some bytes) P Q R then p q = then bytes p q

-- ---- a part that was read

module _ (bytes : List ℕ) (part : LogPart) (taken : List ℕ) (offset : ℕ) (file : FileOf part.header part.blocks taken) (valid : Valid part.header part.blocks) (within : length taken ≤ 134217728) (ends : offset ≡ length taken) where
  -- the whole file
  pub is_whole_scan : bytes ≡ taken → IsWholeScan bytes part
  is_whole_scan all = record {
    within = omega (arith, ap length all, within);
    unbroken = λ offset cause. whole_or_break part.header part.blocks bytes offset cause all_file valid;
    front = whole_is_front part.header part.blocks bytes all_file valid;
  }
    where
      all_file : FileOf part.header part.blocks bytes
      all_file = subst (FileOf part.header part.blocks) (sym all) file

  module _ (begins : (rest : List ℕ) × (bytes ≡ taken ++ rest)) where
    begun : BeginsWithLog bytes part.header part.blocks offset
    begun = record { prefix = taken; rest = begins.0; whole = begins.1; taken = ends; file = file; valid = valid }

    fits : offset ≤ 134217728
    fits = omega (arith, ends, within)

    pub begins_within : BeginsWithin bytes (Some part) offset
    begins_within = (begun, fits)

    -- bytes that are cut off
    pub is_cut_scan : IsCutAt bytes offset → IsCutScan bytes (Some part)
    is_cut_scan cut = record {
      alone = cut_alone bytes offset cut;
      all = (offset, cut_there bytes part.header part.blocks offset begun cut);
      offset = offset;
      begins = begins_within;
    }

    -- a file that breaks
    pub is_damaged_scan : (cause : Cause) → StopsAt bytes offset cause → IsDamagedScan bytes (Some part) offset cause
    is_damaged_scan cause (inl breaks) =
        let front = broken_there bytes part.header part.blocks offset cause begun breaks in
        record { stops = inl breaks; before = of_front front fits; breaks = λ short. breaks; all = λ short. (offset, front) }
    is_damaged_scan cause (inr (named, large)) =
        let past = more_than_read bytes offset large in
        record {
          stops = inr (named, large);
          before = of_part large.block large.count begun fits (large_there bytes part.header part.blocks offset begun large) large.large;
          breaks = λ short. absurd (past short);
          all = λ short. absurd (past short);
        }

-- ---- no header

pub header_damaged : (bytes : List ℕ) (cause : Cause) → Break bytes 0 cause → IsDamagedScan bytes None 0 cause
header_damaged bytes cause breaks =
    let none = no_header bytes cause breaks in
    record { stops = inl breaks; before = (none, refl); breaks = λ short. breaks; all = λ short. none }

pub header_cut : (bytes : List ℕ) → Break bytes 0 causes.Cut → IsCutScan bytes None
header_cut bytes cut = record {
  alone = cut_alone bytes 0 (inl cut);
  all = no_header bytes causes.Cut cut;
  offset = 0;
  begins = refl;
}
