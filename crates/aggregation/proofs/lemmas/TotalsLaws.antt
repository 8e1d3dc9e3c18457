-- What the definitions of totals and answers say of all files.
use Rattle.std.proofs.Common.{◌≡◌, ℕ, suc, ◌<◌, ◌≤◌, List, [], ◌∷◌, length, Option, Some, None, Result, Ok, Err, ℤ, refl, ap, sym, ◌∙◌, subst, inl, inr, ◌⊎◌, arith}
use Rattle.std.specs.Prelude.{◌≤ℤ◌, fold, All, Contains}
use Rattle.std.specs.Int.{int_min, int_max}
use Rattle.std.proofs.lemmas.Int.{fold-int_min_bounds, fold-int_max_bounds, fold-int_min_reached, fold-int_max_reached}
use Rattle.std.proofs.lemmas.List.Elements.{All-cons}
use Rattle.std.proofs.lemmas.Option.{same_Some}
use Rattle.checkpoint_io.specs.declared.cause.Cause.{Cause}
use Rattle.checkpoint_io.specs.declared.header.Header.{Header}
use Rattle.checkpoint_io.specs.Blocks.{Block, messages_of, FileOf}
use Rattle.checkpoint_io.specs.Validity.{Valid}
use Rattle.checkpoint_io.proofs.lemmas.FrontLaws.{one_front, whole_is_front}
use Rattle.checkpoint_io.proofs.lemmas.BreakLaws.{whole_or_break}
use Rattle.aggregation.specs.declared.totals.Totals.{Totals}
use Rattle.aggregation.specs.declared.fault.AggregateFault.{AggregateFault}
use Rattle.aggregation.specs.declared.fault.AggregateFault.TheVariants.{ReadFault, Damaged, NoSuchMessage, NoSuchArgument, NoMemory}
use Rattle.aggregation.specs.Totals.{range_of, argument_totals, totals_in, HasBlocks, TotalsOf}
use Rattle.aggregation.specs.Totals.HasBlocks.{of_front, of_nothing}
use Rattle.log_scan.specs.Parts.{LogPart, blocks_read}
use Rattle.log_scan.specs.Scans.{IsWholeScan, HasFront}
use Rattle.aggregation.specs.Aggregating.{answer_for, HaveAnswer}
use Rattle.aggregation.proofs.Arguments.{some_answer, no_argument, no_message}

-- ---- ranges

one_of : (first : ℤ) (others : List ℤ) (number : ℤ) → (number ≡ first) ⊎ Contains others number → Contains (first ∷ others) number
one_of first others number (inl is) = (0, omega arith, sym is)
one_of first others number (inr (place, within, is)) = (suc place, omega (arith, within), is)

pub reached : (numbers : List ℤ) (least greatest : ℤ) → range_of numbers ≡ Some (least, greatest) → Contains numbers least × Contains numbers greatest × All (λ number. least ≤ℤ number) numbers × All (λ number. number ≤ℤ greatest) numbers
reached [] least greatest is = cc
reached (first ∷ others) least greatest is =
    let both = same_Some (fold int_min first others, fold int_max first others) (least, greatest) is in
    let low : least ≡ fold int_min first others = ap (λ (pair : ℤ × ℤ). pair.0) (sym both) in
    let high : greatest ≡ fold int_max first others = ap (λ (pair : ℤ × ℤ). pair.1) (sym both) in
    let above = fold-int_min_bounds first others least low in
    let below = fold-int_max_bounds first others greatest high in (
      one_of first others least (fold-int_min_reached first others least low),
      one_of first others greatest (fold-int_max_reached first others greatest high),
      All-cons (λ number. least ≤ℤ number) first others above.0 above.1,
      All-cons (λ number. number ≤ℤ greatest) first others below.0 below.1,
    )

pub none_of_none : (numbers : List ℤ) → length numbers ≡ 0 → range_of numbers ≡ None
none_of_none [] none = refl
none_of_none (first ∷ others) none = absurd (omega (arith, none))

pub none_from_none : (numbers : List ℤ) → range_of numbers ≡ None → length numbers ≡ 0
none_from_none [] none = refl
none_from_none (first ∷ others) none = cc

-- ---- one file

same_blocks : (bytes : List ℕ) (blocks others : List Block) → HasBlocks bytes blocks → HasBlocks bytes others → blocks ≡ others
same_blocks bytes blocks others (of_front header count front) (of_front other less front_too) = (one_front bytes header other blocks others count less front front_too).1
same_blocks bytes blocks others (of_front header count front) (of_nothing none is) = absurd (none header blocks count front.begins)
same_blocks bytes blocks others (of_nothing none is) (of_front header count front) = absurd (none header others count front.begins)
same_blocks bytes blocks others (of_nothing none is) (of_nothing none_too is_too) = is ∙ sym is_too

pub one_totals : (bytes : List ℕ) (id nth : ℕ) (totals other : Option Totals) → TotalsOf bytes id nth totals → TotalsOf bytes id nth other → totals ≡ other
one_totals bytes id nth totals other is is_too =
    is.are ∙ ap (λ (blocks : List Block). totals_in blocks id nth) (same_blocks bytes is.blocks is_too.blocks is.of_file is_too.of_file) ∙ sym is_too.are

pub whole_totals : (header : Header) (blocks : List Block) (bytes : List ℕ) (id nth : ℕ) → FileOf header blocks bytes → Valid header blocks → TotalsOf bytes id nth (totals_in blocks id nth)
whole_totals header blocks bytes id nth file valid = record {
  blocks = blocks;
  of_file = of_front header (length bytes) (whole_is_front header blocks bytes file valid);
  are = refl;
}

-- ---- one answer

module _ (header : Header) (blocks : List Block) (bytes : List ℕ) (id nth : ℕ) (file : FileOf header blocks bytes) (valid : Valid header blocks) (short : length bytes ≤ 134217728) where
  these : (part : LogPart) → IsWholeScan bytes part → part.blocks ≡ blocks
  these part whole = (one_front bytes part.header header part.blocks blocks (length bytes) (length bytes) whole.front (whole_is_front header blocks bytes file valid)).1

  pub one_answer : (answer : Result Totals AggregateFault) → HaveAnswer id nth answer bytes → answer ≡ answer_for (messages_of blocks) id nth (argument_totals blocks id nth)
  one_answer (Ok totals) (part, whole, is) =
      some_answer (messages_of blocks) id nth (argument_totals blocks id nth) totals (ap (λ (bs : List Block). totals_in bs id nth) (sym (these part whole)) ∙ is)
  one_answer (Err (Damaged offset cause front)) (part, damaged, is) = absurd (whole_or_break header blocks bytes offset cause file valid (damaged.breaks short))
  one_answer (Err NoSuchMessage) (part, whole, past) =
      no_message (messages_of blocks) id nth (argument_totals blocks id nth) (subst (λ (bs : List Block). length (messages_of bs) ≤ id) (these part whole) past)
  one_answer (Err NoSuchArgument) (part, whole, within, is) =
      no_argument (messages_of blocks) id nth (argument_totals blocks id nth) (subst (λ (bs : List Block). id < length (messages_of bs)) (these part whole) within)
      (ap (λ (bs : List Block). totals_in bs id nth) (sym (these part whole)) ∙ is)
  one_answer (Err ReadFault) wrong = absurd wrong
  one_answer (Err NoMemory) wrong = absurd wrong

pub tells_whole : (bytes : List ℕ) (id nth : ℕ) (totals : Totals) → HaveAnswer id nth (Ok totals) bytes → TotalsOf bytes id nth (Some totals)
tells_whole bytes id nth totals (part, whole, is) = record { blocks = part.blocks; of_file = of_front part.header (length bytes) whole.front; are = sym is }

-- the blocks of the front that was read
front_blocks : (bytes : List ℕ) (part : Option LogPart) → HasFront bytes part → HasBlocks bytes (blocks_read part)
front_blocks bytes None none = of_nothing none refl
front_blocks bytes (Some part) (count, front) = of_front part.header count front

pub tells_front : (bytes : List ℕ) (id nth offset : ℕ) (cause : Cause) (front : Option Totals) → length bytes ≤ 134217728 → HaveAnswer id nth (Err (Damaged offset cause front)) bytes → TotalsOf bytes id nth front
tells_front bytes id nth offset cause front short (part, damaged, is) = record { blocks = blocks_read part; of_file = front_blocks bytes part (damaged.all short); are = sym is }
