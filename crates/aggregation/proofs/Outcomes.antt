-- What the answer says of a log that was scanned.
use Rattle.std.proofs.Common.{◌≡◌, ℕ, ◌<◌, ◌≤◌, Bool, true, false, List, length, Option, Some, None, Ok, Err, refl, sym, subst}
use Rattle.std.specs.Prelude.{IfSome, nat_lt, if◌then◌else◌}
use Rattle.std.proofs.lemmas.Bool.{ltb-true, ltb-false}
use Rattle.nl_io.specs.Content.{Told}
use Rattle.checkpoint_io.specs.Blocks.{Block, messages_of}
use Rattle.log_scan.specs.declared.scan.ScanEnd.{ScanEnd}
use Rattle.log_scan.specs.declared.scan.ScanEnd.TheVariants as ends
use Rattle.log_scan.specs.Parts.{LogPart, blocks_read}
use Rattle.log_scan.specs.Scans.{IsWholeScan, IsDamagedScan, EndsWhole, EndsScan}
use Rattle.log_scan.proofs.lemmas.Ends.{some_of}
use Rattle.aggregation.specs.declared.fault.AggregateFault.TheVariants.{Damaged, NoSuchMessage, NoSuchArgument}
use Rattle.aggregation.specs.Totals.{has_number, argument_totals, totals_in}
use Rattle.aggregation.specs.Aggregating.{answer_for, answer_at, HaveAnswer, AnswersTotals}
use Rattle.aggregation.proofs.Arguments.{there, not_there}

-- ---- a whole log

-- it has these blocks
abbrev IsWholeOf : List Block → List ℕ → Type 0
IsWholeOf blocks bytes = (part : LogPart) × IsWholeScan bytes part × (part.blocks ≡ blocks)

whole_of : (bytes : List ℕ) (part : Option LogPart) → EndsWhole bytes part → IsWholeOf (blocks_read part) bytes
whole_of bytes None wrong = absurd wrong
whole_of bytes (Some part) whole = (part, whole, refl)

module _ (left behind : Told) (blocks : List Block) (id nth : ℕ) (whole : IfSome left (IsWholeOf blocks)) where
  without : has_number (messages_of blocks) id nth ≡ false → (missing : Bool) → missing ≡ nat_lt id (length (messages_of blocks)) → AnswersTotals left behind id nth (if missing then Err NoSuchArgument else Err NoSuchMessage)
  without none true is =
      some_of left (IsWholeOf blocks) (HaveAnswer id nth (Err NoSuchArgument))
      (λ bytes (part, scanned, same). (
        part,
        scanned,
        subst (λ (bs : List Block). id < length (messages_of bs)) (sym same) (ltb-true id (length (messages_of blocks)) (sym is)),
        subst (λ (bs : List Block). totals_in bs id nth ≡ None) (sym same) (sym (not_there (messages_of blocks) id nth (argument_totals blocks id nth) none)),
      ))
      whole
  without none false is =
      some_of left (IsWholeOf blocks) (HaveAnswer id nth (Err NoSuchMessage))
      (λ bytes (part, scanned, same). (part, scanned, subst (λ (bs : List Block). length (messages_of bs) ≤ id) (sym same) (ltb-false id (length (messages_of blocks)) (sym is))))
      whole

  by_number : (number : Bool) → number ≡ has_number (messages_of blocks) id nth
      → AnswersTotals left behind id nth (if number then Ok (argument_totals blocks id nth) else (if nat_lt id (length (messages_of blocks)) then Err NoSuchArgument else Err NoSuchMessage))
  by_number true is =
      some_of left (IsWholeOf blocks) (HaveAnswer id nth (Ok (argument_totals blocks id nth)))
      (λ bytes (part, scanned, same). (
        part,
        scanned,
        subst (λ (bs : List Block). totals_in bs id nth ≡ Some (argument_totals blocks id nth)) (sym same) (sym (there (messages_of blocks) id nth (argument_totals blocks id nth) (sym is))),
      ))
      whole
  by_number false is = without (sym is) (nat_lt id (length (messages_of blocks))) refl

  pub answers_whole : AnswersTotals left behind id nth (answer_for (messages_of blocks) id nth (argument_totals blocks id nth))
  answers_whole = by_number (has_number (messages_of blocks) id nth) refl

-- ---- how the scan ended

-- what the answer says by the end of the scan is said of the bytes
pub answers_scan : (left behind : Told) (part : Option LogPart) (id nth : ℕ) (end : ScanEnd) → EndsScan left behind part end → AnswersTotals left behind id nth (answer_at (blocks_read part) id nth end)
answers_scan left behind part id nth ends.Whole ended =
    answers_whole left behind (blocks_read part) id nth (some_of left (λ bytes. EndsWhole bytes part) (IsWholeOf (blocks_read part)) (λ bytes. whole_of bytes part) ended)
answers_scan left behind part id nth (ends.Damaged offset cause) ended =
    some_of left (λ bytes. IsDamagedScan bytes part offset cause) (HaveAnswer id nth (Err (Damaged offset cause (totals_in (blocks_read part) id nth)))) (λ bytes damaged. (part, damaged, refl)) ended
answers_scan left behind part id nth ends.ReadFault (bytes, parted, cut) = (bytes, parted, cut.alone)
