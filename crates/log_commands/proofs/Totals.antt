-- What `aggregate` reads of a log, by the answer, and the line on totals.
use Rattle.std.proofs.Common.{◌≡◌, ℕ, ℤ, List, [], ◌++◌, Some, Result, Ok, Err, codes, refl, inl, append_assoc, ◌∙◌}
use Rattle.std.specs.Prelude.{IfSome, IsErrOf}
use Rattle.std.specs.Fmt.{decimal, signed_decimal}
use Rattle.std.proofs.lemmas.List.{append-nil}
use Rattle.nl_io.specs.Count.{Rose}
use Rattle.nl_io.specs.Content.{Told}
use Rattle.nl_io.specs.Desk.{Desk}
use Rattle.aggregation.specs.declared.totals.Totals.{Totals}
use Rattle.aggregation.specs.declared.fault.AggregateFault.{AggregateFault}
use Rattle.aggregation.specs.declared.fault.AggregateFault.TheVariants as faults
use Rattle.aggregation.specs.Aggregating.{HaveAnswer, AnswersTotals}
use Rattle.command_base.specs.HeldFiles.{IsThere}
use Rattle.command_base.proofs.lemmas.HeldLaws.{WasRead, such_read, there_read, same_desk}
use Rattle.command_base.specs.Readings.{never, ReadsFile}
use Rattle.command_base.specs.Tasks.{text_alone}
use Rattle.log_commands.specs.Aggregating.{totals_line, totals_text, totals_told, totals_ending, GivesTotals}

-- the line on numbers, piece by piece
pub numbers_pieces : (count : ℕ) (least greatest sum : ℤ) (count_text least_text greatest_text sum_text : List ℕ) → count_text ≡ decimal count → least_text ≡ signed_decimal least
    → greatest_text ≡ signed_decimal greatest → sum_text ≡ signed_decimal sum
    → codes "count " ++ (count_text ++ (codes " least " ++ (least_text ++ (codes " greatest " ++ (greatest_text ++ (codes " sum " ++ (sum_text ++ (codes "\n" ++ []))))))))
    ≡ totals_line (record { count = count; range = Some (least, greatest); sum = sum })
numbers_pieces count least greatest sum count_text least_text greatest_text sum_text a b c d =
    nine (codes "count ") count_text (codes " least ") least_text (codes " greatest ") greatest_text (codes " sum ") sum_text (codes "\n")
    ∙ (λ i. codes "count " ++ a i ++ (codes " least " ++ b i ++ codes " greatest " ++ c i ++ codes " sum " ++ d i) ++ codes "\n")
  where
    nine : (a b c d e f g h j : List ℕ) → a ++ (b ++ (c ++ (d ++ (e ++ (f ++ (g ++ (h ++ (j ++ [])))))))) ≡ a ++ b ++ (c ++ d ++ e ++ f ++ g ++ h) ++ j
    nine a b c d e f g h j = simp (append_assoc, append-nil)

module _ (log : List ℕ) (id nth : ℕ) (old new : Desk) (content : Told) (was : WasRead log old new content) where
  -- the log was read to its end, or to a damage
  gives : (answer : Result Totals AggregateFault) → IfSome content (HaveAnswer id nth answer) → new.read_faults ≡ old.read_faults
      → (new ≡ old) × IsThere old log × GivesTotals log id nth old (text_alone (totals_text (totals_told answer))) (totals_ending log answer)
  gives answer have counted = (
    same_desk old new was.only counted,
    there_read log old new content was,
    (answer, refl, refl, such_read log old new content (HaveAnswer id nth answer) was have),
  )

  -- what the answer says is what the command reads
  pub reads_totals : (left : Told) (answer : Result Totals AggregateFault) → AnswersTotals content left id nth answer → (IsErrOf answer faults.ReadFault → Rose old.read_faults new.read_faults)
      → (¬ (IsErrOf answer faults.ReadFault) → new.read_faults ≡ old.read_faults)
      → ReadsFile log (GivesTotals log id nth) never old new (text_alone (totals_text (totals_told answer))) (totals_ending log answer)
  reads_totals left (Ok totals) said rose counted = gives (Ok totals) said (counted (λ e. cc))
  reads_totals left (Err faults.ReadFault) said rose counted = ((refl, was.only, rose refl), inl refl)
  reads_totals left (Err (faults.Damaged offset cause front)) said rose counted = gives (Err (faults.Damaged offset cause front)) said (counted (λ e. cc))
  reads_totals left (Err faults.NoSuchMessage) said rose counted = gives (Err faults.NoSuchMessage) said (counted (λ e. cc))
  reads_totals left (Err faults.NoSuchArgument) said rose counted = gives (Err faults.NoSuchArgument) said (counted (λ e. cc))
  reads_totals left (Err faults.NoMemory) said rose counted = ((same_desk old new was.only (counted (λ e. cc)), there_read log old new content was), refl)
