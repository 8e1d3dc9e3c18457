-- How `decompress` ends, by what the decompression of the opened log answered.
use Rattle.std.proofs.Common.{◌≡◌, ◌≢◌, ℕ, List, [], ◌∷◌, ◌++◌, Some, None, Result, Ok, Err, codes, refl, sym, ap, ◌∙◌, inl, inr, append_assoc, arith}
use Rattle.std.specs.Prelude.{IfSome, IsErrOf, take, ⊤}
use Rattle.std.specs.Fmt.{decimal}
use Rattle.std.proofs.lemmas.List.{append-nil}
use Rattle.std.proofs.lemmas.Option.{same_Some}
use Rattle.std.proofs.lemmas.List.Concat.{flat_map-cons}
use Rattle.std.proofs.lemmas.Grind.{flat_map-append}
use Rattle.nl_io.specs.Count.{Rose}
use Rattle.nl_io.specs.Content.{Told, with_end, PutsFront}
use Rattle.nl_io.specs.Desk.{Desk}
use Rattle.checkpoint_io.specs.Places.{TookSuch}
use Rattle.decompressor.specs.declared.report.Report.{Report}
use Rattle.decompressor.specs.declared.fault.DecodeFault.{DecodeFault}
use Rattle.decompressor.specs.declared.fault.DecodeFault.TheVariants as faults
use Rattle.decompressor.specs.Decompressing.{IsTextOfWhole, IsTextOfDamaged, IsTextOfCut, IsTextOfSettled, ReadsText, Decompresses}
use Rattle.command_base.specs.Endings.{Ending, ReadFault, WriteFault, NoMemory}
use Rattle.command_base.specs.HeldFiles.{IsThere}
use Rattle.command_base.proofs.lemmas.HeldLaws.{WasRead, such_read, there_read, same_desk}
use Rattle.command_base.specs.Effects.{IsPrinted, CommandEffect}
use Rattle.command_base.proofs.lemmas.EffectLaws.{HasRead, put_nothing, cut_off, stopped, only_there}
use Rattle.command_base.specs.Readings.{ReadsFile}
use Rattle.command_base.specs.Scenes.{Scene, scene}
use Rattle.command_base.specs.Tasks.{Streaming, text_alone}
use Rattle.command_base.specs.Words.{standard_output}
use Rattle.log_commands.specs.Logs.{IsLog}
use Rattle.log_commands.specs.Decompressing.{writers_text, whole_ending, log_ending, GivesText, BeginsText, decompress_task}
use Rattle.log_commands.proofs.Told.{text_told}
use Rattle.log_commands.proofs.lemmas.Soundness.{decompress_sound}

-- ---- what was read

-- whether writers are still open or not, what is told is no failed read
whole_reads : (log : List ℕ) (old new : Desk) (text unclosed : List ℕ)
    → (new ≡ old) × IsThere old log × GivesText log old (text_alone text) (whole_ending log unclosed)
    → ReadsFile log (GivesText log) (BeginsText log) old new (text_alone text) (whole_ending log unclosed)
whole_reads log old new text [] reads = reads
whole_reads log old new text (writer ∷ writers) reads = reads

whole_printed : (log unclosed : List ℕ) → IsPrinted (whole_ending log unclosed) Streaming
whole_printed log [] = tt
whole_printed log (writer ∷ writers) = tt

whole_unbroken : (log unclosed name : List ℕ) → whole_ending log unclosed ≢ WriteFault name
whole_unbroken log [] name e = cc
whole_unbroken log (writer ∷ writers) name e = cc

-- the reading came to its end, or to where it could go on no further
abbrev pub CameToEnd : Result Report DecodeFault → Type 0
CameToEnd (Err faults.WriteFault) = ⊥
CameToEnd (Err faults.NoMemory) = ⊥
CameToEnd answer = ⊤

unbroken : (log : List ℕ) (answer : Result Report DecodeFault) → CameToEnd answer → (name : List ℕ) → log_ending log answer ≢ WriteFault name
unbroken log (Ok report) came name = whole_unbroken log report.unclosed name
unbroken log (Err (faults.Damaged offset cause)) came name = λ e. cc
unbroken log (Err faults.ReadFault) came name = λ e. cc
unbroken log (Err faults.WriteFault) came name = absurd came
unbroken log (Err faults.NoMemory) came name = absurd came

-- the bytes that were taken stand at the front of the log, and have the text
abbrev HasFrontOfText : List ℕ → List ℕ → Type 0
HasFrontOfText text bytes = (taken : List ℕ) × (rest : List ℕ) × (bytes ≡ taken ++ rest) × IsTextOfCut taken text

has_front : (text : List ℕ) (content left : Told) → TookSuch (λ bytes. IsTextOfCut bytes text) content left → IfSome content (HasFrontOfText text)
has_front text None left took = tt
has_front text (Some bytes) None (taken, parted, cut) = absurd cc
has_front text (Some bytes) (Some rest) (taken, parted, cut) = (taken, rest, same_Some bytes (taken ++ rest) parted, cut)

module _ (log : List ℕ) (old : Scene) (desk : Desk) (content left : Told) (was : WasRead log old.desk desk content) where
  -- a text that was read of the log, and how the reading ended or was broken off
  record ReadsFront (text : List ℕ) : Type 0 where
    verdict : Ending
    reading : ReadsFile log (GivesText log) (BeginsText log) old.desk desk (text_alone text) verdict
    is_printed : IsPrinted verdict Streaming

  -- the log was broken off behind lines that are settled
  broken_off : (text : List ℕ) → text ≢ [] → (desk.read_faults ≡ old.desk.read_faults) × IfSome content (λ bytes. IsTextOfSettled bytes text)
      → ReadsFile log (GivesText log) (BeginsText log) old.desk desk (text_alone text) (WriteFault standard_output)
  broken_off text some (counted, so) = record {
    same = same_desk old.desk desk was.only counted;
    there = there_read log old.desk desk content was;
    unmade = refl;
    some = some;
    text = such_read log old.desk desk content (λ bytes. IsTextOfSettled bytes text) was so;
  }

  -- the text of a log that was read has this end
  pub reads_text : (text : List ℕ) (answer : Result Report DecodeFault) → CameToEnd answer → ReadsText content left old.desk.read_faults desk.read_faults text answer
      → ReadsFile log (GivesText log) (BeginsText log) old.desk desk (text_alone text) (log_ending log answer)
  reads_text text (Ok report) came (counted, so) =
      whole_reads log old.desk desk text report.unclosed (
        same_desk old.desk desk was.only counted,
        there_read log old.desk desk content was,
        (Ok report, refl, refl, such_read log old.desk desk content (λ bytes. IsTextOfWhole bytes text report) was so),
      )
  reads_text text (Err (faults.Damaged offset cause)) came (counted, so) = (
    same_desk old.desk desk was.only counted,
    there_read log old.desk desk content was,
    (Err (faults.Damaged offset cause), refl, refl, such_read log old.desk desk content (λ bytes. IsTextOfDamaged bytes text offset cause) was so),
  )
  reads_text text (Err faults.ReadFault) came (rose, took) =
      ((refl, was.only, rose), inr (refl, such_read log old.desk desk content (HasFrontOfText text) was (has_front text content left took)))
  reads_text text (Err faults.WriteFault) came reads = absurd came
  reads_text text (Err faults.NoMemory) came reads = absurd came

  -- what it says of what was read, wherever the reading was left off
  reads_front : (text : List ℕ) (answer : Result Report DecodeFault) → text ≢ [] → ReadsText content left old.desk.read_faults desk.read_faults text answer → ReadsFront text
  reads_front text (Ok report) some reads = record { verdict = whole_ending log report.unclosed; reading = reads_text text (Ok report) tt reads; is_printed = whole_printed log report.unclosed }
  reads_front text (Err (faults.Damaged offset cause)) some reads = record { verdict = log_ending log (Err (faults.Damaged offset cause)); reading = reads_text text (Err (faults.Damaged offset cause)) tt reads; is_printed = tt }
  reads_front text (Err faults.ReadFault) some reads = record { verdict = ReadFault log; reading = reads_text text (Err faults.ReadFault) tt reads; is_printed = tt }
  reads_front text (Err faults.WriteFault) some reads = record { verdict = WriteFault standard_output; reading = broken_off text some reads; is_printed = tt }
  reads_front text (Err faults.NoMemory) some reads = record { verdict = WriteFault standard_output; reading = broken_off text some reads; is_printed = tt }

  has_read : (text : List ℕ) (verdict : Ending) → ReadsFile log (GivesText log) (BeginsText log) old.desk desk (text_alone text) verdict → HasRead (decompress_task log) old desk (text_alone text) verdict
  has_read text verdict reads = record { read = desk; reading = reads; made = refl }

  -- ---- how the command ends

  -- all of the text was printed
  pub all_told : (text : List ℕ) (answer : Result Report DecodeFault) (put : Told) (faults : ℕ) → CameToEnd answer → ReadsText content left old.desk.read_faults desk.read_faults text answer → put ≡ with_end text old.put → faults ≡ old.faults
      → CommandEffect (decompress_task log) old (scene desk put faults) (log_ending log answer)
  all_told text answer put faults came reads printed counted =
      text_told log Streaming (GivesText log) (BeginsText log) IsLog old desk text put faults (log_ending log answer) (λ name is. absurd (unbroken log answer came name is)) (decompress_sound log) (reads_text text answer came reads) printed counted

  -- memory was wanting in front of it
  lacked : (put : Told) (faults : ℕ) → desk.read_faults ≡ old.desk.read_faults → put ≡ old.put → faults ≡ old.faults → CommandEffect (decompress_task log) old (scene desk put faults) NoMemory
  lacked put faults counted unprinted written =
      text_told log Streaming (GivesText log) (BeginsText log) IsLog old desk [] put faults NoMemory (λ name is. cc) (decompress_sound log)
      ((same_desk old.desk desk was.only counted, there_read log old.desk desk content was), refl) (unprinted ∙ put_nothing old.put) written

  -- memory was wanting behind a front of it
  pub stops_told : (text : List ℕ) (answer : Result Report DecodeFault) (put : Told) (low : ℕ) → ReadsText content left old.desk.read_faults desk.read_faults text answer → PutsFront text old.put put → low ≡ old.faults
      → CommandEffect (decompress_task log) old (scene desk put low) NoMemory
  stops_told text answer put low reads front counted = at text reads front
    where
      stops : (verdict : Ending) (part : List ℕ) → ReadsFile log (GivesText log) (BeginsText log) old.desk desk (text_alone part) verdict → IsPrinted verdict Streaming → PutsFront part old.put put → CommandEffect (decompress_task log) old (scene desk put low) NoMemory
      stops verdict part reading is_printed part_put =
          stopped (decompress_task log) old desk (text_alone part) verdict put low (has_read part verdict reading) tt is_printed
          (only_there log old.desk (there_read log old.desk desk content was)) part_put counted

      none_put : PutsFront [] old.put put → put ≡ old.put
      none_put (n, few, is) = let zero : n ≡ 0 = omega (arith, few) in is ∙ ap (λ (k : ℕ). with_end (take k []) old.put) zero ∙ sym (put_nothing old.put)

      at_none : (read : Result Report DecodeFault) → ReadsText content left old.desk.read_faults desk.read_faults [] read → PutsFront [] old.put put → CommandEffect (decompress_task log) old (scene desk put low) NoMemory
      at_none (Ok report) so none = stops (whole_ending log report.unclosed) [] (reads_text [] (Ok report) tt so) (whole_printed log report.unclosed) none
      at_none (Err (faults.Damaged offset cause)) so none = stops (log_ending log (Err (faults.Damaged offset cause))) [] (reads_text [] (Err (faults.Damaged offset cause)) tt so) tt none
      at_none (Err faults.ReadFault) so none = stops (ReadFault log) [] (reads_text [] (Err faults.ReadFault) tt so) tt none
      at_none (Err faults.WriteFault) so none = lacked put low so.0 (none_put none) counted
      at_none (Err faults.NoMemory) so none = lacked put low so.0 (none_put none) counted

      at : (part : List ℕ) → ReadsText content left old.desk.read_faults desk.read_faults part answer → PutsFront part old.put put → CommandEffect (decompress_task log) old (scene desk put low) NoMemory
      at [] so none = at_none answer so none
      at (byte ∷ part) so some = let front = reads_front (byte ∷ part) answer (λ e. cc) so in stops front.verdict (byte ∷ part) front.reading front.is_printed some

  -- the log wasn't decompressed whole
  pub fault_told : (fault : DecodeFault) (put : Told) (low : ℕ) → Decompresses content left old.desk.read_faults desk.read_faults old.put put (Err fault)
      → (IsErrOf {T = Report} (Err fault) faults.WriteFault → Rose old.faults low) → (¬ (IsErrOf {T = Report} (Err fault) faults.WriteFault) → low ≡ old.faults)
      → CommandEffect (decompress_task log) old (scene desk put low) (log_ending log (Err fault))
  fault_told faults.WriteFault put low (cut, some) wrote written =
      let front = reads_front cut.text cut.read some cut.reads in
      cut_off (decompress_task log) old desk (text_alone cut.text) front.verdict (log_ending log (Err faults.WriteFault)) put low (has_read cut.text front.verdict front.reading) (refl, some, cut.put, wrote refl) (λ e. cc) (λ e. cc)
  fault_told (faults.Damaged offset cause) put low (text, printed, reads) wrote written = all_told text (Err (faults.Damaged offset cause)) put low tt reads printed (written (λ e. cc))
  fault_told faults.ReadFault put low (text, printed, reads) wrote written = all_told text (Err faults.ReadFault) put low tt reads printed (written (λ e. cc))
  fault_told faults.NoMemory put low (inl (unprinted, counted)) wrote written = lacked put low counted unprinted (written (λ e. cc))
  fault_told faults.NoMemory put low (inr cut) wrote written = stops_told cut.text cut.read put low cut.reads cut.put (written (λ e. cc))

-- ---- the numbers of writers

-- one more number is told behind a space
pub numbers_more : (seen : List ℕ) (writer : ℕ) (old spaced new digits : List ℕ) → old ≡ writers_text seen → spaced ≡ old ++ codes " " → digits ≡ decimal writer
    → new ≡ spaced ++ digits → new ≡ writers_text (seen ++ writer ∷ [])
numbers_more seen writer old spaced new digits so_far space digits_are put =
    let number : ℕ → List ℕ = λ w. codes " " ++ decimal w in
    put
    ∙ (λ i. space i ++ digits_are i)
    ∙ ap (λ (text : List ℕ). (text ++ codes " ") ++ decimal writer) so_far
    ∙ append_assoc (writers_text seen) (codes " ") (decimal writer)
    ∙ sym (flat_map-append number seen (writer ∷ []) ∙ ap (λ (text : List ℕ). writers_text seen ++ text) (flat_map-cons number writer [] ∙ append-nil (number writer)))

-- the numbers that were seen, and the next one
pub seen_more : (seen rest all left : List ℕ) (x : ℕ) → seen ++ rest ≡ all → rest ≡ x ∷ left → (seen ++ x ∷ []) ++ left ≡ all
seen_more seen rest all left x joined next = append_assoc seen (x ∷ []) left ∙ sym (ap (λ (r : List ℕ). seen ++ r) next) ∙ joined
