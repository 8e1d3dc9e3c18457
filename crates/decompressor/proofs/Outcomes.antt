-- What the answer says of a log that is decompressed step by step.
use Rattle.std.proofs.Common.{◌≡◌, ℕ, ◌-◌, ◌<◌, List, [], ◌∷◌, ◌++◌, length, None, Result, Ok, Err, refl, ap, sym, subst, ◌∙◌, inl, inr, arith}
use Rattle.std.specs.Prelude.{IfSome}
use Rattle.std.specs.Result.{IsErrAnd}
use Rattle.std.proofs.lemmas.List.{append-nil, length-append}
use Rattle.nl_io.specs.Count.{Rose}
use Rattle.nl_io.specs.Content.{Told, with_end}
use Rattle.nl_io.proofs.lemmas.Contents.{with_end-none, with_end-both, front-second}
use Rattle.checkpoint_io.specs.declared.cause.Cause.{Cause}
use Rattle.checkpoint_io.specs.declared.cause.Cause.TheVariants as causes
use Rattle.checkpoint_io.specs.declared.fault.BlockFault.{BlockFault}
use Rattle.checkpoint_io.specs.declared.fault.BlockFault.TheVariants as reading
use Rattle.checkpoint_io.specs.Blocks.{FileOf}
use Rattle.checkpoint_io.specs.Fronts.{Break}
use Rattle.checkpoint_io.specs.Places.{with_front, TookSuch}
use Rattle.checkpoint_io.proofs.lemmas.FileLaws.{file_on, one_log, longer}
use Rattle.log_scan.proofs.lemmas.Ends.{some_of, header_damaged, header_cut}
use Rattle.decompressor.specs.declared.fault.DecodeFault.{DecodeFault}
use Rattle.decompressor.specs.declared.fault.DecodeFault.TheVariants.{WriteFault, Damaged, ReadFault, NoMemory}
use Rattle.decompressor.specs.declared.report.Report.{Report}
use Rattle.decompressor.specs.declared.step.Step.TheVariants.{End}
use Rattle.decompressor.specs.Decompressing.{IsTextOfDamaged, ReadsText, CutOff, header_fault, Decompresses}
use Rattle.decompressor.specs.Decompressors.{PrinterState, HasPrinted, Advances, ReadsNext, PrintsWhole, IsCutBehind, Steps}
use Rattle.decompressor.proofs.Tests.{no_parts}
use Rattle.decompressor.proofs.Endings.{text_of_damaged, text_of_cut}
use Rattle.decompressor.proofs.NextRead.{reads_text}

-- ---- no header

-- the header couldn't be read, and nothing was put
pub without_header : (file left : Told) (before after : ℕ) (was : Told) (fault : BlockFault) → ((cause : Cause) → fault ≡ reading.Damaged cause → IfSome file (λ bytes. Break bytes 0 cause)) → (fault ≡ reading.ReadFault → TookSuch (λ bytes. Break bytes 0 causes.Cut) file left)
    → (fault ≡ reading.ReadFault → Rose before after) → (¬ (fault ≡ reading.ReadFault) → after ≡ before) → Decompresses file left before after was was (Err (header_fault fault))
without_header file left before after was (reading.Damaged cause) breaks cut rose counted = (
  [],
  with_end-none [] was,
  (
    counted (λ wrong. absurd cc),
    some_of file (λ bytes. Break bytes 0 cause) (λ bytes. IsTextOfDamaged bytes [] 0 cause) (λ bytes broken. text_of_damaged bytes None 0 cause (header_damaged bytes cause broken)) (breaks cause refl),
  ),
)
without_header file left before after was reading.ReadFault breaks cut rose counted =
    let (bytes, parted, broken) = cut refl in
    ([], with_end-none [] was, (rose refl, (bytes, parted, text_of_cut bytes None (header_cut bytes broken))))
without_header file left before after was reading.NoMemory breaks cut rose counted = inl (refl, counted (λ wrong. absurd cc))

-- ---- between the steps

-- The text of what was taken of the file was put, and the rest of the file is still to be read.
pub record IsOn (file was : Told) (state : PrinterState) (left put : Told) : Type 0 where
  pub taken : List ℕ
  pub text : List ℕ
  pub printed : HasPrinted state taken text
  pub file_is : file ≡ with_front (taken ++ state.reader.waiting.bytes) left
  pub put_is : put ≡ with_end text was

module _ {file was : Told} {old : PrinterState} {left put : Told} (on : IsOn file was old left put) where
  abbrev taken : List ℕ
  taken = on.taken

  -- ---- a step that goes on

  module _ {new : PrinterState} {behind is : Told} (next : Advances old new on.taken on.text on.printed left behind put is) where
    pub on_next : IsOn file was new behind is
    on_next = record {
      taken = taken ++ next.front;
      text = on.text ++ next.more;
      printed = next.after;
      file_is = on.file_is ∙ file_on taken next.front old.reader.waiting.bytes new.reader.waiting.bytes left behind next.joined;
      put_is = next.put ∙ ap (with_end next.more) on.put_is ∙ with_end-both on.text next.more was;
    }

    -- each block takes a byte at least
    rises : (front : List ℕ) → front ≡ next.front → length taken < length (taken ++ next.front)
    rises [] is_none =
        let bytes : taken ++ next.front ≡ taken = ap (λ (f : List ℕ). taken ++ f) (sym is_none) ∙ append-nil taken in
        let read = on.printed.read in
        let then = next.after.read in
        let file_too : FileOf new.reader.header then.blocks taken = subst (FileOf new.reader.header then.blocks) bytes then.file in
        let one = one_log old.reader.header new.reader.header read.blocks then.blocks taken read.file read.valid file_too then.valid in
        absurd (longer read.blocks next.block (one.1 ∙ next.blocks))
    rises (byte ∷ front) is_some = omega (arith, length-append taken next.front, ap length is_some)

    -- fewer bytes are left to the most that are read
    pub falls : 134217728 - new.reader.offset < 134217728 - old.reader.offset
    falls = omega (arith, rises next.front refl, on.printed.read.offset, next.after.read.offset, next.after.read.within)

  -- ---- the last step

  module _ (new : PrinterState) (behind is : Told) (before after : ℕ) where
    abbrev Stepped : Result Report DecodeFault → Type 0
    Stepped answer = PrintsWhole old new taken on.text on.printed left behind before after put is answer

    whole_file : (text : List ℕ) (answer : Result Report DecodeFault) → ReadsNext old.reader new.reader taken on.printed.read left behind before after text answer → ReadsText file behind before after text answer
    whole_file text answer reads = subst (λ (told : Told). ReadsText told behind before after text answer) (sym on.file_is) (reads_text old.reader new.reader taken on.printed.read left behind before after text answer reads)

    ends : (answer : Result Report DecodeFault) → Stepped answer → (text : List ℕ) × (is ≡ with_end text was) × ReadsText file behind before after text answer
    ends answer (more, more_put, reads) = (
      on.text ++ more,
      more_put ∙ ap (with_end more) on.put_is ∙ with_end-both on.text more was,
      whole_file (on.text ++ more) answer reads,
    )

    abbrev is_cut : IsCutBehind old new taken on.text on.printed left behind before after put is → CutOff file behind before after was is
    is_cut cut = record {
      text = on.text ++ cut.rest;
      read = cut.read;
      put = front-second on.text cut.rest was put is on.put_is cut.put;
      reads = whole_file (on.text ++ cut.rest) cut.read cut.reads;
    }

    -- the step was the last one, and no read had failed before it
    pub ended : {start : ℕ} → before ≡ start → (report : Report) → Steps old new on.taken on.text on.printed left behind before after put is (Ok (End report)) → Decompresses file behind start after was is (Ok report)
    ended counted report stepped = subst (λ (n : ℕ). Decompresses file behind n after was is (Ok report)) counted (ends (Ok report) stepped)

    failed : (fault : DecodeFault) → Steps old new on.taken on.text on.printed left behind before after put is (Err fault) → Decompresses file behind before after was is (Err fault)
    failed WriteFault (cut, some) = (is_cut cut, λ none. some (no_parts on.text cut.rest none))
    failed NoMemory cut = inr (is_cut cut)
    failed (Damaged offset cause) stepped = ends (Err (Damaged offset cause)) stepped
    failed ReadFault stepped = ends (Err ReadFault) stepped

    pub failed_as : {start : ℕ} → before ≡ start → (fault : DecodeFault) (answer : Result Report DecodeFault) → IsErrAnd answer (λ e. e ≡ fault) → Steps old new on.taken on.text on.printed left behind before after put is (Err fault) → Decompresses file behind start after was is answer
    failed_as counted fault (Ok report) same stepped = absurd same
    failed_as counted fault (Err e) same stepped =
        subst (λ (n : ℕ). Decompresses file behind n after was is (Err e)) counted
        (subst (λ (f : DecodeFault). Decompresses file behind before after was is (Err f)) (sym same) (failed fault stepped))
