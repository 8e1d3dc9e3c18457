-- What reading one block at most says of the text of the whole file.
use Rattle.std.proofs.Common.{◌≡◌, ℕ, List, ◌++◌, Result, Ok, Err, sym, subst, inl, inr}
use Rattle.std.specs.Prelude.{IfSome}
use Rattle.nl_io.specs.Content.{Told}
use Rattle.checkpoint_io.specs.Places.{with_front}
use Rattle.checkpoint_io.specs.Readers.{ReaderState, StandsFor}
use Rattle.checkpoint_io.proofs.lemmas.FileLaws.{file_on, file_begins}
use Rattle.log_scan.proofs.lemmas.Ends.{some_of, begins_within}
use Rattle.decompressor.specs.declared.fault.DecodeFault.TheVariants.{WriteFault, Damaged, ReadFault, NoMemory}
use Rattle.decompressor.specs.declared.report.Report.{Report}
use Rattle.decompressor.specs.declared.fault.DecodeFault.{DecodeFault}
use Rattle.decompressor.specs.Decompressing.{IsTextOfSettled, ReadsText}
use Rattle.decompressor.specs.Decompressors.{SettlesNext, ReadsNext}
use Rattle.decompressor.specs.Settling.{settled_text}

-- the text that is settled by what was read is one of the file
settled_by : (reader : ReaderState) (taken text : List ℕ) (left : Told) (read : StandsFor reader taken) → text ≡ settled_text reader.header read.blocks → IfSome (with_front (taken ++ reader.waiting.bytes) left) (λ bytes. IsTextOfSettled bytes text)
settled_by reader taken text left read text_is =
    some_of (with_front (taken ++ reader.waiting.bytes) left) (λ bytes. (rest : List ℕ) × (bytes ≡ taken ++ rest)) (λ bytes. IsTextOfSettled bytes text)
    (λ bytes front. record {
      part = record { header = reader.header; blocks = read.blocks };
      offset = reader.offset;
      begins = begins_within bytes (record { header = reader.header; blocks = read.blocks }) taken reader.offset read.file read.valid read.within read.offset front;
      text_is = text_is;
    })
    (file_begins taken reader.waiting.bytes left)

module _ (old new : ReaderState) (taken : List ℕ) (read : StandsFor old taken) (left behind : Told) where
  abbrev file : Told
  file = with_front (taken ++ old.waiting.bytes) left

  settled_next : (text : List ℕ) → SettlesNext old new taken read left behind text → IfSome file (λ bytes. IsTextOfSettled bytes text)
  settled_next text (inl (still, text_is)) = settled_by old taken text left read text_is
  settled_next text (inr (told, next, text_is)) =
      subst (λ (bytes_told : Told). IfSome bytes_told (λ bytes. IsTextOfSettled bytes text)) (sym (file_on taken next.front old.waiting.bytes new.waiting.bytes left behind next.joined))
      (settled_by new (taken ++ next.front) text behind next.stands text_is)

  pub reads_text : (before after : ℕ) (text : List ℕ) (answer : Result Report DecodeFault) → ReadsNext old new taken read left behind before after text answer → ReadsText file behind before after text answer
  reads_text before after text (Ok report) reads = reads.1
  reads_text before after text (Err (Damaged offset cause)) reads = reads.1
  reads_text before after text (Err ReadFault) reads = reads.1
  reads_text before after text (Err WriteFault) reads = (reads.0, settled_next text reads.1)
  reads_text before after text (Err NoMemory) reads = (reads.0, settled_next text reads.1)
