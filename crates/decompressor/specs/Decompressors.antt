-- What is kept between the steps of a decompressor, the bytes and the text for which it stands, and what a step says.
use Rattle.std.specs.Prelude.{◌≡◌, ◌≢◌, ◌⊎◌, ℕ, ◌+◌, ◌<◌, ◌≤◌, Bool, true, false, ◌||◌, ◌==◌, List, [], ◌∷◌, ◌++◌, length, drop, filter, Result, Ok, Err, ⊤}
use Rattle.nl_io.specs.Content.{Told, IsAtEnd, with_end, PutsFront}
use Rattle.log_dictionary.specs.declared.message.Message.{Message}
use Rattle.log_dictionary.specs.Calls.{LogCall}
use Rattle.arg_records.specs.declared.call.Call.{Call}
use Rattle.checkpoint_io.specs.declared.heads.TheConstants.{MAX_LOG}
use Rattle.checkpoint_io.specs.declared.block.Block.{Block as ReadBlock}
use Rattle.checkpoint_io.specs.declared.header.Header.{Header}
use Rattle.checkpoint_io.specs.Blocks.{Block, messages_of, clocks_of}
use Rattle.checkpoint_io.specs.Validity.{records_of, Valid}
use Rattle.checkpoint_io.specs.Fronts.{IsCutAt}
use Rattle.checkpoint_io.specs.NextBlocks.{Describes, HasBody, TakesNext}
use Rattle.checkpoint_io.specs.Places.{with_front, TookSuch}
use Rattle.checkpoint_io.specs.Readers.{ReaderState, StandsFor}
use Rattle.checkpoint_io.specs.Writers.{closed_kept}
use Rattle.stamp_merge.specs.declared.merger.ListState.{ListState}
use Rattle.direct_printf.specs.Lines.{in_order}
use Rattle.decompressor.specs.declared.fault.DecodeFault.{DecodeFault}
use Rattle.decompressor.specs.declared.fault.DecodeFault.TheVariants.{WriteFault, Damaged, ReadFault, NoMemory}
use Rattle.decompressor.specs.declared.step.Step.{Step}
use Rattle.decompressor.specs.declared.step.Step.TheVariants.{More, End}
use Rattle.decompressor.specs.declared.report.Report.{Report}
use Rattle.decompressor.specs.Decompression.{all_calls, lines_of}
use Rattle.decompressor.specs.Decompressing.{ReadsText}
use Rattle.decompressor.specs.Settling.{closed_by, settled_calls, settled_text}
use Rattle.decompressor.specs.Waiting.{QueueState, records_at, AreShown}
use Rattle.decompressor.specs.Printing.{CutsText}

pub record PrinterState : Type 0 where
  pub reader : ReaderState
  -- of each writer the records that weren't printed yet
  pub waiting : List QueueState
  -- what the merger has of the writers
  pub lists : List ListState
  -- how many lines were printed
  pub lines : ℕ

pub record DecompressorState : Type 0 where
  pub printer : PrinterState
  -- the log has ended, or a step failed
  pub ended : Bool

-- how many of the calls are the writer's
abbrev pub count_of : ℕ → List LogCall → ℕ
count_of writer calls = length (filter (λ call. call.writer == writer) calls)

-- Of each writer the records wait that stand behind those whose calls were printed.
pub record AreWaiting (header : Header) (blocks : List Block) (printed : List LogCall)
    (waiting : List (List Call)) : Type 0 where
  pub count : length waiting ≡ header.writers
  pub each : (writer : ℕ) → writer < header.writers
      → records_at waiting writer ≡ drop (count_of writer printed) (records_of writer blocks)

-- These bytes were read, and the text is the lines of the calls that are settled by their blocks; all other records
-- wait.
pub record HasPrinted (printer : PrinterState) (taken text : List ℕ) : Type 0 where
  pub right : printer.reader.failed ≡ false
  pub read : StandsFor printer.reader taken
  pub text_is : text ≡ settled_text printer.reader.header read.blocks
  pub lines : printer.lines ≡ length (settled_calls printer.reader.header read.blocks)
  pub records : List (List Call)
  pub are_waiting : AreWaiting printer.reader.header read.blocks
      (in_order (settled_calls printer.reader.header read.blocks)) records
  pub shown : AreShown (closed_by read.blocks) printer.reader printer.waiting printer.lists records

-- Nothing was printed, and no blocks were read: this is so of bytes that were taken, behind which stands what is left.
abbrev pub IsStarted : PrinterState → (left behind : Told) → Type 0
IsStarted printer left behind =
    (taken : List ℕ) × (printed : HasPrinted printer taken [])
    × (printed.read.blocks ≡ [])
    × (left ≡ with_front (taken ++ printer.reader.waiting.bytes) behind)

-- the printer stands for some bytes and some text, so a step can follow
abbrev pub CanStep : PrinterState → Type 0
CanStep printer = (taken text : List ℕ) × HasPrinted printer taken text

-- ---- records that are printed

-- no records of the writer can come: the log has ended, or the writer is closed
abbrev pub no_more_come : Bool → List Block → ℕ → Bool
no_more_come ended blocks writer = ended || closed_by blocks writer

-- the calls that can be printed
abbrev pub ready_calls : Bool → Header → List Block → List LogCall
ready_calls true header blocks = all_calls header blocks
ready_calls false header blocks = settled_calls header blocks

-- the lines that can be printed
abbrev pub ready_text : Bool → Header → List Block → List ℕ
ready_text ended header blocks = lines_of header blocks (ready_calls ended header blocks)

-- The calls that were settled by the first blocks were printed, and the records of all blocks wait but for theirs.
pub record HasToPrint (ended : Bool) (reader : ReaderState) (first all : List Block) (waiting : List QueueState)
    (lists : List ListState) : Type 0 where
  pub more : List Block
  pub joined : all ≡ first ++ more
  pub valid : Valid reader.header all
  pub few : length (all_calls reader.header all) ≤ MAX_LOG
  pub others : List Message
  pub known : reader.messages ≡ messages_of all ++ others
  pub clocks : reader.times.clocks ≡ clocks_of reader.header all
  pub closed : (writer : ℕ) → writer < reader.header.writers
      → (ended || closed_kept reader.writers writer) ≡ no_more_come ended all writer
  pub records : List (List Call)
  pub are_waiting : AreWaiting reader.header all (in_order (settled_calls reader.header first)) records
  pub shown : AreShown (no_more_come ended all) reader waiting lists records

-- All that can be printed was, so many lines, and the other records wait.
pub record HasMore (ended : Bool) (reader : ReaderState) (first all : List Block) (lines : ℕ) (was is : Told)
    (waiting : List QueueState) (lists : List ListState) : Type 0 where
  pub text : List ℕ
  pub put : is ≡ with_end text was
  pub joined : ready_text ended reader.header all ≡ settled_text reader.header first ++ text
  pub lines_are : length (settled_calls reader.header first) + lines ≡ length (ready_calls ended reader.header all)
  pub records : List (List Call)
  pub are_waiting : AreWaiting reader.header all (in_order (ready_calls ended reader.header all)) records
  pub shown : AreShown (no_more_come ended all) reader waiting lists records

-- The printing was cut off: a front went out of the lines that can be printed, behind those that were before.
pub record CutsMore (ended : Bool) (header : Header) (first all : List Block) (was is : Told) (before after : ℕ)
    (fault : DecodeFault) : Type 0 where
  pub rest : List ℕ
  pub joined : ready_text ended header all ≡ settled_text header first ++ rest
  pub cut : CutsText rest was is before after fault

abbrev pub PrintsReady : Bool → ReaderState → List Block → List Block → Told → Told → ℕ → ℕ → List QueueState
    → List ListState → Result ℕ DecodeFault → Type 0
PrintsReady ended reader first all was is before after waiting lists (Ok lines) =
    HasMore ended reader first all lines was is waiting lists × (after ≡ before)
PrintsReady ended reader first all was is before after waiting lists (Err fault) =
    CutsMore ended reader.header first all was is before after fault

-- ---- parts of a step

-- The reader has read this block behind the first ones, and all else is as in front of it.
pub record HasTaken (printer : PrinterState) (first : List Block) (block : Block) : Type 0 where
  pub valid : Valid printer.reader.header (first ++ block ∷ [])
  pub few : length (all_calls printer.reader.header (first ++ block ∷ [])) ≤ MAX_LOG
  pub known : printer.reader.messages ≡ messages_of (first ++ block ∷ [])
  pub clocks : printer.reader.times.clocks ≡ clocks_of printer.reader.header (first ++ block ∷ [])
  pub closed : (writer : ℕ) → writer < printer.reader.header.writers
      → closed_kept printer.reader.writers writer ≡ closed_by (first ++ block ∷ []) writer
  pub body : HasBody printer.reader.header.clock.tick printer.reader.messages block printer.reader.body
  pub lines : printer.lines ≡ length (settled_calls printer.reader.header first)
  pub records : List (List Call)
  pub are_waiting : AreWaiting printer.reader.header first (in_order (settled_calls printer.reader.header first))
      records
  pub shown : AreShown (closed_by first) printer.reader printer.waiting printer.lists records

-- a block that is told so was read behind some blocks
abbrev pub HasNext : PrinterState → ReadBlock → Type 0
HasNext printer told = (first : List Block) × (block : Block) × Describes told block × HasTaken printer first block

-- Nothing stands behind these blocks, or it can't be read, but for some of its messages.
pub record HasLast (printer : PrinterState) (blocks : List Block) : Type 0 where
  pub valid : Valid printer.reader.header blocks
  pub few : length (all_calls printer.reader.header blocks) ≤ MAX_LOG
  pub others : List Message
  pub known : printer.reader.messages ≡ messages_of blocks ++ others
  pub clocks : printer.reader.times.clocks ≡ clocks_of printer.reader.header blocks
  pub lines : printer.lines ≡ length (settled_calls printer.reader.header blocks)
  pub records : List (List Call)
  pub are_waiting : AreWaiting printer.reader.header blocks (in_order (settled_calls printer.reader.header blocks))
      records
  pub shown : AreShown (closed_by blocks) printer.reader printer.waiting printer.lists records

-- nothing more stands behind some blocks
abbrev pub HasRest : PrinterState → Type 0
HasRest printer = (blocks : List Block) × HasLast printer blocks

-- all that can be printed was, and the other records wait
pub record PrintsOn (ended : Bool) (old new : PrinterState) (first all : List Block) (was is : Told) : Type 0 where
  pub text : List ℕ
  pub put : is ≡ with_end text was
  pub joined : ready_text ended old.reader.header all ≡ settled_text old.reader.header first ++ text
  pub lines : new.lines ≡ length (ready_calls ended old.reader.header all)
  pub records : List (List Call)
  pub are_waiting : AreWaiting old.reader.header all (in_order (ready_calls ended old.reader.header all)) records
  pub shown : AreShown (no_more_come ended all) old.reader new.waiting new.lists records

abbrev pub PrintsTo : Bool → (old new : PrinterState) → (first all : List Block) → (was is : Told) → ℕ → ℕ
    → Result ⊤ DecodeFault → Type 0
PrintsTo ended old new first all was is before after (Ok done) =
    PrintsOn ended old new first all was is × (after ≡ before)
PrintsTo ended old new first all was is before after (Err fault) =
    CutsMore ended old.reader.header first all was is before after fault

-- so it is behind a block that was read, whatever blocks stand in front of it
abbrev pub PrintsNext : (old new : PrinterState) → ReadBlock → (was is : Told) → ℕ → ℕ → Result ⊤ DecodeFault → Type 0
PrintsNext old new told was is before after result =
    (first : List Block) (block : Block) → Describes told block → HasTaken old first block
    → PrintsTo false old new first (first ++ block ∷ []) was is before after result

-- and where nothing more stands behind the blocks
abbrev pub PrintsRest : (old new : PrinterState) → (was is : Told) → ℕ → ℕ → Result ⊤ DecodeFault → Type 0
PrintsRest old new was is before after result =
    (blocks : List Block) → HasLast old blocks → PrintsTo true old new blocks blocks was is before after result

-- ---- a step

-- Behind what was read stands this block. The text grows by what was put, and now the printer stands for these bytes
-- and this text.
pub record Advances (old new : PrinterState) (taken text : List ℕ) (before : HasPrinted old taken text)
    (left behind was is : Told) : Type 0 where
  pub block : Block
  pub front : List ℕ
  pub more : List ℕ
  pub joined : with_front old.reader.waiting.bytes left ≡ with_front (front ++ new.reader.waiting.bytes) behind
  pub put : is ≡ with_end more was
  pub after : HasPrinted new (taken ++ front) (text ++ more)
  pub blocks : after.read.blocks ≡ before.read.blocks ++ block ∷ []

-- the step was the last one
abbrev pub IsLastStep : Step → Type 0
IsLastStep More = ⊥
IsLastStep (End report) = ⊤

-- ---- one block at most

-- The text is the lines that are settled by the blocks that were read, and the reader stands where it stood; or by
-- these and the block behind them, for which it stands too.
abbrev pub SettlesNext : (old new : ReaderState) (taken : List ℕ) → StandsFor old taken → (left behind : Told) → List ℕ
    → Type 0
SettlesNext old new taken read left behind text =
    ((new.offset ≡ old.offset) × (text ≡ settled_text old.header read.blocks))
    ⊎ ((told : ReadBlock) × (next : TakesNext old new taken read told left behind)
    × (text ≡ settled_text new.header next.stands.blocks))

-- How reading ended where no more is read than the block behind the bytes that were taken, as it is answered where all
-- of the text goes out: nothing stands there; the block breaks, and none that follows it; or it is cut off by the end
-- of the bytes that came before a read failed. A failed write and want of memory end the reading behind that block, or
-- in front of it.
abbrev pub ReadsNext : (old new : ReaderState) (taken : List ℕ) → StandsFor old taken → (left behind : Told) → ℕ → ℕ
    → List ℕ → Result Report DecodeFault → Type 0
ReadsNext old new taken read left behind before after text (Ok report) =
    IsAtEnd (with_front old.waiting.bytes left)
    × ReadsText (with_front (taken ++ old.waiting.bytes) left) behind before after text (Ok report)
ReadsNext old new taken read left behind before after text (Err (Damaged offset cause)) =
    (offset ≡ length taken)
    × ReadsText (with_front (taken ++ old.waiting.bytes) left) behind before after text (Err (Damaged offset cause))
ReadsNext old new taken read left behind before after text (Err ReadFault) =
    TookSuch (λ bytes. IsCutAt (taken ++ bytes) (length taken)) (with_front old.waiting.bytes left) behind
    × ReadsText (with_front (taken ++ old.waiting.bytes) left) behind before after text (Err ReadFault)
ReadsNext old new taken read left behind before after text (Err WriteFault) =
    (after ≡ before) × SettlesNext old new taken read left behind text
ReadsNext old new taken read left behind before after text (Err NoMemory) =
    (after ≡ before) × SettlesNext old new taken read left behind text

-- the text was printed whole, and so reading ended
abbrev pub PrintsWhole : (old new : PrinterState) (taken text : List ℕ) → HasPrinted old taken text
    → (left behind : Told) → ℕ → ℕ → (was is : Told) → Result Report DecodeFault → Type 0
PrintsWhole old new taken text printed left behind before after was is answer =
    (more : List ℕ) × (is ≡ with_end more was)
    × ReadsNext old.reader new.reader taken printed.read left behind before after (text ++ more) answer

-- Behind the text a front went out of the rest of the text, wherever reading ended.
pub record IsCutBehind (old new : PrinterState) (taken text : List ℕ) (printed : HasPrinted old taken text)
    (left behind : Told) (before after : ℕ) (was is : Told) : Type 0 where
  pub rest : List ℕ
  pub read : Result Report DecodeFault
  pub put : PutsFront rest was is
  pub reads : ReadsNext old.reader new.reader taken printed.read left behind before after (text ++ rest) read

-- What the answer of a step says. A write fails only where there is something to print.
abbrev pub Steps : (old new : PrinterState) (taken text : List ℕ) → HasPrinted old taken text → (left behind : Told)
    → ℕ → ℕ → (was is : Told) → Result Step DecodeFault → Type 0
Steps old new taken text printed left behind before after was is (Ok More) =
    Advances old new taken text printed left behind was is × (after ≡ before)
Steps old new taken text printed left behind before after was is (Ok (End report)) =
    PrintsWhole old new taken text printed left behind before after was is (Ok report)
Steps old new taken text printed left behind before after was is (Err WriteFault) =
    (cut : IsCutBehind old new taken text printed left behind before after was is) × (cut.rest ≢ [])
Steps old new taken text printed left behind before after was is (Err NoMemory) =
    IsCutBehind old new taken text printed left behind before after was is
Steps old new taken text printed left behind before after was is (Err (Damaged offset cause)) =
    PrintsWhole old new taken text printed left behind before after was is (Err (Damaged offset cause))
Steps old new taken text printed left behind before after was is (Err ReadFault) =
    PrintsWhole old new taken text printed left behind before after was is (Err ReadFault)

-- so it is of any bytes and any text for which the printer stood
abbrev pub StepsFrom : (old new : PrinterState) (left behind : Told) → ℕ → ℕ → (was is : Told) → Result Step DecodeFault
    → Type 0
StepsFrom old new left behind before after was is answer =
    (taken text : List ℕ) (printed : HasPrinted old taken text)
    → Steps old new taken text printed left behind before after was is answer
