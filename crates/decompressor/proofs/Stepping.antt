-- What a step says, by what was read and printed in it.
use Rattle.std.proofs.Common.{◌≡◌, ℕ, ◌≤◌, Bool, true, false, Some, List, [], ◌∷◌, ◌++◌, length, take, drop, Result, Ok, Err, refl, ap, sym, subst, ◌∙◌, inl, inr, arith}
use Rattle.std.specs.Prelude.{IfSome}
use Rattle.std.specs.Result.{IsErrAnd}
use Rattle.std.specs.List.{list_any}
use Rattle.std.proofs.lemmas.List.{append-nil, take-append-drop}
use Rattle.nl_io.specs.Count.{Rose}
use Rattle.nl_io.specs.Content.{Told, IsAtEnd}
use Rattle.log_dictionary.specs.declared.message.Message.{Message}
use Rattle.checkpoint_io.specs.declared.cause.Cause.{Cause}
use Rattle.checkpoint_io.specs.declared.header.Header.{Header}
use Rattle.checkpoint_io.specs.declared.block.Block.{Block as ReadBlock}
use Rattle.checkpoint_io.specs.Blocks.{Block, messages_of, FileOf, clocks_of}
use Rattle.checkpoint_io.specs.Validity.{Valid, closes}
use Rattle.checkpoint_io.specs.Fronts.{IsCutAt}
use Rattle.checkpoint_io.specs.Places.{with_front, TookSuch}
use Rattle.checkpoint_io.specs.Readers.{ReaderState, StandsFor}
use Rattle.checkpoint_io.specs.NextBlocks.{TakesNext, StopsAt}
use Rattle.checkpoint_io.proofs.lemmas.FileLaws.{file_behind, file_begins, file_ends}
use Rattle.log_scan.specs.Parts.{LogPart}
use Rattle.log_scan.proofs.lemmas.Ends.{some_of, some_of_both, is_whole_scan, is_cut_scan, is_damaged_scan}
use Rattle.direct_printf.specs.Lines.{in_order}
use Rattle.decompressor.specs.declared.fault.DecodeFault.{DecodeFault}
use Rattle.decompressor.specs.declared.fault.DecodeFault.TheVariants.{WriteFault, Damaged, ReadFault, NoMemory}
use Rattle.decompressor.specs.declared.step.Step.{Step}
use Rattle.decompressor.specs.declared.report.Report.{Report}
use Rattle.decompressor.specs.Decompression.{all_calls, whole_text}
use Rattle.decompressor.specs.Decompressing.{IsTextOfWhole, IsTextOfDamaged}
use Rattle.decompressor.specs.Settling.{closed_by, open_writers, settled_calls, settled_text}
use Rattle.decompressor.specs.Waiting.{AreShown}
use Rattle.decompressor.specs.Decompressors.{PrinterState, AreWaiting, HasPrinted, CutsMore, HasTaken, HasLast, PrintsOn, Advances, SettlesNext, ReadsNext, PrintsWhole, IsCutBehind, Steps}
use Rattle.nl_io.proofs.lemmas.Contents.{with_end-none, front-whole}
use Rattle.decompressor.proofs.Counts.{few_calls}
use Rattle.decompressor.proofs.Endings.{text_of_whole, text_of_damaged, text_of_cut}
use Rattle.decompressor.proofs.Queued.{shown_on}

-- what was read, at another reader of the same header
abbrev pub at_reader : PrinterState → ReaderState → PrinterState
at_reader old reader = record old { reader = reader }

module _ {old : PrinterState} {taken text : List ℕ} (printed : HasPrinted old taken text) where
  abbrev read : StandsFor old.reader taken
  read = printed.read

  abbrev pub blocks : List Block
  blocks = read.blocks

  abbrev header : Header
  header = old.reader.header

  -- the printing was cut off, wherever reading ended
  cut_off : (state : PrinterState) (left behind : Told) (before after : ℕ) {was is : Told} {ended : Bool} {header : Header} {first all : List Block} {low high : ℕ} {fault : DecodeFault} (result : Result Step DecodeFault) (answer : Result Report DecodeFault) → IsErrAnd result (λ e. e ≡ fault)
      → (more : CutsMore ended header first all was is low high fault) → ReadsNext old.reader state.reader taken read left behind before after (text ++ more.rest) answer → Steps old state taken text printed left behind before after was is result
  cut_off state left behind before after (Ok step) answer err more reads = absurd err
  cut_off state left behind before after {was} {is} {ended} {header} {first} {all} {low} {high} {fault} (Err e) answer err more reads =
      subst (λ (f : DecodeFault). Steps old state taken text printed left behind before after was is (Err f)) (sym err) (by fault more reads)
    where
      by : (f : DecodeFault) (m : CutsMore ended header first all was is low high f) → ReadsNext old.reader state.reader taken read left behind before after (text ++ m.rest) answer → Steps old state taken text printed left behind before after was is (Err f)
      by WriteFault m reading = (record { rest = m.rest; read = answer; put = m.cut.put; reads = reading }, m.cut.some)
      by NoMemory m reading = record { rest = m.rest; read = answer; put = m.cut.0; reads = reading }
      by ReadFault m reading = absurd m.cut
      by (Damaged offset cause) m reading = absurd m.cut

  -- ---- how reading ended where no block was read, as it is answered where the text goes out whole

  module _ (left : Told) where
    abbrev file : Told
    file = with_front (taken ++ old.reader.waiting.bytes) left

    abbrev part : LogPart
    part = record { header = header; blocks = blocks }

    abbrev Begins : List ℕ → Type 0
    Begins bytes = (rest : List ℕ) × (bytes ≡ taken ++ rest)

    begins : IfSome file Begins
    begins = file_begins taken old.reader.waiting.bytes left

    module _ (state : PrinterState) (behind : Told) (before after : ℕ) where
      abbrev pub EndsSo : Result Report DecodeFault → Type 0
      EndsSo answer = ReadsNext old.reader state.reader taken read left behind before after (whole_text header blocks) answer

      pub whole_reads : (report : Report) → IsAtEnd (with_front old.reader.waiting.bytes left) → after ≡ before → report.lines ≡ length (all_calls header blocks) → report.unclosed ≡ open_writers header blocks → EndsSo (Ok report)
      whole_reads report ended counted lines unclosed = (
        ended,
        (
          counted,
          some_of file (λ bytes. bytes ≡ taken) (λ bytes. IsTextOfWhole bytes (whole_text header blocks) report)
              (λ bytes whole. text_of_whole bytes part report (is_whole_scan bytes part taken old.reader.offset read.file read.valid read.within read.offset whole) lines unclosed) (file_ends taken old.reader.waiting.bytes left ended),
        ),
      )

      pub damaged_reads : (offset : ℕ) (cause : Cause) → offset ≡ old.reader.offset → IfSome file (λ bytes. StopsAt bytes old.reader.offset cause) → after ≡ before → EndsSo (Err (Damaged offset cause))
      damaged_reads offset cause at stops counted = (
        at ∙ read.offset,
        (
          counted,
          some_of_both file Begins (λ bytes. StopsAt bytes old.reader.offset cause) (λ bytes. IsTextOfDamaged bytes (whole_text header blocks) offset cause)
              (λ bytes front stop. text_of_damaged bytes (Some part) offset cause
              (is_damaged_scan bytes part taken offset read.file read.valid read.within (at ∙ read.offset) front cause (subst (λ (n : ℕ). StopsAt bytes n cause) (sym at) stop))) begins stops,
        ),
      )

      -- with the bytes that were taken since then the file is cut off where the reader stands
      pub failed_reads : TookSuch (λ bytes. IsCutAt (taken ++ bytes) old.reader.offset) (with_front old.reader.waiting.bytes left) behind → Rose before after → EndsSo (Err ReadFault)
      failed_reads (bytes, parted, cut) rose = (
        (bytes, parted, subst (IsCutAt (taken ++ bytes)) read.offset cut),
        (
          rose,
          (
            taken ++ bytes,
            file_behind taken old.reader.waiting.bytes bytes left behind parted,
            text_of_cut (taken ++ bytes) (Some part) (is_cut_scan (taken ++ bytes) part taken old.reader.offset read.file read.valid read.within read.offset (bytes, refl) cut),
          ),
        ),
      )

  -- memory was wanting
  pub lacks : (state : PrinterState) (left behind : Told) (before after : ℕ) (was is : Told) (result : Result Step DecodeFault) → IsErrAnd result (λ e. e ≡ NoMemory) → IsCutBehind old state taken text printed left behind before after was is → Steps old state taken text printed left behind before after was is result
  lacks state left behind before after was is (Ok step) err cut = absurd err
  lacks state left behind before after was is (Err e) err cut = subst (λ (f : DecodeFault). Steps old state taken text printed left behind before after was is (Err f)) (sym err) cut

  module _ (new : ReaderState) (same : new.header ≡ header) where
    settled_there : length (settled_calls new.header blocks) ≡ length (settled_calls header blocks)
    settled_there = ap (λ (h : Header). length (settled_calls h blocks)) same

    waiting_there : AreWaiting new.header blocks (in_order (settled_calls new.header blocks)) printed.records
    waiting_there = subst (λ (h : Header). AreWaiting h blocks (in_order (settled_calls h blocks)) printed.records) (sym same) printed.are_waiting

    shown_there : take (length old.reader.messages) new.messages ≡ old.reader.messages → AreShown (closed_by blocks) new old.waiting old.lists printed.records
    shown_there kept = shown_on (closed_by blocks) old.reader new old.waiting old.lists printed.records same kept printed.shown

    -- ---- a block was read

    module _ {told : ReadBlock} {left behind : Told} (next : TakesNext old.reader new taken read told left behind) where
      abbrev block : Block
      block = next.block

      abbrev pub all : List Block
      all = blocks ++ block ∷ []

      file_all : FileOf new.header all (taken ++ next.front)
      file_all = subst (λ (bs : List Block). FileOf new.header bs (taken ++ next.front)) next.blocks next.stands.file

      valid_all : Valid new.header all
      valid_all = subst (Valid new.header) next.blocks next.stands.valid

      pub has_read : take (length old.reader.messages) new.messages ≡ old.reader.messages → HasTaken (at_reader old new) blocks block
      has_read kept = record {
        valid = valid_all;
        few = few_calls new.header all (taken ++ next.front) file_all valid_all next.stands.within;
        known = next.stands.messages ∙ ap messages_of next.blocks;
        clocks = next.stands.times.clocks_are ∙ ap (clocks_of new.header) next.blocks;
        closed = λ w known.
            next.stands.states.closed w known
            ∙ ap (λ (bs : List Block). list_any (closes w) bs) next.blocks;
        body = next.body;
        lines = printed.lines ∙ sym settled_there;
        records = printed.records;
        are_waiting = waiting_there;
        shown = shown_there kept;
      }

      -- the decompressor stands behind the block
      pub advances : {state : PrinterState} {was is : Told} → state.reader ≡ new → new.failed ≡ false → PrintsOn false (at_reader old new) state blocks all was is → Advances old state taken text printed left behind was is
      advances {state} {was} {is} kept right p =
          subst (λ (r : ReaderState). Advances old (record state { reader = r }) taken text printed left behind was is) (sym kept) (record {
            block = block;
            front = next.front;
            more = p.text;
            joined = next.joined;
            put = p.put;
            after = record {
              right = right;
              read = next.stands;
              text_is =
                  ap (λ (bytes : List ℕ). bytes ++ p.text) (printed.text_is ∙ ap (λ (h : Header). settled_text h blocks) (sym same))
                  ∙ sym p.joined
                  ∙ ap (λ (bs : List Block). settled_text new.header bs) (sym next.blocks);
              lines = p.lines ∙ ap (λ (bs : List Block). length (settled_calls new.header bs)) (sym next.blocks);
              records = p.records;
              are_waiting = subst (λ (bs : List Block). AreWaiting new.header bs (in_order (settled_calls new.header bs)) p.records) (sym next.blocks) p.are_waiting;
              shown = subst (λ (bs : List Block). AreShown (closed_by bs) new state.waiting state.lists p.records) (sym next.blocks) p.shown;
            };
            blocks = next.blocks;
          })

      -- the text is what is settled by all blocks, for which the reader stands too
      settles_next : (state : PrinterState) (rest : List ℕ) → state.reader ≡ new → settled_text new.header all ≡ settled_text new.header blocks ++ rest → SettlesNext old.reader state.reader taken read left behind (text ++ rest)
      settles_next state rest kept joined =
          subst (λ (r : ReaderState). SettlesNext old.reader r taken read left behind (text ++ rest)) (sym kept)
          (inr (
            told,
            next,
            ap (λ (bytes : List ℕ). bytes ++ rest) (printed.text_is ∙ ap (λ (h : Header). settled_text h blocks) (sym same))
                ∙ sym joined
                ∙ ap (λ (bs : List Block). settled_text new.header bs) (sym next.blocks),
          ))

    -- ---- nothing more was read

    has_last : (others : List Message) → take (length old.reader.messages) new.messages ≡ old.reader.messages → new.messages ≡ old.reader.messages ++ others → new.times.clocks ≡ old.reader.times.clocks → HasLast (at_reader old new) blocks
    has_last others kept known clocks = record {
      valid = subst (λ (h : Header). Valid h blocks) (sym same) read.valid;
      few = subst (λ (h : Header). length (all_calls h blocks) ≤ 134217728) (sym same) (few_calls header blocks taken read.file read.valid read.within);
      others = others;
      known = known ∙ ap (λ (messages : List Message). messages ++ others) read.messages;
      clocks = clocks ∙ read.times.clocks_are ∙ ap (λ (h : Header). clocks_of h blocks) (sym same);
      lines = printed.lines ∙ sym settled_there;
      records = printed.records;
      are_waiting = waiting_there;
      shown = shown_there kept;
    }

    -- what was defined stays
    pub had_last : new.times.clocks ≡ old.reader.times.clocks → take (length old.reader.messages) new.messages ≡ old.reader.messages → HasLast (at_reader old new) blocks
    had_last clocks kept =
        has_last (drop (length old.reader.messages) new.messages) kept
        (sym (take-append-drop (length old.reader.messages) new.messages) ∙ ap (λ (messages : List Message). messages ++ drop (length old.reader.messages) new.messages) kept)
        clocks

    -- the text is whole
    text_whole : (more : List ℕ) → whole_text new.header blocks ≡ settled_text new.header blocks ++ more → whole_text header blocks ≡ text ++ more
    text_whole more joined =
        subst (λ (h : Header). whole_text h blocks ≡ settled_text h blocks ++ more) same joined
        ∙ ap (λ (bytes : List ℕ). bytes ++ more) (sym printed.text_is)

    module _ (left behind : Told) (before after : ℕ) where
      -- nothing was put
      pub nothing_put : (was : Told) → new.offset ≡ old.reader.offset → after ≡ before → IsCutBehind old (at_reader old new) taken text printed left behind before after was was
      nothing_put was still counted = record { rest = []; read = Err NoMemory; put = (0, omega arith, with_end-none [] was); reads = (counted, inl (still, append-nil text ∙ printed.text_is)) }

      -- the rest of the text is printed, once reading ended so
      module _ (state : PrinterState) (was is : Told) (answer : Result Report DecodeFault) (reads : EndsSo left state behind before after answer) where
        reads_on : (more : List ℕ) → whole_text new.header blocks ≡ settled_text new.header blocks ++ more → ReadsNext old.reader state.reader taken read left behind before after (text ++ more) answer
        reads_on more joined = subst (λ (whole : List ℕ). ReadsNext old.reader state.reader taken read left behind before after whole answer) (text_whole more joined) reads

        -- it is printed whole
        pub completes : PrintsOn true (at_reader old new) state blocks blocks was is → PrintsWhole old state taken text printed left behind before after was is answer
        completes p = (p.text, p.put, reads_on p.text p.joined)

        -- it was printed whole, and then memory was wanting
        pub all_put : PrintsOn true (at_reader old new) state blocks blocks was is → IsCutBehind old state taken text printed left behind before after was is
        all_put p = record { rest = p.text; read = answer; put = front-whole p.text was is p.put; reads = reads_on p.text p.joined }

        -- the printing was cut off
        pub rest_stops : {low high : ℕ} {fault : DecodeFault} (result : Result Step DecodeFault) → IsErrAnd result (λ e. e ≡ fault) → CutsMore true new.header blocks blocks was is low high fault → Steps old state taken text printed left behind before after was is result
        rest_stops result err more = cut_off state left behind before after result answer err more (reads_on more.rest more.joined)

    -- the printing behind a block was cut off
    module _ {told : ReadBlock} {left behind : Told} (next : TakesNext old.reader new taken read told left behind) where
      pub block_stops : (state : PrinterState) (before after : ℕ) {was is : Told} {low high : ℕ} {fault : DecodeFault} (result : Result Step DecodeFault) → state.reader ≡ new → IsErrAnd result (λ e. e ≡ fault) → CutsMore false new.header blocks (blocks ++ next.block ∷ []) was is low high fault
          → after ≡ before → Steps old state taken text printed left behind before after was is result
      block_stops state before after result kept err more counted = cut_off state left behind before after result (Err NoMemory) err more (counted, settles_next next state more.rest kept more.joined)
