-- What a block that was read makes ready to be printed.
use Rattle.std.proofs.Common.{◌≡◌, ℕ, ◌<◌, ◌≤◌, Bool, true, false, ◌||◌, List, [], ◌∷◌, ◌++◌, length, drop, refl, ap, sym, subst, ◌∙◌, arith}
use Rattle.std.proofs.lemmas.List.{append-nil, length-append, drop-append-le}
use Rattle.std.proofs.lemmas.List.Folds.{list_any-append}
use Rattle.arg_records.specs.declared.call.Call.{Call}
use Rattle.checkpoint_io.specs.declared.header.Header.{Header}
use Rattle.checkpoint_io.specs.Blocks.{Block, Fragment, Extent, NewClock, Close, messages_of}
use Rattle.checkpoint_io.specs.Validity.{block_records, records_of, closes, IsRightAfter, Valid}
use Rattle.checkpoint_io.proofs.lemmas.ValidityLaws.{records-push, AreRightAfter-split}
use Rattle.session_options.proofs.lemmas.VersionLimits.{few_writers}
use Rattle.stamp_merge.specs.declared.merger.ListState.{ListState}
use Rattle.direct_printf.specs.Lines.{in_order}
use Rattle.decompressor.specs.Settling.{closed_by, settled_calls}
use Rattle.decompressor.specs.Waiting.{QueueState, HasHeads, AreShown, MayStillCome, closed_behind, TakesRecords, AddsBlock}
use Rattle.decompressor.specs.Decompressors.{PrinterState, count_of, no_more_come, HasToPrint, HasTaken, HasLast}
use Rattle.decompressor.proofs.Tests.{not_true, or_false}
use Rattle.decompressor.proofs.WriterLists.{own}
use Rattle.decompressor.proofs.Printed.{settled_printed}
use Rattle.decompressor.proofs.Calls.{has_calls}
use Rattle.decompressor.proofs.Growing.{front_valid}
use Rattle.decompressor.proofs.Heads.{heads_by}
use Rattle.decompressor.proofs.Turns.{no_more_calls}

-- ---- which records may come

may_come : (header : Header) (first : List Block) (block : Block) → IsRightAfter header first block → MayStillCome (closed_by first) header.writers block
may_come header first (Fragment f messages) right w of = absurd of
may_come header first (Extent v records) right w of =
    (subst (λ (u : ℕ). u < header.writers) of right.writer_open.known, subst (λ (u : ℕ). closed_by first u ≡ false) of (not_true right.writer_open.unclosed))
may_come header first (NewClock clock) right w of = absurd of
may_come header first (Close v) right w of =
    (subst (λ (u : ℕ). u < header.writers) of right.known, subst (λ (u : ℕ). closed_by first u ≡ false) of (not_true right.unclosed))

module _ {state : PrinterState} {first : List Block} {block : Block} (read : HasTaken state first block) where
  abbrev header : Header
  header = state.reader.header

  abbrev all : List Block
  all = first ++ block ∷ []

  -- the block may be added to what waits
  pub may_add : {waiting : List QueueState} → waiting ≡ state.waiting → MayStillCome (closed_by first) (length waiting) block × AreShown (closed_by first) state.reader waiting state.lists read.records
  may_add same = (
    λ w of.
        let both = may_come header first block (AreRightAfter-split header [] first (block ∷ []) read.valid.blocks_right).1.0 w of in
        (omega (arith, both.0, read.are_waiting.count, read.shown.held.many, ap length same), both.1),
    subst (λ (queues : List QueueState). AreShown (closed_by first) state.reader queues state.lists read.records) (sym same) read.shown,
  )

  -- ---- what is ready to be printed

  few_printed : (w : ℕ) → count_of w (in_order (settled_calls header first)) ≤ length (records_of w first)
  few_printed w =
      let was : Valid header first = front_valid header first (block ∷ []) read.valid in
      let settled = settled_printed (has_calls was) in
      omega (
        arith,
        ap length (settled.whole w),
        length-append (own w (in_order (settled_calls header first))) (settled.rest w),
        no_more_calls was w,
      )

  module _ {changed shown : List QueueState} {new : List ListState} (is : shown ≡ changed) (added : AddsBlock (closed_by first) block state.reader read.records changed new) where
    took : TakesRecords (closed_by first) block read.records added.records new
    took = added.takes

    pub ready : HasToPrint false state.reader first all shown new
    ready = subst (λ (w : List QueueState). HasToPrint false state.reader first all w new) (sym is) (record {
      more = block ∷ [];
      joined = refl;
      valid = read.valid;
      few = read.few;
      others = [];
      known = read.known ∙ sym (append-nil (messages_of all));
      clocks = read.clocks;
      closed = read.closed;
      records = added.records;
      are_waiting = record {
        count = took.count ∙ read.are_waiting.count;
        each = λ w known.
            let n = count_of w (in_order (settled_calls header first)) in
            took.waiting w
            ∙ ap (λ (records : List Call). records ++ block_records w block) (read.are_waiting.each w known)
            ∙ sym (drop-append-le n (records_of w first) (block_records w block) (few_printed w))
            ∙ ap (drop n) (sym (records-push w first block));
      };
      shown = record {
        held = added.held;
        heads = heads_by (closed_behind (closed_by first) block) new added.records took.heads (no_more_come false all)
            (λ w known. sym (list_any-append (closes w) first (block ∷ []) ∙ ap (λ (b : Bool). closed_by first w || b) (sym (or_false (closes w block) refl))));
      };
    })

-- ---- nothing more comes

module _ {state : PrinterState} {blocks : List Block} (last : HasLast state blocks) where
  -- few writers have records that wait
  pub few_wait : length state.waiting ≤ 1024
  few_wait = omega (arith, last.are_waiting.count, last.shown.held.many, last.valid.header_right.few_writers, few_writers state.reader.header.version)

  pub all_ready_now : {new : List ListState} → HasHeads (λ writer. true) new last.records → HasToPrint true state.reader blocks blocks state.waiting new
  all_ready_now heads = record {
    more = [];
    joined = sym (append-nil blocks);
    valid = last.valid;
    few = last.few;
    others = last.others;
    known = last.known;
    clocks = last.clocks;
    closed = λ w known. refl;
    records = last.records;
    are_waiting = last.are_waiting;
    shown = record { held = last.shown.held; heads = heads };
  }
