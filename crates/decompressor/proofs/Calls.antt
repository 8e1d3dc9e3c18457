-- The calls of a log's writers.
use Rattle.std.proofs.Common.{◌≡◌, ℕ, zero, suc, ◌+◌, ◌<◌, ◌≤◌, Bool, true, false, cond, eqb, List, [], ◌∷◌, ◌++◌, length, Option, Some, None, refl, ap, sym, subst, ◌∙◌, inl, inr, ◌⊎◌, arith}
use Rattle.std.specs.Prelude.{slice_get, option_map}
use Rattle.std.specs.List.{AllByRecursion, list_any, filter_map, enumerate_from, cons_option}
use Rattle.std.proofs.lemmas.Bool.Decides.{eqb_tells}
use Rattle.std.proofs.lemmas.List.Elements.{filter_map-append}
use Rattle.std.proofs.lemmas.List.Folds.{list_any-append}
use Rattle.log_dictionary.specs.declared.message.Message.{Message}
use Rattle.log_dictionary.specs.Calls.{LogCall}
use Rattle.arg_records.specs.declared.call.Call.{Call}
use Rattle.arg_records.specs.Calls.{IsCall, NeverFalls, log_call, writer_calls}
use Rattle.checkpoint_io.specs.declared.header.Header.{Header}
use Rattle.checkpoint_io.specs.Blocks.{Block, Fragment, Extent, NewClock, Close, block_messages, messages_of}
use Rattle.checkpoint_io.specs.Validity.{block_records, records_of, closes, IsRightAfter, AreRightAfter, Valid}
use Rattle.checkpoint_io.proofs.lemmas.ValidityLaws.{records-push, messages-push, records_fit, stamps_rise}
use Rattle.stamp_merge.proofs.lemmas.Ordering.{IsRising, in_order_from}
use Rattle.direct_printf.specs.Lines.{call_before, in_order}
use Rattle.direct_printf.proofs.lemmas.Sorting.{call_order, in_order-rises}
use Rattle.trace_text.proofs.lemmas.OwnCalls.{is_of, own_in_order}
use Rattle.decompressor.specs.Decompression.{CallsOf}
use Rattle.decompressor.specs.Settling.{closed_by}
use Rattle.decompressor.proofs.lemmas.TextLaws.{same_calls}
use Rattle.decompressor.proofs.Rising.{rising_from, rising_kept}
use Rattle.decompressor.proofs.WriterLists.{IsOf}
use Rattle.decompressor.proofs.Tests.{not_true, either_false}
use Rattle.decompressor.proofs.Printed.{HasCalls}

-- ---- one writer

module _ (messages : List Message) (writer : ℕ) where
  calls_mine : (n : ℕ) (records : List Call) → AllByRecursion (IsOf writer) (filter_map (log_call messages writer) (enumerate_from n records))
  calls_mine n [] = tt
  calls_mine n (logged ∷ records) = at (slice_get messages logged.id) (calls_mine (n + 1) records)
    where
      at : (found : Option Message) → AllByRecursion (IsOf writer) (filter_map (log_call messages writer) (enumerate_from (n + 1) records))
          → AllByRecursion (IsOf writer) (cons_option (option_map (λ message. record { writer = writer; ordinal = n; stamp = logged.stamp; message = message; args = logged.args }) found) (filter_map (log_call messages writer) (enumerate_from (n + 1) records)))
      at None rest = rest
      at (Some message) rest = (refl, rest)

-- records alone at the place of their writer
abbrev alone : ℕ → List Call → List (List Call)
alone zero records = records ∷ []
alone (suc writer) records = [] ∷ alone writer records

alone_there : (writer : ℕ) (records : List Call) → slice_get (alone writer records) writer ≡ Some records
alone_there zero records = refl
alone_there (suc writer) records = alone_there writer records

alone_right : (messages : List Message) (writer : ℕ) (records : List Call) → AllByRecursion (IsCall messages) records → AllByRecursion (AllByRecursion (IsCall messages)) (alone writer records)
alone_right messages zero records all = (all, tt)
alone_right messages (suc writer) records all = (tt, alone_right messages writer records all)

-- calls of records whose stamps never fall rise
calls_rise : (messages : List Message) (writer least : ℕ) (records : List Call) → AllByRecursion (IsCall messages) records → NeverFalls least records → IsRising call_before (writer_calls messages (writer, records))
calls_rise messages writer least records all rises =
    let calls = own_in_order messages (alone writer records) writer least records (alone_there writer records) (alone_right messages writer records all) all rises in
    subst (IsRising call_before) calls (rising_kept call_before call_order (is_of writer) (in_order _) (rising_from call_before call_order (in_order _) (in_order_from call_before (in_order _) (in_order-rises _))))

-- ---- a log

none_outside : (header : Header) (w : ℕ) → header.writers ≤ w → (before blocks : List Block) → AreRightAfter header before blocks → records_of w blocks ≡ []
none_outside header w out before [] right = refl
none_outside header w out before (Fragment first messages ∷ blocks) right = none_outside header w out (before ++ Fragment first messages ∷ []) blocks right.1
none_outside header w out before (Extent v records ∷ blocks) right =
    elim (eqb_tells v w) [
      | inl same ↦ absurd (omega (arith, out, same.1, right.0.writer_open.known))
      | inr apart ↦ ap (λ (b : Bool). cond b records [] ++ records_of w blocks) apart.0 ∙ none_outside header w out (before ++ Extent v records ∷ []) blocks right.1
    ]
none_outside header w out before (NewClock clock ∷ blocks) right = none_outside header w out (before ++ NewClock clock ∷ []) blocks right.1
none_outside header w out before (Close v ∷ blocks) right = none_outside header w out (before ++ Close v ∷ []) blocks right.1

pub has_calls : {header : Header} {blocks : List Block} → Valid header blocks → HasCalls header blocks
has_calls {header} {blocks} valid = record {
  mine = λ w. calls_mine (messages_of blocks) w 0 (records_of w blocks);
  rise = λ w. calls_rise (messages_of blocks) w header.clock.tick (records_of w blocks) (records_fit header blocks w valid) (stamps_rise header blocks w valid);
  outside = λ w out. ap (λ (records : List Call). writer_calls (messages_of blocks) (w, records)) (none_outside header w out [] blocks valid.blocks_right);
}

-- ---- one block more

enumerate-append : {X : Type 0} (n : ℕ) (xs ys : List X) → enumerate_from n (xs ++ ys) ≡ enumerate_from n xs ++ enumerate_from (n + length xs) ys
enumerate-append n [] ys = let same : n ≡ n + 0 = omega arith in ap (λ (k : ℕ). enumerate_from k ys) same
enumerate-append n (x ∷ xs) ys =
    let same : n + 1 + length xs ≡ n + suc (length xs) = omega arith in
    ap (λ zs. (n, x) ∷ zs) (enumerate-append (n + 1) xs ys ∙ ap (λ (k : ℕ). enumerate_from (n + 1) xs ++ enumerate_from k ys) same)

module _ (header : Header) (blocks : List Block) (block : Block) (valid : Valid header blocks) where
  abbrev pub behind : List Block
  behind = blocks ++ block ∷ []

  -- the calls that the block has of a writer
  abbrev pub added : ℕ → List LogCall
  added w = filter_map (log_call (messages_of behind) w) (enumerate_from (0 + length (records_of w blocks)) (block_records w block))

  pub calls_grow : (w : ℕ) → CallsOf behind w ≡ CallsOf blocks w ++ added w
  calls_grow w =
      let records = records_of w blocks in
      let front : filter_map (log_call (messages_of behind) w) (enumerate_from 0 records) ≡ CallsOf blocks w =
      ap (λ (messages : List Message). filter_map (log_call messages w) (enumerate_from 0 records)) (messages-push blocks block)
      ∙ sym (same_calls (messages_of blocks) (block_messages block) w 0 records (records_fit header blocks w valid)) in
      ap (λ (all : List Call). filter_map (log_call (messages_of behind) w) (enumerate_from 0 all)) (records-push w blocks block)
      ∙ ap (filter_map (log_call (messages_of behind) w)) (enumerate-append 0 records (block_records w block))
      ∙ filter_map-append (log_call (messages_of behind) w) (enumerate_from 0 records) (enumerate_from (0 + length records) (block_records w block))
      ∙ ap (λ (calls : List LogCall). calls ++ added w) front

  -- a block has records of a writer that isn't closed
  pub added_open : IsRightAfter header blocks block → (w : ℕ) → (added w ≡ []) ⊎ ((w < header.writers) × (closed_by blocks w ≡ false))
  added_open right w = at block right
    where
      none_by : (records : List Call) → records ≡ [] → filter_map (log_call (messages_of behind) w) (enumerate_from (0 + length (records_of w blocks)) records) ≡ []
      none_by records none = ap (λ (es : List Call). filter_map (log_call (messages_of behind) w) (enumerate_from (0 + length (records_of w blocks)) es)) none

      at : (b : Block) → IsRightAfter header blocks b → (filter_map (log_call (messages_of behind) w) (enumerate_from (0 + length (records_of w blocks)) (block_records w b)) ≡ []) ⊎ ((w < header.writers) × (closed_by blocks w ≡ false))
      at (Fragment first messages) r = inl refl
      at (Extent v records) r = elim (eqb_tells v w) [
        | inl same ↦ inr (subst (λ (u : ℕ). u < header.writers) same.1 r.writer_open.known, not_true (subst (λ (u : ℕ). ¬ (list_any (closes u) blocks ≡ true)) same.1 r.writer_open.unclosed))
        | inr apart ↦ inl (none_by (cond (eqb v w) records []) (ap (λ (b : Bool). cond b records []) apart.0))
      ]
      at (NewClock clock) r = inl refl
      at (Close v) r = inl refl

  pub closed_grow : (w : ℕ) → closed_by behind w ≡ false → closed_by blocks w ≡ false
  closed_grow w is_open = (either_false (closed_by blocks w) (list_any (closes w) (block ∷ [])) (sym (list_any-append (closes w) blocks (block ∷ [])) ∙ is_open)).0
