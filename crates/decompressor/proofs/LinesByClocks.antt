-- Later clocks change no line of a call that stands before them.
use Rattle.std.proofs.Common.{◌≡◌, ℕ, ◌+◌, ◌<◌, List, [], ◌∷◌, ◌++◌, Option, Some, None, refl, ap, sym, subst, ◌∙◌, append_assoc, append-nil}
use Rattle.std.specs.Prelude.{option_map, slice_get}
use Rattle.std.specs.List.{AllByRecursion, flat_map, filter_map, enumerate_from, cons_option, range_with_len}
use Rattle.std.proofs.lemmas.List.Sorted.{All-permutation, IsPermutation-sym}
use Rattle.std.proofs.lemmas.List.Elements.{All-from_recursion, recursion_from_All}
use Rattle.log_dictionary.specs.declared.clock.Clock.{Clock}
use Rattle.log_dictionary.specs.declared.message.Message.{Message}
use Rattle.log_dictionary.specs.Calls.{LogCall}
use Rattle.arg_records.specs.declared.call.Call.{Call}
use Rattle.arg_records.specs.Calls.{log_call}
use Rattle.checkpoint_io.specs.declared.header.Header.{Header}
use Rattle.checkpoint_io.specs.Blocks.{Block, Fragment, Extent, NewClock, Close, messages_of, block_calls, clocks_of, all_records}
use Rattle.checkpoint_io.specs.Validity.{records_of, IsRightAfter, Valid}
use Rattle.checkpoint_io.proofs.lemmas.ValidityLaws.{AreRightAfter-split, all_parts, all_own, clocks-push, all_records-push}
use Rattle.direct_printf.specs.Lines.{in_order, Line}
use Rattle.direct_printf.proofs.lemmas.Sorting.{in_order-permutation}
use Rattle.trace_text.proofs.lemmas.ClockLines.{line_before}
use Rattle.decompressor.specs.Decompression.{CallsOf, all_calls}
use Rattle.decompressor.specs.Settling.{is_settled, settled_calls}
use Rattle.decompressor.proofs.Rising.{all_kept, all_flat}

-- ---- calls in front of a tick

abbrev pub AreEarly : ℕ → List LogCall → Type 0
AreEarly tick calls = AllByRecursion (λ call. call.stamp < tick) calls

calls_early : (tick : ℕ) (messages : List Message) (writer n : ℕ) (records : List Call) → AllByRecursion (λ call. call.stamp < tick) records → AreEarly tick (filter_map (log_call messages writer) (enumerate_from n records))
calls_early tick messages writer n [] all = tt
calls_early tick messages writer n (logged ∷ records) all = at (slice_get messages logged.id) (calls_early tick messages writer (n + 1) records all.1)
  where
    at : (found : Option Message) → AreEarly tick (filter_map (log_call messages writer) (enumerate_from (n + 1) records))
        → AreEarly tick (cons_option (option_map (λ message. record { writer = writer; ordinal = n; stamp = logged.stamp; message = message; args = logged.args }) found) (filter_map (log_call messages writer) (enumerate_from (n + 1) records)))
    at None rest = rest
    at (Some message) rest = (all.0, rest)

calls_have : (header : Header) (blocks : List Block) (tick : ℕ) → AllByRecursion (λ call. call.stamp < tick) (all_records blocks) → AreEarly tick (all_calls header blocks)
calls_have header blocks tick all =
    all_flat (λ (call : LogCall). call.stamp < tick) (CallsOf blocks) (range_with_len 0 header.writers)
    (λ writer. calls_early tick (messages_of blocks) writer 0 (records_of writer blocks) (all_own (λ (call : Call). call.stamp < tick) writer blocks all))

in_order_early : (tick : ℕ) (calls : List LogCall) → AreEarly tick calls → AreEarly tick (in_order calls)
in_order_early tick calls early =
    recursion_from_All (λ (call : LogCall). call.stamp < tick) (in_order calls)
    (All-permutation (λ (call : LogCall). call.stamp < tick) calls (in_order calls) (IsPermutation-sym (in_order calls) calls (in_order-permutation calls)) (All-from_recursion (λ (call : LogCall). call.stamp < tick) calls early))

-- the settled calls are in front of a tick that no record has reached
pub settled_early : (header : Header) (blocks : List Block) (tick : ℕ) → AllByRecursion (λ call. call.stamp < tick) (all_records blocks) → AreEarly tick (in_order (settled_calls header blocks))
settled_early header blocks tick all =
    in_order_early tick (settled_calls header blocks)
    (all_kept (λ (call : LogCall). call.stamp < tick) (is_settled header blocks) (all_calls header blocks) (calls_have header blocks tick all))

-- ---- lines of blocks, and of more

abbrev lines : List Clock → List LogCall → List ℕ
lines clocks calls = flat_map (Line clocks) calls

lines_before : (clocks : List Clock) (clock : Clock) (calls : List LogCall) → AreEarly clock.tick calls → lines (clocks ++ clock ∷ []) calls ≡ lines clocks calls
lines_before clocks clock [] early = refl
lines_before clocks clock (call ∷ calls) early = λ i. line_before clocks clock call early.0 i ++ lines_before clocks clock calls early.1 i

-- the calls have no greater stamps than the records of the blocks
abbrev AreOf : List Block → List LogCall → Type 0
AreOf blocks calls = (tick : ℕ) → AllByRecursion (λ call. call.stamp < tick) (all_records blocks) → AreEarly tick calls

one_more : (header : Header) (blocks : List Block) (block : Block) (calls : List LogCall) → IsRightAfter header blocks block → AreOf blocks calls → lines (clocks_of header (blocks ++ block ∷ [])) calls ≡ lines (clocks_of header blocks) calls
one_more header blocks (Fragment first messages) calls right are = ap (λ (clocks : List Clock). lines clocks calls) (clocks-push header blocks (Fragment first messages) ∙ append-nil (clocks_of header blocks))
one_more header blocks (Extent writer records) calls right are = ap (λ (clocks : List Clock). lines clocks calls) (clocks-push header blocks (Extent writer records) ∙ append-nil (clocks_of header blocks))
one_more header blocks (NewClock clock) calls right are =
    ap (λ (clocks : List Clock). lines clocks calls) (clocks-push header blocks (NewClock clock)) ∙ lines_before (clocks_of header blocks) clock calls (are clock.tick right.early)
one_more header blocks (Close writer) calls right are = ap (λ (clocks : List Clock). lines clocks calls) (clocks-push header blocks (Close writer) ∙ append-nil (clocks_of header blocks))

-- blocks more change no line of calls that are settled without them
pub same_lines : (header : Header) (blocks more : List Block) (calls : List LogCall) → Valid header (blocks ++ more) → AreOf blocks calls → lines (clocks_of header (blocks ++ more)) calls ≡ lines (clocks_of header blocks) calls
same_lines header blocks [] calls valid are = ap (λ (b : List Block). lines (clocks_of header b) calls) (append-nil blocks)
same_lines header blocks (block ∷ more) calls valid are =
    let right = (AreRightAfter-split header [] blocks (block ∷ more) valid.blocks_right).1.0 in
    let long : Valid header ((blocks ++ block ∷ []) ++ more) = subst (Valid header) (sym (append_assoc blocks (block ∷ []) more)) valid in
    let are_long : AreOf (blocks ++ block ∷ []) calls =
    λ tick all. are tick (all_parts (λ (call : Call). call.stamp < tick) (all_records blocks) (block_calls block) (subst (AllByRecursion (λ (call : Call). call.stamp < tick)) (all_records-push blocks block) all)).0 in
    ap (λ (b : List Block). lines (clocks_of header b) calls) (sym (append_assoc blocks (block ∷ []) more))
    ∙ same_lines header (blocks ++ block ∷ []) more calls long are_long ∙ one_more header blocks block calls right are

-- ---- clocks that aren't written

-- the calls of all writers are in front of a tick that no record has reached
pub all_early : (header : Header) (blocks : List Block) (tick : ℕ) → AllByRecursion (λ call. call.stamp < tick) (all_records blocks) → AreEarly tick (in_order (all_calls header blocks))
all_early header blocks tick all = in_order_early tick (all_calls header blocks) (calls_have header blocks tick all)

-- further clocks whose ticks no call has reached change no line
pub further_lines : (clocks more : List Clock) (calls : List LogCall) → AllByRecursion (λ clock. AreEarly clock.tick calls) more → lines (clocks ++ more) calls ≡ lines clocks calls
further_lines clocks [] calls early = ap (λ (l : List Clock). lines l calls) (append-nil clocks)
further_lines clocks (clock ∷ more) calls early =
    ap (λ (l : List Clock). lines l calls) (sym (append_assoc clocks (clock ∷ []) more))
    ∙ further_lines (clocks ++ clock ∷ []) more calls early.1 ∙ lines_before clocks clock calls early.0
