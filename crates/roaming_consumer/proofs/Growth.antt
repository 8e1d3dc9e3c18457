-- How the log of a run grows.
use Rattle.std.proofs.Common.{◌≡◌, ℕ, ◌+◌, ◌-◌, ◌<◌, ◌≤◌, ◌^◌, Bool, true, false, ◌||◌, List, [], ◌∷◌, ◌++◌, length, map, get_or, take, drop, filter, refl, sym, ap, subst, ◌∙◌, append_assoc, inl, inr, arith, true≢false}
use Rattle.std.specs.Prelude.{◌↔◌, nat_le, max, All, Some, slice_get, slice_set, replicate}
use Rattle.std.specs.List.{AllByRecursion, flat_map, list_any, range_with_len}
use Rattle.std.proofs.Math.ListN.{length-set}
use Rattle.std.proofs.Math.Bool.{or-false, or-true}
use Rattle.std.proofs.lemmas.Bool.{true_from_ne_false}
use Rattle.std.proofs.lemmas.Bool.Decides.{eqb_tells}
use Rattle.std.proofs.lemmas.List.{append-nil, length-append, length-take, take-append-drop, drop_at, length-replicate, get_or-set_same, get_or-set_other}
use Rattle.std.proofs.lemmas.List.Elements.{recursion_from_All}
use Rattle.std.proofs.lemmas.List.Folds.{list_any-append}
use Rattle.std.proofs.lemmas.List.FromFn.{get_or-map-range_with_len}
use Rattle.std.proofs.lemmas.Grind.{flat_map-append}
use Rattle.log_dictionary.specs.declared.clock.Clock.{Clock}
use Rattle.log_dictionary.specs.declared.message.Message.{Message}
use Rattle.log_dictionary.specs.Clocks.{FitsClock}
use Rattle.log_dictionary.specs.Messages.{AreDistinct}
use Rattle.arg_records.specs.declared.call.Call.{Call}
use Rattle.arg_records.specs.Calls.{IsCall, NeverFalls, last_stamp}
use Rattle.buffer_extent.specs.Bodies.{SpellsRecords}
use Rattle.checkpoint_io.specs.declared.header.Header.{Header}
use Rattle.checkpoint_io.specs.Versions.{has_clocks, writer_len, most_body}
use Rattle.checkpoint_io.specs.Blocks.{Block, Fragment, Extent, NewClock, Close, block_messages, messages_of, block_clocks, clocks_in, clocks_of, block_calls, all_records, header_bytes, extent_head_bytes, close_bytes, SpellsBlocks, SpellsExtent, SpellsClose, FileOf}
use Rattle.checkpoint_io.specs.Validity.{block_records, records_of, closes, IsClosed, DefinesNext, AreRightAfter, IsHeader, Valid}
use Rattle.checkpoint_io.specs.Logs.{ids_used, new_messages, greatest_stamp, new_clocks, AreFragments, StandsInFront, IsLaidOut, ends, extent, close, LogOf}
use Rattle.checkpoint_io.proofs.lemmas.FrontLaws.{empty_file, file_goes_on}
use Rattle.checkpoint_io.proofs.lemmas.LogLaws.{messages_of-AreFragments, stamps_within, stamp_least, laid_out_join}
use Rattle.checkpoint_io.proofs.lemmas.VersionLaws.{writers_fit}
use Rattle.checkpoint_io.proofs.lemmas.ValidityLaws.{messages-push, records-push, clocks-push, all_records-push, AreRightAfter-append, goes_on, all_both, all_parts, all_own}
use Rattle.session_options.specs.Versions.{MayHaveClocks}
use Rattle.roaming_consumer.specs.Growth.{LogProgress, IsLogSoFar, with_calls, clocks_bytes, IsNext, progress_behind, progress_closing}
pub use Rattle.roaming_consumer.proofs.DueClocks.{last_is_greatest, greatest_append}
use Rattle.roaming_consumer.proofs.DueClocks.{all_as, all_two, Rising, rising_back, first_below, parted, IsUnreached, Behind, behind, clocks_right, clocks_spelled, later_laid, all_of_each}
use Rattle.roaming_consumer.proofs.Used.{distinct_front, new_behind, ids_known, calls_of_front, spelled_with_front}
use Rattle.roaming_consumer.proofs.Lists.{at_one, more_at_one, none_each}

-- ---- several blocks more

-- a file goes on with blocks
pub file_goes_on_with : (header : Header) (blocks more : List Block) (bytes spelled : List ℕ) → FileOf header blocks bytes → SpellsBlocks header blocks more spelled → FileOf header (blocks ++ more) (bytes ++ spelled)
file_goes_on_with header blocks [] bytes spelled file none =
    subst (λ (b : List Block). FileOf header b (bytes ++ spelled)) (sym (append-nil blocks)) (subst (FileOf header blocks) (sym (ap (λ (l : List ℕ). bytes ++ l) none ∙ append-nil bytes)) file)
file_goes_on_with header blocks (block ∷ more) bytes spelled file (front, back, joined, is, others) =
    let behind = file_goes_on_with header (blocks ++ block ∷ []) more (bytes ++ front) back (file_goes_on header blocks block bytes front file is) others in
    subst (λ (b : List Block). FileOf header b (bytes ++ spelled)) (append_assoc blocks (block ∷ []) more)
    (subst (FileOf header (blocks ++ block ∷ [] ++ more)) (append_assoc bytes front back ∙ ap (λ (l : List ℕ). bytes ++ l) (sym joined)) behind)

-- fragments of new messages are right
pub fragments_right : (header : Header) (first : ℕ) (messages : List Message) (blocks before : List Block) → AreFragments first messages blocks → first ≡ length (messages_of before) → AreDistinct (messages_of before ++ messages) → length (messages_of before ++ messages) ≤ 65536 → AreRightAfter header before blocks
fragments_right header first messages [] before are next distinct few = tt
fragments_right header first messages (Extent writer records ∷ blocks) before are next distinct few = absurd are
fragments_right header first messages (NewClock clock ∷ blocks) before are next distinct few = absurd are
fragments_right header first messages (Close writer ∷ blocks) before are next distinct few = absurd are
fragments_right header first messages (Fragment id front ∷ blocks) before (back, is, joined, full, rest) next distinct few =
    let defined = messages_of before in
    let all : defined ++ messages ≡ (defined ++ front) ++ back = ap (λ (l : List Message). defined ++ l) joined ∙ sym (append_assoc defined front back) in
    let now : messages_of (before ++ Fragment id front ∷ []) ≡ defined ++ front = messages-push before (Fragment id front) in
    let whole : AreDistinct ((defined ++ front) ++ back) = subst AreDistinct all distinct in
    let right : DefinesNext before id front = record {
      next = is ∙ next;
      distinct = distinct_front (defined ++ front) back whole;
      few = omega (arith, few, ap length all, length-append (defined ++ front) back);
    } in (
      right,
      fragments_right header (first + length front) back blocks (before ++ Fragment id front ∷ []) rest
          (omega (arith, next, ap length now, length-append defined front))
          (subst (λ (l : List Message). AreDistinct (l ++ back)) (sym now) whole)
          (omega (arith, few, ap length all, ap (λ (l : List Message). length (l ++ back)) now)),
    )

-- ---- what fragments leave as it was

fragments_close_none : (writer first : ℕ) (messages : List Message) (blocks : List Block) → AreFragments first messages blocks → list_any (closes writer) blocks ≡ false
fragments_close_none writer first messages [] are = refl
fragments_close_none writer first messages (Fragment id front ∷ blocks) (back, is, joined, full, rest) = fragments_close_none writer (first + length front) back blocks rest
fragments_close_none writer first messages (Extent w records ∷ blocks) are = absurd are
fragments_close_none writer first messages (NewClock clock ∷ blocks) are = absurd are
fragments_close_none writer first messages (Close w ∷ blocks) are = absurd are

-- what no fragment gives
fragments_give_none : {A : Type 0} (f : Block → List A) → ((id : ℕ) (front : List Message) → f (Fragment id front) ≡ []) → (first : ℕ) (messages : List Message) (blocks : List Block) → AreFragments first messages blocks → flat_map f blocks ≡ []
fragments_give_none f none first messages [] are = refl
fragments_give_none f none first messages (Fragment id front ∷ blocks) (back, is, joined, full, rest) =
    ap (λ (l : List _). l ++ flat_map f blocks) (none id front) ∙ fragments_give_none f none (first + length front) back blocks rest
fragments_give_none f none first messages (Extent writer records ∷ blocks) are = absurd are
fragments_give_none f none first messages (NewClock clock ∷ blocks) are = absurd are
fragments_give_none f none first messages (Close writer ∷ blocks) are = absurd are

given_before : {A : Type 0} (f : Block → List A) → ((id : ℕ) (front : List Message) → f (Fragment id front) ≡ []) → (blocks fragments : List Block) (first : ℕ) (messages : List Message) → AreFragments first messages fragments → flat_map f (blocks ++ fragments) ≡ flat_map f blocks
given_before f none blocks fragments first messages are =
    flat_map-append f blocks fragments ∙ ap (λ (l : List _). flat_map f blocks ++ l) (fragments_give_none f none first messages fragments are) ∙ append-nil (flat_map f blocks)

-- ---- stamps

-- those behind don't fall from the last one in front
pub falls_behind : (least : ℕ) (front back : List Call) → NeverFalls least (front ++ back) → NeverFalls (last_stamp least front) back
falls_behind least [] back rising = rising
falls_behind least (call ∷ front) back rising = falls_behind call.stamp front back rising.1

-- ---- messages

-- behind the messages that are defined come the new ones, and others may be left
record MessagesGrow (dictionary defined : List Message) (count : ℕ) (records : List Call) : Type 0 where
  undefined : List Message
  whole : dictionary ≡ defined ++ new_messages dictionary count records ++ undefined
  used : ids_used records ≤ length (defined ++ new_messages dictionary count records)
  counted : max count (ids_used records) ≡ length (defined ++ new_messages dictionary count records)

messages_grow : (dictionary defined others : List Message) (count : ℕ) (records : List Call) → dictionary ≡ defined ++ others → count ≡ length defined → ids_used records ≤ length dictionary → MessagesGrow dictionary defined count records
messages_grow dictionary defined others count records whole counted known =
    let more = ids_used records - length defined in
    let new : new_messages dictionary count records ≡ take more others = (λ i. drop (counted i) (take (ids_used records) (whole i))) ∙ new_behind defined others (ids_used records) in
    let sizes = length-append defined (take more others) in
    let size : length (defined ++ new_messages dictionary count records) ≡ length (defined ++ take more others) = ap (λ (l : List Message). length (defined ++ l)) new in
    let all : ids_used records ≤ length defined + length others = omega (arith, known, ap length whole, length-append defined others) in
    let took = length-take more others in
    record {
      undefined = drop more others;
      whole =
          whole ∙ ap (λ (l : List Message). defined ++ l) (sym (take-append-drop more others)) ∙ sym (append_assoc defined (take more others) (drop more others))
          ∙ ap (λ (l : List Message). defined ++ l ++ drop more others) (sym new);
      used = omega (arith, size, sizes, took, all);
      counted = omega (arith, size, sizes, took, all, counted);
    }

-- ---- an extent with its fragments

-- blocks, and behind them fragments and an extent
abbrev with_extent : List Block → List Block → ℕ → List Call → List Block
with_extent blocks fragments writer records = blocks ++ fragments ++ Extent writer records ∷ []

messages_now : (blocks fragments : List Block) (first : ℕ) (messages : List Message) → AreFragments first messages fragments → messages_of (blocks ++ fragments) ≡ messages_of blocks ++ messages
messages_now blocks fragments first messages are =
    flat_map-append block_messages blocks fragments ∙ ap (λ (l : List Message). messages_of blocks ++ l) (messages_of-AreFragments first messages fragments are)

records_now : (writer : ℕ) (blocks fragments : List Block) (first : ℕ) (messages : List Message) → AreFragments first messages fragments → records_of writer (blocks ++ fragments) ≡ records_of writer blocks
records_now writer = given_before (block_records writer) (λ id front. refl)

clocks_now : (header : Header) (blocks fragments : List Block) (first : ℕ) (messages : List Message) → AreFragments first messages fragments → clocks_of header (blocks ++ fragments) ≡ clocks_of header blocks
clocks_now header blocks fragments first messages are = ap (λ (l : List Clock). header.clock ∷ l) (given_before block_clocks (λ id front. refl) blocks fragments first messages are)

calls_now : (blocks fragments : List Block) (first : ℕ) (messages : List Message) → AreFragments first messages fragments → all_records (blocks ++ fragments) ≡ all_records blocks
calls_now = given_before block_calls (λ id front. refl)

closed_now : (writer : ℕ) (blocks fragments : List Block) (first : ℕ) (messages : List Message) → AreFragments first messages fragments → list_any (closes writer) (blocks ++ fragments) ≡ list_any (closes writer) blocks
closed_now writer blocks fragments first messages are =
    list_any-append (closes writer) blocks fragments ∙ ap (λ (b : Bool). list_any (closes writer) blocks || b) (fragments_close_none writer first messages fragments are)
    ∙ or-false (list_any (closes writer) blocks)

same_taken : (wrote : List ℕ) (taken : List (List Call)) (dictionary : List Message) (version : ℕ) (clocks : List Clock) (batch writer : ℕ) → (log : LogOf wrote taken dictionary version clocks batch) → writer < length taken → get_or taken writer [] ≡ records_of writer log.blocks
same_taken wrote taken dictionary version clocks batch writer log known =
    ap (λ (l : List (List Call)). get_or l writer []) log.records_are ∙ get_or-map-range_with_len (λ w. records_of w log.blocks) 0 (length taken) writer writer [] known (omega arith)

-- the clocks that are due stand behind the blocks, and the others are still ahead
record Reaching (wrote : List ℕ) (clocks : List Clock) (header : Header) (blocks : List Block) (unwritten : List Clock) (latest stamp : ℕ) (due : List Clock) : Type 0 where
  rest : List Clock
  joined : unwritten ≡ due ++ rest
  behind_them : Behind header blocks due
  clocks_are : clocks ≡ clocks_of header (blocks ++ map NewClock due) ++ rest
  file : FileOf header (blocks ++ map NewClock due) (wrote ++ clocks_bytes due)
  valid : Valid header (blocks ++ map NewClock due)
  ahead : AllByRecursion (λ clock. max latest stamp < clock.tick) rest

reaching : (wrote : List ℕ) (clocks : List Clock) (header : Header) (blocks : List Block) (unwritten : List Clock) (latest stamp : ℕ) (due : List Clock) → MayHaveClocks header.version clocks → FileOf header blocks wrote → Valid header blocks → clocks ≡ clocks_of header blocks ++ unwritten
    → latest ≡ greatest_stamp (all_records blocks) → AllByRecursion (λ clock. latest < clock.tick) unwritten → due ≡ filter (λ clock. nat_le clock.tick stamp) unwritten
    → Reaching wrote clocks header blocks unwritten latest stamp due
reaching wrote clocks header blocks unwritten latest stamp due may file valid clocks_are latest_is unreached is =
    let rising : Rising (clocks_of header blocks ++ unwritten) = subst Rising clocks_are may.are.rising in
    let split = parted stamp unwritten (rising_back (clocks_of header blocks) unwritten rising) in
    let joined : unwritten ≡ due ++ split.rest = split.joined ∙ ap (λ (l : List Clock). l ++ split.rest) (sym is) in
    let whole : clocks ≡ clocks_of header blocks ++ (due ++ split.rest) = clocks_are ∙ ap (λ (l : List Clock). clocks_of header blocks ++ l) joined in
    let late = all_parts (λ (clock : Clock). latest < clock.tick) due split.rest (subst (AllByRecursion (λ (clock : Clock). latest < clock.tick)) joined unreached) in
    let ahead = all_two (λ (clock : Clock). latest < clock.tick) (λ (clock : Clock). stamp < clock.tick) (λ (clock : Clock). max latest stamp < clock.tick) split.rest (λ clock a b. omega (arith, a, b)) late.1 split.above in
    let stamps = stamps_within (all_records blocks) in
    let early : AllByRecursion (IsUnreached (all_records blocks)) due =
    all_as (λ (clock : Clock). latest < clock.tick) (IsUnreached (all_records blocks)) due
    (λ clock above. all_as (λ (call : Call). call.stamp ≤ greatest_stamp (all_records blocks)) (λ (call : Call). call.stamp < clock.tick) (all_records blocks) (λ call within. omega (arith, within, above, latest_is)) stamps)
    late.0 in
    let right = clocks_right header clocks due split.rest blocks may.are whole early in
    let fits = recursion_from_All FitsClock (clocks_of header blocks ++ (due ++ split.rest)) (subst (All FitsClock) whole may.fit) in
    let due_fit = (all_parts FitsClock due split.rest (all_parts FitsClock (clocks_of header blocks) (due ++ split.rest) fits).1).0 in
    let sizes = length-append (clocks_of header blocks) (due ++ split.rest) in
    let more_sizes = length-append due split.rest in
    let version_has : 1 ≤ length due → has_clocks header.version ≡ true =
    λ some. true_from_ne_false (has_clocks header.version) (λ none. omega (arith, some, may.alone none, ap length whole, sizes, more_sizes)) in
    let spelled = clocks_spelled header due blocks version_has due_fit in
    let all = behind header blocks due in
    record {
      rest = split.rest;
      joined = joined;
      behind_them = all;
      clocks_are = whole ∙ sym (append_assoc (clocks_of header blocks) due split.rest) ∙ ap (λ (l : List Clock). l ++ split.rest) (sym all.clocks_are);
      file = file_goes_on_with header blocks (map NewClock due) wrote (clocks_bytes due) file spelled;
      valid = record { header_right = valid.header_right; blocks_right = AreRightAfter-append header [] blocks (map NewClock due) valid.blocks_right right };
      ahead = ahead;
    }

pub grown : (wrote : List ℕ) (taken : List (List Call)) (dictionary : List Message) (header : Header) (batch : ℕ) (clocks : List Clock) (progress : LogProgress) (writer : ℕ) (records : List Call) (preface extent_bytes : List ℕ) → IsLogSoFar wrote taken dictionary header.version clocks batch progress → MayHaveClocks header.version clocks → AreDistinct dictionary → length dictionary ≤ 65536
    → IsNext taken dictionary header clocks batch progress writer records preface extent_bytes
    → IsLogSoFar (wrote ++ preface ++ extent_bytes) (with_calls taken writer records) dictionary header.version clocks batch (progress_behind progress clocks records)
grown wrote taken dictionary header batch clocks progress writer records preface extent_bytes so_far may distinct few next =
    let log = so_far.log in
    let own = log.header in
    let old = log.blocks in
    let due = new_clocks clocks progress.written records in
    let left : drop progress.written clocks ≡ log.unwritten = ap (drop progress.written) log.clocks_are ∙ drop_at (clocks_of own old) log.unwritten progress.written (sym so_far.written) in
    let due_is : due ≡ filter (λ (clock : Clock). nat_le clock.tick (greatest_stamp records)) log.unwritten = ap (filter (λ (clock : Clock). nat_le clock.tick (greatest_stamp records))) left in
    let may_own : MayHaveClocks own.version clocks = subst (λ (v : ℕ). MayHaveClocks v clocks) (sym log.version_is) may in
    let reach = reaching wrote clocks own old log.unwritten progress.latest (greatest_stamp records) due may_own log.file log.valid log.clocks_are so_far.latest so_far.unreached due_is in
    let marks = map NewClock due in
    let blocks = old ++ marks in
    let around = reach.behind_them in
    let fragments = next.preface_spelled.fragments in
    let front = next.preface_spelled.defining.blocks in
    let are = next.preface_spelled.defining.are in
    let first = progress.defined in
    let new = new_messages dictionary first records in
    let known = ids_known dictionary records next.right in
    let messages_are : dictionary ≡ messages_of blocks ++ log.undefined = log.messages_are ∙ ap (λ (l : List Message). l ++ log.undefined) (sym around.messages) in
    let defined : first ≡ length (messages_of blocks) = so_far.defined ∙ ap length (sym around.messages) in
    let grow = messages_grow dictionary (messages_of blocks) log.undefined first records messages_are defined known in
    let fronts : messages_of (blocks ++ front) ≡ messages_of blocks ++ new = messages_now blocks front first new are in
    let all_messages : messages_of (with_extent blocks front writer records) ≡ messages_of blocks ++ new =
    messages-push (blocks ++ front) (Extent writer records) ∙ append-nil (messages_of (blocks ++ front)) ∙ fronts in
    let first_clock : Some own.clock ≡ Some header.clock = ap (λ (l : List Clock). slice_get l 0) (sym log.clocks_are) ∙ next.first in
    let clock : own.clock ≡ header.clock = cc in
    let tick : own.clock.tick ≡ header.clock.tick = ap (λ (c : Clock). c.tick) clock in
    let all_clocks : clocks_of own (with_extent blocks front writer records) ≡ clocks_of own blocks =
    clocks-push own (blocks ++ front) (Extent writer records) ∙ append-nil (clocks_of own (blocks ++ front)) ∙ clocks_now own blocks front first new are in
    let all_calls : all_records (with_extent blocks front writer records) ≡ all_records old ++ records =
    all_records-push (blocks ++ front) (Extent writer records) ∙ ap (λ (l : List Call). l ++ records) (calls_now blocks front first new are ∙ around.calls) in
    let own_calls : (w : ℕ) → records_of w (blocks ++ front) ≡ records_of w old = λ w. records_now w blocks front first new are ∙ around.own w in
    let own_marks : (w : ℕ) → list_any (closes w) (blocks ++ front) ≡ list_any (closes w) old = λ w. closed_now w blocks front first new are ∙ around.marks w in
    let same_calls : get_or taken writer [] ≡ records_of writer (blocks ++ front) =
    same_taken wrote taken dictionary header.version clocks batch writer log next.known ∙ sym (own_calls writer) in
    let unclosed : ¬ (IsClosed writer (blocks ++ front)) =
    λ closed. true≢false (sym closed ∙ own_marks writer ∙ sym (so_far.closed writer next.known) ∙ next.not_closed) in
    let distinct_fronts : AreDistinct (messages_of blocks ++ new) = distinct_front (messages_of blocks ++ new) grow.undefined (subst AreDistinct {y = messages_of blocks ++ new ++ grow.undefined} grow.whole distinct) in
    let few_fronts : length (messages_of blocks ++ new) ≤ 65536 = omega (arith, few, ap length grow.whole, length-append (messages_of blocks ++ new) grow.undefined) in
    let front_valid : Valid own (blocks ++ front) = record {
      header_right = log.valid.header_right;
      blocks_right = AreRightAfter-append own [] blocks front reach.valid.blocks_right (fragments_right own first new front blocks are defined distinct_fronts few_fronts);
    } in
    let used : ids_used records ≤ length (messages_of (blocks ++ front)) = omega (arith, grow.used, ap length fronts) in
    let whole : dictionary ≡ messages_of (blocks ++ front) ++ grow.undefined = ◌∙◌ {b = messages_of blocks ++ new ++ grow.undefined} {c = messages_of (blocks ++ front) ++ grow.undefined} grow.whole (ap (λ (l : List Message). l ++ grow.undefined) (sym fronts)) in
    let right = calls_of_front (messages_of (blocks ++ front)) grow.undefined records used (subst (λ (l : List Message). AllByRecursion (IsCall l) records) {y = messages_of (blocks ++ front) ++ grow.undefined} whole next.right) in
    let rising : NeverFalls (last_stamp own.clock.tick (records_of writer (blocks ++ front))) records =
    subst (λ (n : ℕ). NeverFalls (last_stamp n (records_of writer (blocks ++ front))) records) (sym tick)
    (subst (λ (l : List Call). NeverFalls (last_stamp header.clock.tick l) records) same_calls (falls_behind header.clock.tick (get_or taken writer []) records next.rising)) in
    let e = next.extent_spelled in
    let body_spelled : SpellsRecords (messages_of (blocks ++ front)) own.clock.tick records e.body =
    spelled_with_front (messages_of (blocks ++ front)) grow.undefined own.clock.tick records e.body used
    (subst (λ (n : ℕ). SpellsRecords (messages_of (blocks ++ front) ++ grow.undefined) n records e.body) (sym tick)
    (subst (λ (l : List Message). SpellsRecords l header.clock.tick records e.body) {y = messages_of (blocks ++ front) ++ grow.undefined} whole e.body_spelled)) in
    let (short, writer_fits, joined) =
    subst (λ (v : ℕ). (length e.body ≤ most_body v) × (writer < 256 ^ writer_len v) × (extent_bytes ≡ extent_head_bytes v writer (length e.body) ++ e.body)) (sym log.version_is) (e.short, e.writer_fits, e.joined) in
    let extent_spelled : SpellsExtent (messages_of (blocks ++ front)) own writer records extent_bytes =
    record { body = e.body; some = e.some; short = short; writer_fits = writer_fits; body_spelled = body_spelled; joined = joined } in
    let length_now : length (with_calls taken writer records) ≡ length taken = length-set taken writer (get_or taken writer [] ++ records) in
    let records_all : (w : ℕ) → records_of w (with_extent blocks front writer records) ≡ records_of w old ++ at_one writer records w =
    λ w. records-push w (blocks ++ front) (Extent writer records) ∙ ap (λ (l : List Call). l ++ at_one writer records w) (own_calls w) in
    let records_are : with_calls taken writer records ≡ map (λ w. records_of w (with_extent blocks front writer records)) (range_with_len 0 (length (with_calls taken writer records))) =
    ap (λ (l : List (List Call)). slice_set l writer (get_or l writer [] ++ records)) log.records_are
    ∙ more_at_one (λ w. records_of w old) writer records 0 (length taken) writer next.known (omega arith)
    ∙ (λ i. map (λ w. sym (records_all w) i) (range_with_len 0 (length taken)))
    ∙ ap (λ (n : ℕ). map (λ w. records_of w (with_extent blocks front writer records)) (range_with_len 0 n)) (sym length_now) in
    let written : progress.written ≡ 1 + length (clocks_in old) = omega (arith, so_far.written) in
    let stands : StandsInFront clocks dictionary old records (marks ++ front) = record {
      fragments = front;
      are = subst (λ (n : ℕ). AreFragments n (new_messages dictionary n records) front) so_far.defined are;
      joined = ap (λ (n : ℕ). map NewClock (new_clocks clocks n records) ++ front) written;
    } in
    let block : Block = Extent writer records in
    let laid : IsLaidOut clocks dictionary batch old ((marks ++ front) ++ block ∷ []) =
    extent old (marks ++ front) writer records [] stands next.few (ends (old ++ (marks ++ front) ++ block ∷ [])) in
    let place : with_extent blocks front writer records ≡ old ++ ((marks ++ front) ++ block ∷ []) =
    append_assoc (old ++ marks) front (block ∷ []) ∙ append_assoc old marks (front ++ block ∷ []) ∙ ap (λ (b : List Block). old ++ b) (sym (append_assoc marks front (block ∷ []))) in
    let laid_out : IsLaidOut clocks dictionary batch [] (with_extent blocks front writer records) =
    subst (IsLaidOut clocks dictionary batch []) (sym place) (laid_out_join clocks dictionary batch [] old ((marks ++ front) ++ block ∷ []) log.laid_out laid) in
    let bytes_are : (wrote ++ clocks_bytes due) ++ fragments ≡ wrote ++ preface =
    append_assoc wrote (clocks_bytes due) fragments ∙ ap (λ (l : List ℕ). wrote ++ l) (sym next.preface_spelled.joined) in
    let front_file : FileOf own (blocks ++ front) (wrote ++ preface) =
    subst (FileOf own (blocks ++ front)) bytes_are (file_goes_on_with own blocks front (wrote ++ clocks_bytes due) fragments reach.file (next.preface_spelled.defining.spelled own blocks)) in
    record {
      log = record {
        header = own;
        blocks = with_extent blocks front writer records;
        file = file_goes_on own (blocks ++ front) (Extent writer records) (wrote ++ preface) extent_bytes front_file extent_spelled;
        valid = goes_on own (blocks ++ front) (Extent writer records) front_valid (record { writer_open = record { known = subst (λ (n : ℕ). writer < n) (sym log.writers_are) next.known; unclosed = unclosed }; right = right; rising = rising });
        version_is = log.version_is;
        unwritten = reach.rest;
        clocks_are = reach.clocks_are ∙ ap (λ (l : List Clock). l ++ reach.rest) (sym all_clocks);
        writers_are = log.writers_are ∙ sym length_now;
        undefined = grow.undefined;
        messages_are = ◌∙◌ {b = messages_of blocks ++ new ++ grow.undefined} grow.whole (ap (λ (l : List Message). l ++ grow.undefined) (sym all_messages));
        records_are = records_are;
        laid_out = laid_out;
      };
      defined = grow.counted ∙ ap length (sym all_messages);
      closed = λ w within.
          so_far.closed w (subst (λ (n : ℕ). w < n) length_now within) ∙ sym (own_marks w)
          ∙ sym (list_any-append (closes w) (blocks ++ front) (Extent writer records ∷ []) ∙ or-false (list_any (closes w) (blocks ++ front)));
      written = omega (arith, so_far.written, ap length all_clocks, ap length around.clocks_are, length-append (clocks_of own old) due);
      latest = omega (arith, so_far.latest, ap greatest_stamp all_calls, greatest_append (all_records old) records);
      unreached = reach.ahead;
    }

-- ---- a close mark

closed_behind : (closed : List Bool) (blocks : List Block) (writer w : ℕ) → writer < length closed → get_or closed w false ≡ list_any (closes w) blocks → get_or (slice_set closed writer true) w false ≡ list_any (closes w) (blocks ++ Close writer ∷ [])
closed_behind closed blocks writer w within before =
    elim (eqb_tells writer w) [
      | inl same ↦
          let here : get_or (slice_set closed writer true) w false ≡ true = ap (λ (n : ℕ). get_or (slice_set closed writer true) n false) (sym same.1) ∙ get_or-set_same closed writer true false within in
          here ∙ sym (list_any-append (closes w) blocks (Close writer ∷ []) ∙ ap (λ (b : Bool). list_any (closes w) blocks || (b || false)) same.0 ∙ or-true (list_any (closes w) blocks))
      | inr differs ↦
          get_or-set_other closed writer w true false (λ same. differs.1 (sym same)) ∙ before
          ∙ sym (list_any-append (closes w) blocks (Close writer ∷ []) ∙ ap (λ (b : Bool). list_any (closes w) blocks || (b || false)) differs.0 ∙ or-false (list_any (closes w) blocks))
    ]

pub closing : (wrote : List ℕ) (taken : List (List Call)) (dictionary : List Message) (version : ℕ) (clocks : List Clock) (batch : ℕ) (progress : LogProgress) (writer : ℕ) → IsLogSoFar wrote taken dictionary version clocks batch progress → writer < length taken → get_or progress.closed writer false ≡ false → writer < length progress.closed → IsLogSoFar (wrote ++ close_bytes version writer) taken dictionary version clocks batch (progress_closing progress writer)
closing wrote taken dictionary version clocks batch progress writer so_far known not_closed within =
    let log = so_far.log in
    let header = log.header in
    let blocks = log.blocks in
    let few = log.valid.header_right.few_writers in
    let messages : messages_of (blocks ++ Close writer ∷ []) ≡ messages_of blocks = messages-push blocks (Close writer) ∙ append-nil (messages_of blocks) in
    let all_clocks : clocks_of header (blocks ++ Close writer ∷ []) ≡ clocks_of header blocks = clocks-push header blocks (Close writer) ∙ append-nil (clocks_of header blocks) in
    let all_calls : all_records (blocks ++ Close writer ∷ []) ≡ all_records blocks = all_records-push blocks (Close writer) ∙ append-nil (all_records blocks) in
    let records : (w : ℕ) → records_of w (blocks ++ Close writer ∷ []) ≡ records_of w blocks = λ w. records-push w blocks (Close writer) ∙ append-nil (records_of w blocks) in
    let unclosed : ¬ (IsClosed writer blocks) = λ closed. true≢false (sym closed ∙ sym (so_far.closed writer known) ∙ not_closed) in
    let fits : writer < 256 ^ writer_len header.version = omega (arith, known, log.writers_are, few, writers_fit header.version) in
    let spelled : SpellsClose header writer (close_bytes version writer) = record { writer_fits = fits; joined = ap (λ (v : ℕ). close_bytes v writer) (sym log.version_is) } in
    record {
      log = record {
        header = header;
        blocks = blocks ++ Close writer ∷ [];
        file = file_goes_on header blocks (Close writer) wrote (close_bytes version writer) log.file spelled;
        valid = goes_on header blocks (Close writer) log.valid (record { known = subst (λ (n : ℕ). writer < n) (sym log.writers_are) known; unclosed = unclosed });
        version_is = log.version_is;
        unwritten = log.unwritten;
        clocks_are = log.clocks_are ∙ ap (λ (l : List Clock). l ++ log.unwritten) (sym all_clocks);
        writers_are = log.writers_are;
        undefined = log.undefined;
        messages_are = log.messages_are ∙ ap (λ (l : List Message). l ++ log.undefined) (sym messages);
        records_are = log.records_are ∙ (λ i. map (λ w. sym (records w) i) (range_with_len 0 (length taken)));
        laid_out = laid_out_join clocks dictionary batch [] blocks (Close writer ∷ []) log.laid_out (close blocks writer [] (ends (blocks ++ Close writer ∷ [])));
      };
      defined = so_far.defined ∙ ap length (sym messages);
      closed = λ w inside. closed_behind progress.closed blocks writer w within (so_far.closed w inside);
      written = so_far.written ∙ ap length (sym all_clocks);
      latest = so_far.latest ∙ ap greatest_stamp (sym all_calls);
      unreached = so_far.unreached;
    }

-- ---- a header

pub beginning : (header : Header) (dictionary : List Message) (clocks : List Clock) (batch : ℕ) (closed : List Bool) → IsHeader header → MayHaveClocks header.version clocks → slice_get clocks 0 ≡ Some header.clock → ((writer : ℕ) → get_or closed writer false ≡ false)
    → IsLogSoFar (header_bytes header) (replicate header.writers []) dictionary header.version clocks batch (record { defined = 0; closed = closed; written = 1; latest = 0 })
beginning header dictionary [] batch closed right may first none_closed = absurd cc
beginning header dictionary (clock ∷ clocks) batch closed right may first none_closed =
    let none : List (List Call) = replicate header.writers [] in
    let count : length none ≡ header.writers = length-replicate header.writers [] in
    let no_records : (w : ℕ) → records_of w [] ≡ [] = λ w. refl in
    let same : clock ≡ header.clock = cc in
    record {
      log = record {
        header = header;
        blocks = [];
        file = empty_file header;
        valid = record { header_right = right; blocks_right = tt };
        version_is = refl;
        unwritten = clocks;
        clocks_are = ap (λ (c : Clock). c ∷ clocks) same;
        writers_are = sym count;
        undefined = dictionary;
        messages_are = refl;
        records_are = sym (ap (λ (n : ℕ). map (λ w. records_of w []) (range_with_len 0 n)) count ∙ none_each (λ w. records_of w []) header.writers 0 no_records);
        laid_out = ends [];
      };
      defined = refl;
      closed = λ writer within. none_closed writer;
      written = refl;
      latest = refl;
      unreached = all_as (λ (c : Clock). clock.tick < c.tick) (λ (c : Clock). 0 < c.tick) clocks (λ c above. omega (arith, above)) (first_below clock clocks may.are.rising);
    }

-- ---- a later clock

pub later_log : (bytes : List ℕ) (taken : List (List Call)) (dictionary : List Message) (version : ℕ) (clocks : List Clock) (batch : ℕ) (clock : Clock) (log : LogOf bytes taken dictionary version clocks batch) → greatest_stamp (all_records log.blocks) < clock.tick
    → (new : LogOf bytes taken dictionary version (clocks ++ clock ∷ []) batch) × (new.header ≡ log.header) × (new.blocks ≡ log.blocks) × (new.unwritten ≡ log.unwritten ++ clock ∷ [])
later_log bytes taken dictionary version clocks batch clock log above =
    let within : 1 + length (clocks_in log.blocks) ≤ length clocks = omega (arith, ap length log.clocks_are, length-append (clocks_of log.header log.blocks) log.unwritten) in
    let new : LogOf bytes taken dictionary version (clocks ++ clock ∷ []) batch = record {
      header = log.header;
      blocks = log.blocks;
      file = log.file;
      valid = log.valid;
      version_is = log.version_is;
      unwritten = log.unwritten ++ clock ∷ [];
      clocks_are = ap (λ (l : List Clock). l ++ clock ∷ []) log.clocks_are ∙ append_assoc (clocks_of log.header log.blocks) log.unwritten (clock ∷ []);
      writers_are = log.writers_are;
      undefined = log.undefined;
      messages_are = log.messages_are;
      records_are = log.records_are;
      laid_out = later_laid clocks clock dictionary batch [] log.blocks log.laid_out within above;
    } in
    (new, refl, refl, refl)

pub later_clock : (wrote : List ℕ) (taken : List (List Call)) (dictionary : List Message) (version : ℕ) (clocks : List Clock) (batch : ℕ) (progress : LogProgress) (clock : Clock) → IsLogSoFar wrote taken dictionary version clocks batch progress → progress.latest < clock.tick → IsLogSoFar wrote taken dictionary version (clocks ++ clock ∷ []) batch progress
unfolding later_log
later_clock wrote taken dictionary version clocks batch progress clock so_far above =
    let log = so_far.log in
    let later = later_log wrote taken dictionary version clocks batch clock log (omega (arith, above, so_far.latest)) in
    record {
      log = later.0;
      defined = so_far.defined;
      closed = so_far.closed;
      written = so_far.written;
      latest = so_far.latest;
      unreached = all_both (λ (c : Clock). progress.latest < c.tick) log.unwritten (clock ∷ []) so_far.unreached (above, tt);
    }

-- ---- the greatest stamp

pub latest_told : (wrote : List ℕ) (taken : List (List Call)) (dictionary : List Message) (version : ℕ) (clocks : List Clock) (batch : ℕ) (progress : LogProgress) (tick : ℕ) → IsLogSoFar wrote taken dictionary version clocks batch progress → 1 ≤ tick
    → (progress.latest < tick) ↔ ((writer : ℕ) → writer < length taken → AllByRecursion (λ call. call.stamp < tick) (get_or taken writer []))
latest_told wrote taken dictionary version clocks batch progress tick so_far some =
    let log = so_far.log in
    let own : (w : ℕ) → w < length taken → get_or taken w [] ≡ records_of w log.blocks = λ w known. same_taken wrote taken dictionary version clocks batch w log known in
    let early = λ (call : Call). call.stamp < tick in
    let there : progress.latest < tick → (w : ℕ) → w < length taken → AllByRecursion early (get_or taken w []) =
    λ less w known.
    subst (AllByRecursion early) (sym (own w known))
    (all_own early w log.blocks (all_as (λ (call : Call). call.stamp ≤ greatest_stamp (all_records log.blocks)) early (all_records log.blocks) (λ call within. omega (arith, within, less, so_far.latest)) (stamps_within (all_records log.blocks)))) in
    let back : ((w : ℕ) → w < length taken → AllByRecursion early (get_or taken w [])) → progress.latest < tick =
    λ each.
    let all = all_of_each early log.header [] log.blocks log.valid.blocks_right
    (λ w known. let inside : w < length taken = omega (arith, known, log.writers_are) in subst (AllByRecursion early) (own w inside) (each w inside)) in
    let least = stamp_least (all_records log.blocks) (tick - 1) (all_as early (λ (call : Call). call.stamp ≤ tick - 1) (all_records log.blocks) (λ call less. omega (arith, less, some)) all) in
    omega (arith, least, some, so_far.latest) in
    (there, back)
