-- The text of records that are printed one after the other.
use Rattle.std.proofs.Common.{◌≡◌, ℕ, ◌+◌, ◌<◌, ◌≤◌, Bool, true, false, Some, List, [], ◌∷◌, ◌++◌, length, Result, Ok, Err, refl, ap, sym, subst, ◌∙◌, append_assoc, arith}
use Rattle.std.specs.Prelude.{slice_get, slice_set, get_or, position, All}
use Rattle.std.specs.List.{AllByRecursion}
use Rattle.std.specs.Result.{IsErrAnd}
use Rattle.std.proofs.lemmas.List.{append-nil, length-append, get_or_default}
use Rattle.std.proofs.lemmas.List.Sorted.{length_permutation}
use Rattle.std.proofs.lemmas.Grind.{flat_map-append}
use Rattle.nl_io.specs.Content.{Told, with_end}
use Rattle.nl_io.specs.TextWriters.{Carries, IsCutOff}
use Rattle.nl_io.proofs.lemmas.TextWriters.{carries_more, carries_all, carries_front, cut_more, cut_held}
use Rattle.log_dictionary.specs.declared.clock.Clock.{Clock}
use Rattle.log_dictionary.specs.declared.message.Message.{Message}
use Rattle.log_dictionary.specs.Calls.{LogCall}
use Rattle.arg_records.specs.declared.call.Call.{Call}
use Rattle.checkpoint_io.specs.declared.header.Header.{Header}
use Rattle.checkpoint_io.specs.Blocks.{Block, messages_of, clocks_of}
use Rattle.checkpoint_io.specs.Validity.{Valid}
use Rattle.checkpoint_io.specs.Readers.{ReaderState}
use Rattle.stamp_merge.specs.declared.merger.ListState.{ListState}
use Rattle.stamp_merge.specs.declared.merger.Next.{Next}
use Rattle.stamp_merge.specs.declared.merger.Next.TheVariants.{Take, Want, Done}
use Rattle.stamp_merge.specs.Merging.{merge_order}
use Rattle.stamp_merge.specs.Mergers.{list_at, wants, NoneWants, IsSpent, heads_of, without_head}
use Rattle.direct_printf.specs.Lines.{in_order, Line}
use Rattle.direct_printf.proofs.lemmas.Sorting.{in_order-permutation}
use Rattle.decompressor.specs.declared.fault.DecodeFault.{DecodeFault}
use Rattle.decompressor.specs.declared.fault.DecodeFault.TheVariants.{WriteFault, NoMemory}
use Rattle.decompressor.specs.Decompression.{all_calls}
use Rattle.decompressor.specs.Settling.{closed_by, settled_calls, settled_text}
use Rattle.decompressor.specs.Waiting.{QueueState, HoldsFirst, HoldsRecords, list_of, no_queue, queue_at, AreHeld}
use Rattle.decompressor.specs.Decompressors.{AreWaiting, no_more_come, ready_calls, ready_text, HasToPrint, HasMore, CutsMore, PrintsReady}
use Rattle.decompressor.specs.Printing.{CutsText}
use Rattle.decompressor.proofs.RecordCalls.{IsCallOf, line_is}
use Rattle.decompressor.proofs.Queued.{held_set}
use Rattle.decompressor.proofs.Tests.{either_false}
use Rattle.decompressor.proofs.Rising.{all_as}
use Rattle.decompressor.proofs.WriterLists.{IsOf}
use Rattle.decompressor.proofs.Settled.{IsReached}
use Rattle.decompressor.proofs.Printed.{HasCalls, IsPrinted, rest_mine, settled_later, settled_go_on, later, goes_on, settled_printed}
use Rattle.decompressor.proofs.Calls.{has_calls}
use Rattle.decompressor.proofs.Growing.{printed_on, front_valid, in_turn, text_is, lines_go_on, settled_lines}
use Rattle.decompressor.proofs.Turns.{IsAt, calls_there, Takes, takes, taken, wishes, more_is, all_ready}

many : (calls : List LogCall) → length (in_order calls) ≡ length calls
many calls = sym (length_permutation (in_order calls) calls (in_order-permutation calls))

module _ (header : Header) (all : List Block) where
  -- where more is known to have ended, what is reached stays so
  ended_more : (closed other : ℕ → Bool) (printed : List LogCall) → ((w : ℕ) → other w ≡ false → closed w ≡ false) → IsPrinted header all closed printed → IsPrinted header all other printed
  ended_more closed other printed fewer is = record {
    rest = is.rest;
    whole = is.whole;
    rises = is.rises;
    reached = all_as (IsReached header all closed) (IsReached header all other) printed (λ call reached w known is_open. reached w known (fewer w is_open)) is.reached;
  }

-- the calls that can be printed, in order, begin with what was
ready_go_on : (ended : Bool) (header : Header) (all : List Block) (printed : List LogCall) → HasCalls header all → IsPrinted header all (no_more_come ended all) printed → (more : List LogCall) × (in_order (ready_calls ended header all) ≡ printed ++ more)
ready_go_on true header all printed has is = (later has is, goes_on has is)
ready_go_on false header all printed has is = (settled_later has is refl, settled_go_on has is refl)

-- Some of the records were printed, and their lines are on their way.
pub record HasLines (ended : Bool) (reader : ReaderState) (first all : List Block) (valid : Valid reader.header all) (lines : ℕ) (was is : Told) (held : List ℕ) (waiting : List QueueState) (lists : List ListState) : Type 0 where
  pub printed : List LogCall
  pub records : List (List Call)
  pub at : IsAt valid (no_more_come ended all) printed records lists
  pub queues : AreHeld reader.messages reader.header.clock.tick waiting records
  pub text : List ℕ
  pub joined : in_turn reader.header all printed ≡ settled_text reader.header first ++ text
  pub carries : Carries text was is held
  pub many : length (settled_calls reader.header first) + lines ≡ length printed

module _ {ended : Bool} {reader : ReaderState} {first all : List Block} {waiting : List QueueState} {lists : List ListState} (ready : HasToPrint ended reader first all waiting lists) where
  abbrev pub header : Header
  header = reader.header

  begun : IsPrinted header all (no_more_come ended all) (in_order (settled_calls header first))
  begun =
      let valid : Valid header (first ++ ready.more) = subst (Valid header) ready.joined ready.valid in
      let settled = settled_printed (has_calls (front_valid header first ready.more valid)) in
      ended_more header all (closed_by all) (no_more_come ended all) (in_order (settled_calls header first)) (λ w is_open. (either_false ended (closed_by all w) is_open).1)
      (subst (λ (blocks : List Block). IsPrinted header blocks (closed_by blocks) (in_order (settled_calls header first))) (sym ready.joined) (printed_on header first ready.more (in_order (settled_calls header first)) valid settled))

  -- the blocks that were read since then change no line of what was settled
  first_lines : in_turn header all (in_order (settled_calls header first)) ≡ in_turn header first (in_order (settled_calls header first))
  first_lines =
      ap (λ (blocks : List Block). in_turn header blocks (in_order (settled_calls header first))) ready.joined
      ∙ settled_lines header first ready.more (subst (Valid header) ready.joined ready.valid)

  pub begin_lines : {was : Told} {held : List ℕ} → Carries [] was was held → HasLines ended reader first all ready.valid 0 was was held waiting lists
  begin_lines carries = record {
    printed = in_order (settled_calls header first);
    records = ready.records;
    at = record { is = begun; are_waiting = ready.are_waiting; heads = ready.shown.heads };
    queues = ready.shown.held;
    text = [];
    joined = first_lines ∙ sym (text_is header first (settled_calls header first)) ∙ sym (append-nil (settled_text header first));
    carries = carries;
    many = omega (arith, many (settled_calls header first));
  }

  -- what stands behind the lines so far
  pub lines_behind : (printed : List LogCall) (text : List ℕ) → IsPrinted header all (no_more_come ended all) printed → in_turn header all printed ≡ settled_text header first ++ text
      → (rest : List ℕ) × (ready_text ended header all ≡ settled_text header first ++ (text ++ rest))
  lines_behind printed text is joined =
      let more = ready_go_on ended header all printed (has_calls ready.valid) is in
      let rest = in_turn header all more.0 in (
        rest,
        lines_go_on header all (ready_calls ended header all) printed more.0 more.1
            ∙ ap (λ (bytes : List ℕ). bytes ++ rest) joined
            ∙ append_assoc (settled_text header first) text rest,
      )

  -- no more calls are printed than there are
  pub few_lines : (printed : List LogCall) (lines : ℕ) → IsPrinted header all (no_more_come ended all) printed → length (settled_calls header first) + lines ≡ length printed → lines ≤ 134217728
  few_lines printed lines is counted =
      let has = has_calls ready.valid in
      omega (
        arith,
        counted,
        ready.few,
        many (all_calls header all),
        ap length (goes_on has is),
        length-append printed (later has is),
      )

  -- the printing was cut off
  pub cut_lines : (printed : List LogCall) (text : List ℕ) (was is : Told) (before after : ℕ) (fault : DecodeFault) (answer : Result ℕ DecodeFault) (changed : List QueueState) (new : List ListState)
      → IsErrAnd answer (λ e. e ≡ fault) → IsPrinted header all (no_more_come ended all) printed → in_turn header all printed ≡ settled_text header first ++ text
      → ((whole rest : List ℕ) → whole ≡ text ++ rest → CutsText whole was is before after fault) → PrintsReady ended reader first all was is before after changed new answer
  cut_lines printed text was is before after fault (Ok lines) changed new same is_printed joined cut = absurd same
  cut_lines printed text was is before after fault (Err e) changed new same is_printed joined cut =
      let behind = lines_behind printed text is_printed joined in
      subst (CutsMore ended header first all was is before after) (sym same) (record { rest = text ++ behind.0; joined = behind.1; cut = cut (text ++ behind.0) behind.0 refl })

  -- all that can be printed was
  pub all_lines : (printed : List LogCall) (text : List ℕ) (lines : ℕ) (was is : Told) (changed : List QueueState) (new : List ListState) (records : List (List Call)) → (at : IsAt ready.valid (no_more_come ended all) printed records new) → AreHeld reader.messages header.clock.tick changed records → in_turn header all printed ≡ settled_text header first ++ text
      → length (settled_calls header first) + lines ≡ length printed → printed ≡ in_order (ready_calls ended header all) → is ≡ with_end text was → HasMore ended reader first all lines was is changed new
  all_lines printed text lines was is changed new records at queues joined counted printed_are put = record {
    text = text;
    put = put;
    joined = text_is header all (ready_calls ended header all) ∙ ap (in_turn header all) (sym printed_are) ∙ joined;
    lines_are = counted ∙ ap length printed_are ∙ many (ready_calls ended header all);
    records = records;
    are_waiting = subst (λ (calls : List LogCall). AreWaiting header all calls records) printed_are at.are_waiting;
    shown = record { held = queues; heads = at.heads };
  }

  -- ---- a turn

  module _ {lines : ℕ} {was is : Told} {held : List ℕ} {now : List QueueState} {heads : List ListState} (so_far : HasLines ended reader first all ready.valid lines was is held now heads) {writer : ℕ}
      (top : NoneWants heads × (slice_get (merge_order (heads_of heads)) 0 ≡ Some writer)) where
    abbrev pub turn : Takes ready.valid so_far.at writer
    turn = takes ready.valid so_far.at writer top.0 top.1

    abbrev pub call : LogCall
    call = turn.first.call

    abbrev clocks : List Clock
    clocks = clocks_of header all

    among : writer < length so_far.records
    among = omega (arith, turn.known, so_far.at.are_waiting.count)

    pub within : writer < length now
    within = omega (arith, among, so_far.queues.many)

    -- the calls that are printed behind the turn
    abbrev pub longer : List LogCall
    longer = so_far.printed ++ call ∷ []

    abbrev after_turn : (changed : List (List Call)) (new : List ListState) → changed ≡ slice_set so_far.records writer turn.records → new ≡ slice_set (without_head heads writer) writer (list_of (no_more_come ended all writer) turn.records) → IsAt ready.valid (no_more_come ended all) longer changed new
    after_turn = taken ready.valid so_far.at writer top.0 top.1 turn

    pub longer_is : IsPrinted header all (no_more_come ended all) longer
    longer_is = (after_turn (slice_set so_far.records writer turn.records) (slice_set (without_head heads writer) writer (list_of (no_more_come ended all writer) turn.records)) refl refl).is

    -- the writer's queue, where an index is read with some default
    pub holds : (default : QueueState) → HoldsFirst reader.messages header.clock.tick (get_or now writer default) turn.logged turn.records
    holds default =
        subst (λ (queue : QueueState). HoldsFirst reader.messages header.clock.tick queue turn.logged turn.records) (sym (get_or_default now writer default no_queue within))
        (subst (HoldsRecords reader.messages header.clock.tick (queue_at now writer)) turn.there (so_far.queues.each writer among))

    pub said : IsCallOf reader.messages header.clock.tick call turn.logged
    said =
        subst (λ (messages : List Message). IsCallOf messages header.clock.tick call turn.logged) (sym ready.known)
        (more_is (messages_of all) header.clock.tick ready.others call turn.logged turn.first.is)

    -- the line of the record is that of the call
    pub line_said : {line : List ℕ} → ((message : Message) (ordinal : ℕ) → slice_get reader.messages turn.logged.id ≡ Some message → line ≡ Line reader.times.clocks (record { writer = writer; ordinal = ordinal; stamp = turn.logged.stamp; message = message; args = turn.logged.args }))
        → line ≡ Line clocks call
    line_said made =
        made call.message call.ordinal said.message
        ∙ ap (λ (l : List Clock). Line l (record { writer = writer; ordinal = call.ordinal; stamp = turn.logged.stamp; message = call.message; args = turn.logged.args })) ready.clocks
        ∙ line_is clocks said (subst (AllByRecursion (IsOf writer)) turn.first.there (rest_mine (calls_there ready.valid) so_far.at.is writer)).0

    -- the line stands behind those so far
    module _ {line : List ℕ} (line_of : line ≡ Line clocks call) where
      abbrev text_next : List ℕ
      text_next = so_far.text ++ Line clocks call

      joined_next : in_turn header all longer ≡ settled_text header first ++ text_next
      joined_next =
          flat_map-append (Line clocks) so_far.printed (call ∷ [])
          ∙ (λ i. so_far.joined i ++ append-nil (Line clocks call) i)
          ∙ append_assoc (settled_text header first) so_far.text (Line clocks call)

      pub next_lines : {put : Told} {left : List ℕ} (queue : QueueState) {new : List ListState} → Carries (held ++ line) is put left → HoldsRecords reader.messages header.clock.tick queue turn.records
          → new ≡ slice_set (without_head heads writer) writer (list_of (no_more_come ended all writer) turn.records) → HasLines ended reader first all ready.valid (lines + 1) was put left (slice_set now writer queue) new
      next_lines {put} {left} queue {new} carried rest new_is = record {
        printed = longer;
        records = slice_set so_far.records writer turn.records;
        at = after_turn (slice_set so_far.records writer turn.records) new refl new_is;
        queues = held_set reader.messages header.clock.tick so_far.queues writer queue turn.records among rest;
        text = text_next;
        joined = joined_next;
        carries = carries_more text_next so_far.text (Line clocks call) held left was is put refl so_far.carries (subst (λ (bytes : List ℕ). Carries (held ++ bytes) is put left) line_of carried);
        many = omega (arith, so_far.many, length-append so_far.printed (call ∷ []));
      }

      -- the text was cut off with the line
      pub line_cut : (low mid high : ℕ) (put : Told) (answer : Result ℕ DecodeFault) (changed : List QueueState) (new : List ListState) → IsErrAnd answer (λ e. e ≡ WriteFault) → mid ≡ low → IsCutOff (held ++ line) is put mid high
          → PrintsReady ended reader first all was put low high changed new answer
      line_cut low mid high put answer changed new same counted cut =
          cut_lines longer text_next was put low high WriteFault answer changed new same longer_is joined_next
          (λ whole rest whole_is. cut_more whole so_far.text (Line clocks call) rest held was is put low mid high whole_is so_far.carries counted (subst (λ (bytes : List ℕ). IsCutOff (held ++ bytes) is put mid high) line_of cut))

    -- the list from which the head was taken wants one
    pub wished : {new : List ListState} → new ≡ without_head heads writer → wants (list_at new writer) ≡ true
    wished new_is = ap (λ (lists : List ListState). wants (list_at lists writer)) new_is ∙ wishes ready.valid so_far.at writer top.0 top.1 turn

    -- there is a place for one line more
    pub few_next : lines + 1 ≤ 134217728
    few_next = few_lines longer (lines + 1) longer_is (omega (arith, so_far.many, length-append so_far.printed (call ∷ [])))

  -- memory was wanting for a line, or what is held back was cut off
  module _ {lines : ℕ} {was is : Told} {held : List ℕ} {now : List QueueState} {heads : List ListState} (so_far : HasLines ended reader first all ready.valid lines was is held now heads) where
    pub lacked : (low high : ℕ) (answer : Result ℕ DecodeFault) (changed : List QueueState) (new : List ListState) → IsErrAnd answer (λ e. e ≡ NoMemory) → high ≡ low → PrintsReady ended reader first all was is low high changed new answer
    lacked low high answer changed new same counted =
        cut_lines so_far.printed so_far.text was is low high NoMemory answer changed new same so_far.at.is so_far.joined
        (λ whole rest whole_is. (carries_front whole so_far.text rest held was is whole_is so_far.carries, counted))

    pub held_cut : (low mid high : ℕ) (put : Told) (answer : Result ℕ DecodeFault) (changed : List QueueState) (new : List ListState) → IsErrAnd answer (λ e. e ≡ WriteFault) → mid ≡ low → IsCutOff held is put mid high → PrintsReady ended reader first all was put low high changed new answer
    held_cut low mid high put answer changed new same counted cut =
        cut_lines so_far.printed so_far.text was put low high WriteFault answer changed new same so_far.at.is so_far.joined
        (λ whole rest whole_is. cut_held whole so_far.text rest held was is put low mid high whole_is so_far.carries counted cut)

    -- where the merger takes no record what is held back ends all that can be printed
    pub all_out : {put : Told} (answer : Next) → ((w : ℕ) → ¬ (answer ≡ Take w)) → ((w : ℕ) → answer ≡ Want w → position wants heads ≡ Some w) → (answer ≡ Done → All IsSpent heads) → put ≡ with_end held is → HasMore ended reader first all lines was put now heads
    all_out {put} answer none want done flushed =
        all_lines so_far.printed so_far.text lines was put now heads so_far.records so_far.at so_far.queues so_far.joined so_far.many
        (all_ready ready.valid ended so_far.at answer none want done) (carries_all so_far.text held was is put so_far.carries flushed)
