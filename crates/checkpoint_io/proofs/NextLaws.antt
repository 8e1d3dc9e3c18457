-- Blocks that are read from a source.
use Rattle.std.proofs.Common.{◌≡◌, ℕ, zero, suc, ◌-◌, ◌<◌, ◌≤◌, ◌^◌, Bool, List, [], ◌∷◌, ◌++◌, length, take, drop, Some, None, Result, Ok, Err, true, refl, sym, ap, subst, ◌∙◌, append_assoc, eq-eqb, arith}
use Rattle.std.specs.Prelude.{IfSome, MatchResult, not, if◌then◌else◌}
use Rattle.std.proofs.lemmas.Bool.{le-leb}
use Rattle.std.proofs.lemmas.List.{length-append, length-take-le, take-append-drop, append-nil, append_cancel_right}
use Rattle.std.proofs.lemmas.List.Elements.{All-nil, All-take}
use Rattle.nibble_pack.specs.Bytes.{AreBytes}
use Rattle.nibble_pack.specs.Parsing.{◌>>=◌, provided, caused_by, first_byte, low_first}
use Rattle.nibble_pack.proofs.lemmas.Parsing.{so_many_again}
use Rattle.nl_io.specs.Content.{Told, IsAtEnd}
use Rattle.log_dictionary.specs.declared.clock.Clock.{Clock}
use Rattle.log_dictionary.specs.declared.message.Message.{Message}
use Rattle.log_dictionary.specs.Clocks.{last_tick}
use Rattle.log_dictionary.specs.declared.binary_entry.EntryCause.TheVariants as entries
use Rattle.log_dictionary.specs.Messages.{HasMessage}
use Rattle.log_dictionary.specs.EntryReading.{entry_at}
use Rattle.log_dictionary.specs.BinaryEntries.{SpellsEntry}
use Rattle.log_dictionary.proofs.lemmas.Distinct.{test_from_there}
use Rattle.log_dictionary.proofs.lemmas.BinaryLaws.{entry_again, entry_taken, stays_bad}
use Rattle.arg_records.specs.declared.call.Call.{Call}
use Rattle.buffer_extent.specs.declared.fault.BodyCause.{BodyCause}
use Rattle.buffer_extent.specs.Bodies.{IsBody, BodyBreak}
use Rattle.buffer_extent.proofs.lemmas.BodyLaws.{body_again, body_broken}
use Rattle.checkpoint_io.specs.declared.cause.Cause.TheVariants as causes
use Rattle.checkpoint_io.specs.declared.fault.BlockFault.{BlockFault}
use Rattle.checkpoint_io.specs.declared.fault.BlockFault.TheVariants.{Damaged, ReadFault, NoMemory}
use Rattle.checkpoint_io.specs.declared.header.Header.{Header}
use Rattle.checkpoint_io.specs.declared.writers.WriterState.{WriterState}
use Rattle.checkpoint_io.specs.declared.block.Block.{Block as ReadBlock}
use Rattle.checkpoint_io.specs.declared.block.Block.TheVariants as read
use Rattle.checkpoint_io.specs.Blocks.{Block, Fragment, Extent, NewClock, Close, messages_of}
use Rattle.checkpoint_io.specs.Versions.{has_clocks, most_body}
use Rattle.checkpoint_io.specs.Validity.{records_of, last_stamp}
use Rattle.checkpoint_io.specs.Reading.{entry_cause, message_at, new_message_at, new_messages_at, is_count, counted_at, open_writer_at, sized_body_at, long_body_at, writer_records_at, fragment_at, extent_at, next_clock_at, new_clock_at, close_at, tagged_at, block_at}
use Rattle.checkpoint_io.specs.Places.{UnreadBytes, LogPlace, with_front, log_place, further, StandsBetween, IsNoDamage, Refuses, ReadsAs}
use Rattle.checkpoint_io.specs.Entries.{TakesMessage, TakesMessages, TakesFragment}
use Rattle.checkpoint_io.specs.Writers.{AreStatesOf}
use Rattle.checkpoint_io.specs.Times.{TimeState, AreTimesOf}
use Rattle.checkpoint_io.specs.NextBlocks.{TakesClose, TakesBody, TakesExtent, times_behind, TakesBlock}
use Rattle.checkpoint_io.proofs.lemmas.ValidityLaws.{messages-push}
use Rattle.checkpoint_io.proofs.ReadingForms.{new_by_test, clock_taken}
use Rattle.checkpoint_io.proofs.StepLaws.{front_taken, of_all, of_behind, stands_then, stands_last, refused_then, refused_first, answers_then}
use Rattle.checkpoint_io.proofs.WriterLaws.{states_kept}
use Rattle.checkpoint_io.proofs.TimeLaws.{times_kept, times_with_clock}

-- ---- messages

-- the entry that waits was read
pub message_stands : (message : Message) (len : ℕ) (from mid to : UnreadBytes) (left behind : Told) → AreBytes mid.bytes → with_front mid.bytes behind ≡ with_front from.bytes left → mid.offset ≡ from.offset → len ≤ length mid.bytes → entry_at mid.bytes ≡ Ok (message, drop len mid.bytes) → to.bytes ≡ drop len mid.bytes → to.offset ≡ further mid.offset len
    → StandsBetween message_at message (log_place from left) (log_place to behind)
message_stands message len from mid to left behind small same start within entry moved offset =
    let spelled = entry_taken message mid.bytes (drop len mid.bytes) small entry in
    let front : spelled.0 ≡ take len mid.bytes = append_cancel_right spelled.0 (take len mid.bytes) (drop len mid.bytes) (sym spelled.1 ∙ sym (take-append-drop len mid.bytes)) in
    let front_small : AreBytes (take len mid.bytes) = All-take (λ (b : ℕ). b < 256) len mid.bytes small in
    record {
      front = take len mid.bytes;
      passes = front_taken (take len mid.bytes) len from mid to left behind same start refl (length-take-le len mid.bytes within) front_small moved offset;
      found = λ rest. ap (caused_by entry_cause) (entry_again message (take len mid.bytes) rest (subst (λ (f : List ℕ). SpellsEntry f message) front spelled.2));
    }

-- bytes that begin with a bad entry, whatever follows
pub bad_message : (from mid : UnreadBytes) (left behind : Told) → with_front mid.bytes behind ≡ with_front from.bytes left → entry_at mid.bytes ≡ Err entries.BadEntry → Refuses message_at (log_place from left) behind (Damaged causes.BadEntry)
bad_message from mid left behind same bad =
    of_behind mid.bytes (with_front from.bytes left) behind (λ rest. Unit {0}) _ (sym same) (λ rest _. ap (caused_by entry_cause) (stays_bad mid.bytes rest bad)) (of_all behind _ (λ rest. tt))

-- bytes that end inside an entry, at the end of the source
pub cut_message : (from mid to : UnreadBytes) (left now behind : Told) → with_front mid.bytes now ≡ with_front from.bytes left → with_front to.bytes behind ≡ with_front mid.bytes now → length to.bytes ≡ length mid.bytes → IsAtEnd behind → entry_at mid.bytes ≡ Err entries.Cut → Refuses message_at (log_place from left) behind (Damaged causes.Cut)
cut_message from mid to left now behind same step len at_end cut =
    subst (λ (told : Told). IfSome told (λ bytes. message_at bytes ≡ Err causes.Cut)) (step ∙ same) (by_told now behind step at_end)
  where
    nothing : (xs : List ℕ) → length xs ≡ 0 → xs ≡ []
    nothing [] e = refl
    nothing (x ∷ xs) e = absurd (omega (arith, e))

    apart : (told : Told) (rest : List ℕ) → told ≡ None → told ≡ Some rest → ⊥
    apart told rest none some = cc

    by_told : (now behind : Told) → with_front to.bytes behind ≡ with_front mid.bytes now → IsAtEnd behind → IfSome (with_front to.bytes behind) (λ bytes. message_at bytes ≡ Err causes.Cut)
    by_told now None step at_end = tt
    by_told None (Some others) step at_end = absurd (apart None (to.bytes ++ others) refl (sym step))
    by_told (Some rest) (Some others) step at_end =
        let all : to.bytes ++ others ≡ mid.bytes ++ rest = cc in
        let none : rest ≡ [] = nothing rest (omega (arith, ap length all, length-append to.bytes others, length-append mid.bytes rest, len, ap length at_end)) in
        ap message_at (all ∙ ap (λ (r : List ℕ). mid.bytes ++ r) none ∙ append-nil mid.bytes) ∙ ap (caused_by entry_cause) cut

-- where no more bytes came
pub message_failed : (fault : BlockFault) (from mid : UnreadBytes) (left now behind : Told) → with_front mid.bytes now ≡ with_front from.bytes left → entry_at mid.bytes ≡ Err entries.Cut → IsNoDamage fault → (fault ≡ ReadFault → behind ≡ now) → Refuses message_at (log_place from left) behind fault
message_failed (Damaged cause) from mid left now behind same cut sound failed = absurd sound
message_failed ReadFault from mid left now behind same cut sound failed = (mid.bytes, sym same ∙ ap (with_front mid.bytes) (sym (failed refl)), ap (caused_by entry_cause) cut)
message_failed NoMemory from mid left now behind same cut sound failed = tt

pub new_message : (before after : List Message) (message : Message) (from to : LogPlace) → StandsBetween message_at message from to → ¬ (HasMessage before message) → after ≡ before ++ message ∷ [] → TakesMessage before after from to
new_message before after message from to stands new added = record {
  message = message;
  added = added;
  takes = stands_last message_at _ message message from to stands (λ rest. ap (λ (t : Bool). provided (not t) causes.BadEntry (message, rest)) (new_by_test before message new));
}

-- the message is there already
pub old_message : (before : List Message) (message : Message) (from to : LogPlace) (left : Told) → StandsBetween message_at message from to → HasMessage before message → Refuses (new_message_at before) from left (Damaged causes.BadEntry)
old_message before message from to left stands there =
    refused_then message_at _ message from to left (Damaged causes.BadEntry) stands (of_all to.ahead _ (λ rest. ap (λ (t : Bool). provided (not t) causes.BadEntry (message, rest)) (test_from_there before message there)))

-- no more messages
pub no_messages : (before : List Message) (at : LogPlace) → at.offset < 2 ^ 64 → TakesMessages before 0 before at at
no_messages before at fits = record {
  messages = [];
  many = refl;
  added = sym (append-nil before);
  takes = record { front = []; passes = record { ahead = no_front at.ahead; offset = omega (arith, fits); small = All-nil (λ (b : ℕ). b < 256) }; found = λ rest. refl };
}
  where
    no_front : (told : Told) → told ≡ with_front [] told
    no_front None = refl
    no_front (Some content) = refl

-- one message, and the others
pub messages_answer : (r : Result (Unit {0}) BlockFault) (before now after : List Message) (count : ℕ) (from mid to : LogPlace) (left : Told) → ¬ (count ≡ 0) → TakesMessage before now from mid → MatchResult r (λ _. TakesMessages now (count - 1) after mid to) (Refuses (new_messages_at now (count - 1)) mid left)
    → MatchResult r (λ _. TakesMessages before count after from to) (Refuses (new_messages_at before count) from left)
messages_answer (Ok _) before now after zero from mid to left some one others = absurd (some refl)
messages_answer (Err fault) before now after zero from mid to left some one others = absurd (some refl)
messages_answer (Ok _) before now after (suc count) from mid to left some one others =
    let rest : StandsBetween (new_messages_at (before ++ one.message ∷ []) count) others.messages mid to = subst (λ (n : ℕ). StandsBetween (new_messages_at (before ++ one.message ∷ []) n) others.messages mid to) (omega arith) (subst (λ (l : List Message). StandsBetween (new_messages_at l (suc count - 1)) others.messages mid to) one.added others.takes) in
    record {
      messages = one.message ∷ others.messages;
      many = omega (arith, others.many);
      added = others.added ∙ ap (λ (l : List Message). l ++ others.messages) one.added ∙ append_assoc before (one.message ∷ []) others.messages;
      takes = stands_then (new_message_at before) _ one.message (one.message ∷ others.messages) from mid to one.takes
          (stands_last (new_messages_at (before ++ one.message ∷ []) count) _ others.messages (one.message ∷ others.messages) mid to rest (λ rest. refl));
    }
messages_answer (Err fault) before now after (suc count) from mid to left some one others =
    let rest : Refuses (new_messages_at (before ++ one.message ∷ []) count) mid left fault = subst (λ (n : ℕ). Refuses (new_messages_at (before ++ one.message ∷ []) n) mid left fault) (omega arith) (subst (λ (l : List Message). Refuses (new_messages_at l (suc count - 1)) mid left fault) one.added others) in
    refused_then (new_message_at before) _ one.message from mid left fault one.takes (refused_first (new_messages_at (before ++ one.message ∷ []) count) _ mid left fault rest)

-- where the first one is refused
pub messages_refused : (before : List Message) (count : ℕ) (from : LogPlace) (left : Told) (fault : BlockFault) → ¬ (count ≡ 0) → Refuses (new_message_at before) from left fault → Refuses (new_messages_at before count) from left fault
messages_refused before zero from left fault some refused = absurd (some refl)
messages_refused before (suc count) from left fault some refused = refused_first (new_message_at before) _ from left fault refused

-- ---- bodies

pub body_stands : (messages : List Message) (tick last len : ℕ) (records : List Call) (from mid to : UnreadBytes) (left behind : Told) → AreBytes (take len mid.bytes) → with_front mid.bytes behind ≡ with_front from.bytes left → mid.offset ≡ from.offset → len ≤ length mid.bytes → IsBody messages tick last records (take len mid.bytes) → to.bytes ≡ drop len mid.bytes → to.offset ≡ further mid.offset len
    → StandsBetween (sized_body_at messages tick last len) records (log_place from left) (log_place to behind)
body_stands messages tick last len records from mid to left behind small same start long is moved offset =
    let body = take len mid.bytes in
    let whole : length body ≡ len = length-take-le len mid.bytes long in
    record {
      front = body;
      passes = front_taken body len from mid to left behind same start refl whole small moved offset;
      found = λ rest. rw (so_many_again len causes.Cut body rest whole, body_again messages tick last records body is) refl;
    }

-- a body that has bytes has a record, and its last stamp is told
some_last : (messages : List Message) (tick last stamp : ℕ) (records : List Call) (body : List ℕ) → 1 ≤ length body → IsBody messages tick last records body → stamp ≡ last_stamp last records → (least : ℕ) → stamp ≡ last_stamp least records
some_last messages tick last stamp [] body some is ends least = absurd (omega (arith, some, ap length is.spelled))
some_last messages tick last stamp (call ∷ records) body some is ends least = ends

-- the body that was judged is kept
pub body_kept : (messages : List Message) (tick last stamp len : ℕ) (kept : List ℕ) (from mid to : UnreadBytes) (left behind : Told) → AreBytes (take len mid.bytes) → with_front mid.bytes behind ≡ with_front from.bytes left → mid.offset ≡ from.offset → 1 ≤ len → len ≤ length mid.bytes → (judged : (records : List Call) × IsBody messages tick last records (take len mid.bytes) × (stamp ≡ last_stamp last records)) → kept ≡ take len mid.bytes → to.bytes ≡ drop len mid.bytes → to.offset ≡ further mid.offset len
    → TakesBody (sized_body_at messages tick last len) messages tick last stamp kept (log_place from left) (log_place to behind)
body_kept messages tick last stamp len kept from mid to left behind small same start some long (records, is, ends) same_body moved offset = record {
  records = records;
  takes = body_stands messages tick last len records from mid to left behind small same start long is moved offset;
  body = subst (IsBody messages tick last records) (sym same_body) is;
  ends = some_last messages tick last stamp records (take len mid.bytes) (omega (arith, some, length-take-le len mid.bytes long)) is ends;
}

pub body_refused : (messages : List Message) (tick last len : ℕ) (cause : BodyCause) (from mid : UnreadBytes) (left behind : Told) → with_front mid.bytes behind ≡ with_front from.bytes left → len ≤ length mid.bytes → BodyBreak messages tick last (take len mid.bytes) cause → Refuses (sized_body_at messages tick last len) (log_place from left) behind (Damaged (causes.Body cause))
body_refused messages tick last len cause from mid left behind same long breaks =
    of_behind mid.bytes (with_front from.bytes left) behind (λ rest. Unit {0}) _ (sym same) (λ rest _. there rest) (of_all behind _ (λ rest. tt))
  where
    there : (rest : List ℕ) → sized_body_at messages tick last len (mid.bytes ++ rest) ≡ Err (causes.Body cause)
    there rest =
        let body = take len mid.bytes in
        let parts : mid.bytes ++ rest ≡ body ++ (drop len mid.bytes ++ rest) = ap (λ (b : List ℕ). b ++ rest) (sym (take-append-drop len mid.bytes)) ∙ append_assoc body (drop len mid.bytes) rest in
        ap (sized_body_at messages tick last len) parts ∙ rw (so_many_again len causes.Cut body (drop len mid.bytes ++ rest) (length-take-le len mid.bytes long), body_broken messages tick last cause body breaks) refl

-- ---- blocks

pub fragment_block : (r : Result ReadBlock BlockFault) (header : Header) (before : List Block) (defined after : List Message) (states : List WriterState) (times : TimeState) (kept_body : List ℕ) (tag : ℕ) (from mid to : LogPlace) (left : Told) → tag ≡ 1 → defined ≡ messages_of before → AreStatesOf states header before → AreTimesOf times header before → StandsBetween (first_byte causes.Cut) tag from mid
    → MatchResult r (λ block. TakesFragment defined block after mid to) (Refuses (fragment_at defined) mid left) → MatchResult r (λ block. TakesBlock header before block after states times kept_body from to) (Refuses (block_at header before) from left)
fragment_block (Ok told) header before defined after states times kept_body tag from mid to left is known are times_are stands takes =
    let block = Fragment takes.first takes.messages in
    let behind : StandsBetween (fragment_at (messages_of before)) block mid to = subst (λ (m : List Message). StandsBetween (fragment_at m) block mid to) known takes.takes in
    record {
      block = block;
      tells = takes.is;
      body = tt;
      takes = stands_then (first_byte causes.Cut) _ tag block from mid to stands (subst (λ (t : ℕ). StandsBetween (tagged_at header before t) block mid to) (sym is) behind);
      defined = takes.added ∙ ap (λ (m : List Message). m ++ takes.messages) known ∙ sym (messages-push before block);
      states = states_kept states header before block (λ writer. refl) (λ writer. refl) are;
      times_are = subst (λ (b : ReadBlock). AreTimesOf (times_behind b times) header (before ++ block ∷ [])) (sym takes.is) (times_kept times header before block refl refl times_are);
    }
fragment_block (Err fault) header before defined after states times kept_body tag from mid to left is known are times_are stands refused =
    let behind : Refuses (fragment_at (messages_of before)) mid left fault = subst (λ (m : List Message). Refuses (fragment_at m) mid left fault) known refused in
    refused_then (first_byte causes.Cut) _ tag from mid left fault stands (subst (λ (t : ℕ). Refuses (tagged_at header before t) mid left fault) (sym is) behind)

pub extent_block : (header : Header) (before : List Block) (defined : List Message) (writer stamp : ℕ) (kept_body : List ℕ) (after : List WriterState) (times : TimeState) (tag : ℕ) (from mid to : LogPlace) → tag ≡ 2 → defined ≡ messages_of before → StandsBetween (first_byte causes.Cut) tag from mid → (takes : TakesExtent header before defined writer stamp kept_body after mid to) → AreTimesOf times header (before ++ Extent writer takes.records ∷ []) → TakesBlock header before (read.Extent writer) defined after times kept_body from to
extent_block header before defined writer stamp kept_body after times tag from mid to is known stands takes times_are =
    let block = Extent writer takes.records in
    record {
      block = block;
      tells = refl;
      body = (takes.last, takes.body);
      takes = stands_then (first_byte causes.Cut) _ tag block from mid to stands (subst (λ (t : ℕ). StandsBetween (tagged_at header before t) block mid to) (sym is) takes.takes);
      defined = known ∙ sym (messages-push before block ∙ append-nil (messages_of before));
      states = takes.states;
      times_are = times_are;
    }

pub close_block : (header : Header) (before : List Block) (defined : List Message) (writer : ℕ) (after : List WriterState) (times : TimeState) (kept_body : List ℕ) (tag : ℕ) (from mid to : LogPlace) → tag ≡ 4 → defined ≡ messages_of before → AreTimesOf times header before → StandsBetween (first_byte causes.Cut) tag from mid → TakesClose header before writer after mid to → TakesBlock header before (read.Closed writer) defined after times kept_body from to
close_block header before defined writer after times kept_body tag from mid to is known times_are stands takes =
    let block = Close writer in
    record {
      block = block;
      tells = refl;
      body = tt;
      takes = stands_then (first_byte causes.Cut) _ tag block from mid to stands (subst (λ (t : ℕ). StandsBetween (tagged_at header before t) block mid to) (sym is) takes.takes);
      defined = known ∙ sym (messages-push before block ∙ append-nil (messages_of before));
      states = takes.states;
      times_are = times_kept times header before block refl refl times_are;
    }

-- a clock, in a version that has them
pub clock_block : (header : Header) (before : List Block) (defined : List Message) (clock : Clock) (states : List WriterState) (times : TimeState) (kept_body : List ℕ) (tag : ℕ) (from mid to : LogPlace) → tag ≡ 3 → has_clocks header.version ≡ true → defined ≡ messages_of before → AreStatesOf states header before → AreTimesOf times header before → StandsBetween (first_byte causes.Cut) tag from mid → StandsBetween (next_clock_at header before) clock mid to → TakesBlock header before (read.Clock clock) defined states times kept_body from to
clock_block header before defined clock states times kept_body tag from mid to is has known are times_are stands takes =
    let block = NewClock clock in
    let here : StandsBetween (new_clock_at header before) block mid to = stands_last (next_clock_at header before) _ clock block mid to takes (λ rest. refl) in
    let behind : StandsBetween (tagged_at header before 3) block mid to = subst (λ (b : Bool). StandsBetween (λ bytes. if b then new_clock_at header before bytes else Err causes.BadBlock) block mid to) (sym has) here in
    let right = clock_taken header before takes.front clock [] takes.passes.small (ap (next_clock_at header before) (sym (append-nil takes.front)) ∙ takes.found []) in
    record {
      block = block;
      tells = refl;
      body = tt;
      takes = stands_then (first_byte causes.Cut) _ tag block from mid to stands (subst (λ (t : ℕ). StandsBetween (tagged_at header before t) block mid to) (sym is) behind);
      defined = known ∙ sym (messages-push before block ∙ append-nil (messages_of before));
      states = states_kept states header before block (λ writer. refl) (λ writer. refl) are;
      times_are = times_with_clock times header before clock (subst (λ (l : List Clock). last_tick l < clock.tick) (sym times_are.clocks_are) right.rising) times_are;
    }

pub clock_refused : (header : Header) (before : List Block) (tag : ℕ) (from mid : LogPlace) (left : Told) (fault : BlockFault) → tag ≡ 3 → has_clocks header.version ≡ true → StandsBetween (first_byte causes.Cut) tag from mid → Refuses (next_clock_at header before) mid left fault → Refuses (block_at header before) from left fault
clock_refused header before tag from mid left fault is has stands refused =
    let here : Refuses (new_clock_at header before) mid left fault = refused_first (next_clock_at header before) _ mid left fault refused in
    let behind : Refuses (tagged_at header before 3) mid left fault = subst (λ (b : Bool). Refuses (λ bytes. if b then new_clock_at header before bytes else Err causes.BadBlock) mid left fault) (sym has) here in
    refused_then (first_byte causes.Cut) _ tag from mid left fault stands (subst (λ (t : ℕ). Refuses (tagged_at header before t) mid left fault) (sym is) behind)

-- what is refused behind a tag
pub refused_behind : (header : Header) (before : List Block) (tag same : ℕ) (from mid : LogPlace) (left : Told) (fault : BlockFault) → tag ≡ same → StandsBetween (first_byte causes.Cut) tag from mid → Refuses (tagged_at header before same) mid left fault → Refuses (block_at header before) from left fault
refused_behind header before tag same from mid left fault is stands refused =
    refused_then (first_byte causes.Cut) _ tag from mid left fault stands (subst (λ (t : ℕ). Refuses (tagged_at header before t) mid left fault) (sym is) refused)

-- ---- extents

-- a length, and the body
long_body_answer : (r : Result (List Call) BlockFault) (messages : List Message) (header : Header) (last len : ℕ) (from mid to : LogPlace) (left : Told) → 1 ≤ len → len ≤ most_body header.version → StandsBetween (low_first 4 causes.Cut) len from mid → ReadsAs (sized_body_at messages header.clock.tick last len) mid to left r → ReadsAs (long_body_at messages header last) from to left r
long_body_answer r messages header last len from mid to left some short stands answers =
    answers_then r (low_first 4 causes.Cut) _ (sized_body_at messages header.clock.tick last len) len from mid to left stands (λ rest. rw (le-leb 1 len some, le-leb len (most_body header.version) short) refl) answers

pub long_body_kept : (r : Result ℕ BlockFault) (messages : List Message) (header : Header) (last len : ℕ) (kept : List ℕ) (from mid to : LogPlace) (left : Told) → 1 ≤ len → len ≤ most_body header.version → StandsBetween (low_first 4 causes.Cut) len from mid
    → MatchResult r (λ stamp. TakesBody (sized_body_at messages header.clock.tick last len) messages header.clock.tick last stamp kept mid to) (Refuses (sized_body_at messages header.clock.tick last len) mid left)
    → MatchResult r (λ stamp. TakesBody (long_body_at messages header last) messages header.clock.tick last stamp kept from to) (Refuses (long_body_at messages header last) from left)
long_body_kept (Ok stamp) messages header last len kept from mid to left some short stands takes = record {
  records = takes.records;
  takes = long_body_answer (Ok takes.records) messages header last len from mid to left some short stands takes.takes;
  body = takes.body;
  ends = takes.ends;
}
long_body_kept (Err fault) messages header last len kept from mid to left some short stands refused =
    long_body_answer (Err fault) messages header last len from mid to left some short stands refused

-- what the reader keeps is what the blocks give
same_body : (header : Header) (before : List Block) (messages : List Message) (last writer : ℕ) → messages ≡ messages_of before → last ≡ last_stamp header.clock.tick (records_of writer before) → (rest : List ℕ) → writer_records_at header before writer rest ≡ long_body_at messages header last rest
same_body header before messages last writer known stamp rest = λ t. long_body_at (sym known t) header (sym stamp t) rest

pub extent_stands : (header : Header) (before : List Block) (messages : List Message) (last writer : ℕ) (records : List Call) (from mid to : LogPlace) → messages ≡ messages_of before → last ≡ last_stamp header.clock.tick (records_of writer before) → StandsBetween (open_writer_at header before) writer from mid → StandsBetween (long_body_at messages header last) records mid to → StandsBetween (extent_at header before) (Extent writer records) from to
extent_stands header before messages last writer records from mid to known stamp writers body =
    let own : StandsBetween (writer_records_at header before writer) records mid to = record { front = body.front; passes = body.passes; found = λ rest. same_body header before messages last writer known stamp (body.front ++ rest) ∙ body.found rest } in
    stands_then (open_writer_at header before) _ writer (Extent writer records) from mid to writers (stands_last (writer_records_at header before writer) _ records (Extent writer records) mid to own (λ rest. refl))

-- where the writer is refused
pub writer_refused : (header : Header) (before : List Block) (from : LogPlace) (left : Told) (fault : BlockFault) → Refuses (open_writer_at header before) from left fault → Refuses (extent_at header before) from left fault
writer_refused header before from left fault refused =
    refused_first (open_writer_at header before) (λ w. writer_records_at header before w.0 w.1 >>= (λ entries. Ok (Extent w.0 entries.0, entries.1))) from left fault refused

pub extent_refused : (header : Header) (before : List Block) (messages : List Message) (last writer : ℕ) (from mid : LogPlace) (left : Told) (fault : BlockFault) → messages ≡ messages_of before → last ≡ last_stamp header.clock.tick (records_of writer before) → StandsBetween (open_writer_at header before) writer from mid → Refuses (long_body_at messages header last) mid left fault → Refuses (extent_at header before) from left fault
extent_refused header before messages last writer from mid left fault known stamp writers refused =
    let own : Refuses (writer_records_at header before writer) mid left fault = subst (λ (l : List Message). Refuses (long_body_at l header (last_stamp header.clock.tick (records_of writer before))) mid left fault) known (subst (λ (n : ℕ). Refuses (long_body_at messages header n) mid left fault) stamp refused) in
    refused_then (open_writer_at header before) (λ w. writer_records_at header before w.0 w.1 >>= (λ entries. Ok (Extent w.0 entries.0, entries.1))) writer from mid left fault writers
    (refused_first (writer_records_at header before writer) (λ entries. Ok (Extent writer entries.0, entries.1)) mid left fault own)

-- ---- close marks

pub close_stands : (header : Header) (before : List Block) (writer : ℕ) (from to : LogPlace) → StandsBetween (open_writer_at header before) writer from to → StandsBetween (close_at header before) (Close writer) from to
close_stands header before writer from to stands = stands_last (open_writer_at header before) _ writer (Close writer) from to stands (λ rest. refl)

pub close_refused : (header : Header) (before : List Block) (from : LogPlace) (left : Told) (fault : BlockFault) → Refuses (open_writer_at header before) from left fault → Refuses (close_at header before) from left fault
close_refused header before from left fault refused = refused_first (open_writer_at header before) (λ w. Ok (Close w.0, w.1)) from left fault refused

-- ---- fragments

-- behind the first id
pub fragment_answer : (r : Result (List Message) BlockFault) (before : List Message) (first count : ℕ) (from mid start to : LogPlace) (left : Told) → first ≡ length before → is_count before count ≡ true → StandsBetween (low_first 4 causes.Cut) first from mid → StandsBetween (low_first 2 causes.Cut) count mid start → ReadsAs (new_messages_at before count) start to left r
    → MatchResult r (λ messages. StandsBetween (fragment_at before) (Fragment first messages) from to) (Refuses (fragment_at before) from left)
fragment_answer (Ok messages) before first count from mid start to left is few firsts counts stands =
    let counted : StandsBetween (counted_at before first) (Fragment first messages) mid to =
    answers_then (Ok (Fragment first messages)) (low_first 2 causes.Cut) _ (λ bytes. new_messages_at before count bytes >>= (λ messages. Ok (Fragment first messages.0, messages.1))) count mid start to left counts (λ rest. rw few refl)
    (stands_last (new_messages_at before count) _ messages (Fragment first messages) start to stands (λ rest. refl)) in
    answers_then (Ok (Fragment first messages)) (low_first 4 causes.Cut) _ (counted_at before first) first from mid to left firsts (λ rest. rw (eq-eqb first (length before) is) refl) counted
fragment_answer (Err fault) before first count from mid start to left is few firsts counts refused =
    let none : Result Block BlockFault = Err fault in
    let counted : Refuses (counted_at before first) mid left fault =
    answers_then none (low_first 2 causes.Cut) _ (λ bytes. new_messages_at before count bytes >>= (λ messages. Ok (Fragment first messages.0, messages.1))) count mid start to left counts (λ rest. rw few refl)
    (refused_first (new_messages_at before count) _ start left fault refused) in
    answers_then none (low_first 4 causes.Cut) _ (counted_at before first) first from mid to left firsts (λ rest. rw (eq-eqb first (length before) is) refl) counted

pub fragment_stands : (before after : List Message) (first count : ℕ) (from mid start to : LogPlace) → first ≡ length before → is_count before count ≡ true → StandsBetween (low_first 4 causes.Cut) first from mid → StandsBetween (low_first 2 causes.Cut) count mid start → TakesMessages before count after start to → TakesFragment before (read.Fragment first count) after from to
fragment_stands before after first count from mid start to is few firsts counts takes = record {
  first = first;
  messages = takes.messages;
  is = ap (read.Fragment first) (sym takes.many);
  added = takes.added;
  takes = fragment_answer (Ok takes.messages) before first count from mid start to None is few firsts counts takes.takes;
}

-- where it is cut off behind the first id
pub count_refused : (before : List Message) (first : ℕ) (from mid : LogPlace) (left : Told) (fault : BlockFault) → first ≡ length before → StandsBetween (low_first 4 causes.Cut) first from mid → Refuses (low_first 2 causes.Cut) mid left fault → Refuses (fragment_at before) from left fault
count_refused before first from mid left fault is firsts refused =
    let none : Result Block BlockFault = Err fault in
    answers_then none (low_first 4 causes.Cut) _ (counted_at before first) first from mid mid left firsts (λ rest. rw (eq-eqb first (length before) is) refl)
    (refused_first (low_first 2 causes.Cut) _ mid left fault refused)
