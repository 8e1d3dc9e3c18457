-- A visit gives no more bytes than there is room for.
use Rattle.std.proofs.Common.{◌≡◌, ℕ, ◌+◌, ◌*◌, ◌≤◌, Bool, true, false, cond, List, [], ◌∷◌, ◌++◌, length, get_or, add-one, take, drop, filter, nat_le, refl, ap, ◌∙◌, arith}
use Rattle.std.specs.Prelude.{sum_by, slice_get, Some}
use Rattle.std.proofs.Math.Seq.{take-suc}
use Rattle.std.proofs.lemmas.List.{length-append, length-drop}
use Rattle.std.proofs.lemmas.List.Sums.{sum_by-cons, sum_by-append, sum_by_push, sum_by-take-le, sum_by-take-drop}
use Rattle.std.proofs.lemmas.Option.{slice_get_within, get_or_from_slice_get}
use Rattle.log_dictionary.specs.declared.clock.Clock.{Clock}
use Rattle.log_dictionary.specs.declared.clocks.TheConstants.{MAX_CLOCKS}
use Rattle.log_dictionary.specs.declared.message.Message.{Message}
use Rattle.log_dictionary.specs.BinaryEntries.{entry_bytes}
use Rattle.arg_records.specs.declared.call.Call.{Call}
use Rattle.checkpoint_io.specs.declared.header.Header.{Header}
use Rattle.checkpoint_io.specs.Versions.{extent_head_len}
use Rattle.checkpoint_io.specs.Blocks.{Block, Fragment, Extent, NewClock, Close, SpellsEntries, SpellsBlocks, SpellsExtent, fragment_head_bytes, extent_head_bytes, clock_bytes}
use Rattle.checkpoint_io.specs.Logs.{ids_used, AreFragments, greatest_stamp, new_clocks}
use Rattle.checkpoint_io.proofs.lemmas.BlockLaws.{le_length, length-extent_head_bytes, length-clock_bytes}
use Rattle.checkpoint_io.proofs.lemmas.VersionLaws.{few_len, short_bodies}
use Rattle.checkpoint_io.specs.declared.heads.TheConstants.{FRAGMENT_HEAD_LEN, CLOCK_LEN}
use Rattle.checkpoint_io.specs.declared.version.TheConstants.{MAX_EXTENT_HEAD_LEN, MAX_READ_BODY}
use Rattle.roaming_consumer.specs.declared.roamer.Roamer.{Roamer}
use Rattle.roaming_consumer.specs.Roamers.{roamer_messages, roamer_version, roamer_clocks, roamer_progress, roamer_header}
use Rattle.roaming_consumer.specs.Growth.{clocks_bytes}
use Rattle.roaming_consumer.specs.Visits.{IsPrefaceOf}
use Rattle.log_ends.specs.Rooms.{definitions_len, visit_len}

sum_at : {A : Type 0} (f : A → ℕ) (xs : List A) (i : ℕ) (x : A) → slice_get xs i ≡ Some x → sum_by f (take (i + 1) xs) ≡ sum_by f (take i xs) + f x
sum_at f xs i x there =
    rw add-one (ap (sum_by f) (take-suc xs i x (slice_get_within xs i x there)) ∙ sum_by_push f (take i xs) (get_or xs i x) ∙ ap (λ y. sum_by f (take i xs) + f y) (get_or_from_slice_get xs i x x there))

pub one_more_definition : (messages : List Message) (id : ℕ) (message : Message) → slice_get messages id ≡ Some message → definitions_len (take (id + 1) messages) ≡ definitions_len (take id messages) + (FRAGMENT_HEAD_LEN + length (entry_bytes message))
unfolding definitions_len
one_more_definition messages id message there =
    sum_at (λ (m : Message). FRAGMENT_HEAD_LEN + length (entry_bytes m)) messages id message there

-- entries take what their messages take without the heads
entries_fit : (messages : List Message) (bytes : List ℕ) → SpellsEntries messages bytes → length bytes ≤ definitions_len messages
unfolding definitions_len
entries_fit [] bytes spelled = omega (arith, ap length spelled)
entries_fit (message ∷ messages) bytes (front, back, joined, entry, others) =
    let f = λ (m : Message). FRAGMENT_HEAD_LEN + length (entry_bytes m) in
    omega (arith, ap length joined, length-append front back, ap length entry.spelled, entries_fit messages back others, sum_by-cons f message messages)

-- so there is room for a head in front of them
entries_and_head_fit : (messages : List Message) (bytes : List ℕ) → 1 ≤ length messages → SpellsEntries messages bytes → FRAGMENT_HEAD_LEN + length bytes ≤ definitions_len messages
unfolding definitions_len
entries_and_head_fit [] bytes some spelled = absurd (omega arith)
entries_and_head_fit (message ∷ messages) bytes some (front, back, joined, entry, others) =
    let f = λ (m : Message). FRAGMENT_HEAD_LEN + length (entry_bytes m) in
    omega (arith, ap length joined, length-append front back, ap length entry.spelled, entries_fit messages back others, sum_by-cons f message messages)

definitions_append : (front back messages : List Message) → messages ≡ front ++ back → definitions_len messages ≡ definitions_len front + definitions_len back
unfolding definitions_len
definitions_append front back messages joined = ap definitions_len joined ∙ sum_by-append (λ (m : Message). FRAGMENT_HEAD_LEN + length (entry_bytes m)) front back

head_long : (first count : ℕ) (entries : List ℕ) → length (fragment_head_bytes first count ++ entries) ≡ FRAGMENT_HEAD_LEN + length entries
head_long first count entries = simp length-append (omega (arith, le_length 4 first, le_length 2 count))

extent_long : (version writer : ℕ) (body : List ℕ) → length (extent_head_bytes version writer (length body) ++ body) ≡ extent_head_len version + length body
extent_long version writer body =
    length-append (extent_head_bytes version writer (length body)) body ∙ ap (λ (n : ℕ). n + length body) (length-extent_head_bytes version writer (length body))

fragments_fit : (first : ℕ) (header : Header) (messages : List Message) (before blocks : List Block) (bytes : List ℕ) → AreFragments first messages blocks → SpellsBlocks header before blocks bytes → length bytes ≤ definitions_len messages
fragments_fit first header messages before [] bytes are spelled = omega (arith, ap length spelled)
fragments_fit first header messages before (Fragment id front ∷ blocks) bytes (back, id_is, parted, full, others) (one, more, joined, fragment, rest) =
    let here = entries_and_head_fit front fragment.entries fragment.some fragment.entries_spelled in
    let there = fragments_fit (first + length front) header back (before ++ Fragment id front ∷ []) blocks more others rest in
    omega (arith, ap length joined, length-append one more, ap length fragment.joined, head_long id (length front) fragment.entries, definitions_append front back messages parted, here, there)
fragments_fit first header messages before (Extent writer records ∷ blocks) bytes are spelled = absurd are
fragments_fit first header messages before (NewClock clock ∷ blocks) bytes are spelled = absurd are
fragments_fit first header messages before (Close writer ∷ blocks) bytes are spelled = absurd are

part_fits : (messages : List Message) (n m : ℕ) → definitions_len (drop n (take m messages)) ≤ definitions_len messages
unfolding definitions_len
part_fits messages n m =
    let f = λ (message : Message). FRAGMENT_HEAD_LEN + length (entry_bytes message) in
    omega (arith, sum_by-take-le f messages m, sum_by-take-drop f (take m messages) n)

-- clocks have one length
clocks_fit : (clocks : List Clock) → length (clocks_bytes clocks) ≡ CLOCK_LEN * length clocks
clocks_fit [] = refl
clocks_fit (clock ∷ clocks) = omega (arith, length-append (clock_bytes clock) (clocks_bytes clocks), length-clock_bytes clock, clocks_fit clocks)

few_due : (test : Clock → Bool) (clocks : List Clock) → length (filter test clocks) ≤ length clocks
few_due test [] = omega arith
few_due test (clock ∷ clocks) = at (test clock) (few_due test clocks)
  where
    at : (due : Bool) → length (filter test clocks) ≤ length clocks → length (cond due (clock ∷ filter test clocks) (filter test clocks)) ≤ length (clock ∷ clocks)
    at true few = omega (arith, few)
    at false few = omega (arith, few)

-- what a visit was to write
pub visit_fits : {S : Type 0} (roamer : Roamer S) (writer : ℕ) (records : List Call) (preface extent : List ℕ) → IsPrefaceOf roamer records preface → SpellsExtent (roamer_messages roamer) (roamer_header roamer) writer records extent → length (preface ++ extent) ≤ visit_len (roamer_messages roamer)
visit_fits roamer writer records preface extent standing spelled =
    let messages = roamer_messages roamer in
    let progress = roamer_progress roamer in
    let due = new_clocks (roamer_clocks roamer) progress.written records in
    let fragments = fragments_fit progress.defined (roamer_header roamer) _ [] standing.defining.blocks standing.fragments standing.defining.are (standing.defining.spelled (roamer_header roamer) []) in
    let part = part_fits messages progress.defined (ids_used records) in
    let few = few_due (λ clock. nat_le clock.tick (greatest_stamp records)) (drop progress.written (roamer_clocks roamer)) in
    let most : length due ≤ MAX_CLOCKS = omega (arith, few, length-drop progress.written (roamer_clocks roamer), roamer.may_have.are.few) in
    let head : extent_head_len (roamer_version roamer) ≤ MAX_EXTENT_HEAD_LEN = omega (arith, few_len (roamer_version roamer)) in
    let long = ap length spelled.joined ∙ extent_long (roamer_version roamer) writer spelled.body in
    let short : length spelled.body ≤ MAX_READ_BODY = omega (arith, spelled.short, short_bodies (roamer_version roamer)) in
    omega (
      arith,
      length-append preface extent,
      ap length standing.joined,
      length-append (clocks_bytes due) standing.fragments,
      clocks_fit due,
      most,
      head,
      long,
      short,
      fragments,
      part,
    )
