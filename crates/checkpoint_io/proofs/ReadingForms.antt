-- Right headers and blocks are read as what they are, and what is read is right.
use Rattle.std.proofs.Common.{◌≡◌, inl, inr, ℕ, ◌+◌, ◌<◌, ◌≤◌, ◌^◌, Bool, true, false, List, [], ◌∷◌, ◌++◌, length, Ok, refl, sym, ap, subst, ◌∙◌, append_assoc, append-nil, eq-eqb, arith}
use Rattle.std.specs.Prelude.{codes, not, nat_eq, nat_lt, nat_le, ◌&&◌}
use Rattle.std.specs.List.{list_any}
use Rattle.std.specs.Hash.{le_bytes}
use Rattle.std.proofs.lemmas.Bool.{le-leb, leb-true, lt-ltb, ltb-true, eqb-true, and_parts, and_from, true≢false, not-true, not_from_false, false_from_ne_true}
use Rattle.std.proofs.lemmas.List.{length-append}
use Rattle.nibble_pack.specs.Bytes.{AreBytes, back_bytes}
use Rattle.nibble_pack.specs.Parsing.{◌>>=◌, provided, caused_by, first_byte, IsSteady}
use Rattle.nibble_pack.proofs.lemmas.Parsing.{given}
use Rattle.nibble_pack.proofs.lemmas.Formats.{IsFormat, respelled, then_format, tested_then, made_format, judged_format, checked_format, caused_format, chosen_format, broken_format, done_format, passed_format, byte_format, number_format, many_format, letters_format, SpellTimes, times_format, one_reading, one_spelling, uncaused}
use Rattle.log_dictionary.specs.declared.clock.Clock.{Clock}
use Rattle.log_dictionary.specs.declared.clocks.TheConstants.{MAX_CLOCKS}
use Rattle.log_dictionary.specs.declared.message.Message.{Message}
use Rattle.log_dictionary.specs.Clocks.{last_tick}
use Rattle.log_dictionary.specs.declared.dictionary.TheConstants.{MAX_MESSAGES}
use Rattle.log_dictionary.specs.Messages.{is_same, HasMessage, AreDistinct}
use Rattle.log_dictionary.specs.BinaryEntries.{SpellsEntry}
use Rattle.log_dictionary.proofs.lemmas.Distinct.{there_from_test, none_from_test, is_new, still_distinct}
use Rattle.log_dictionary.proofs.lemmas.BinaryLaws.{entry_format}
use Rattle.arg_records.specs.declared.call.Call.{Call}
use Rattle.buffer_extent.specs.Bodies.{IsBody, body_at}
use Rattle.buffer_extent.proofs.lemmas.BodyLaws.{body_again, body_taken}
use Rattle.checkpoint_io.specs.declared.cause.Cause.TheVariants as causes
use Rattle.checkpoint_io.specs.declared.header.Header.{Header}
use Rattle.checkpoint_io.specs.declared.heads.TheConstants.{MAX_FRAGMENT_MESSAGES}
use Rattle.checkpoint_io.specs.Versions.{is_known, has_clocks, writer_len, most_writers, most_body}
use Rattle.checkpoint_io.specs.Blocks.{Block, Fragment, Extent, NewClock, Close, messages_of, clocks_of, all_records, writer_bytes, header_bytes, fragment_head_bytes, SpellsEntries, SpellsBlock}
use Rattle.checkpoint_io.specs.Validity.{records_of, last_stamp, closes, MayStillWrite, ContinuesClocks, IsRightAfter, IsHeader}
use Rattle.checkpoint_io.specs.Reading.{header_of, header_writers_at, header_version_at, header_at, entry_cause, new_message_at, is_count, open_writer_at, long_body_at, are_early, next_clock_at, block_at}
use Rattle.checkpoint_io.proofs.lemmas.VersionLaws.{writers_fit, bodies_fit}
use Rattle.checkpoint_io.proofs.lemmas.BlockLaws.{header_nested}
use Rattle.checkpoint_io.proofs.lemmas.ValidityLaws.{early_test, early_from_test}

-- ---- headers

abbrev is_number : ℕ → ℕ → Bool
is_number version writers = nat_le 1 writers && nat_le writers (most_writers version)

header_format : IsFormat causes.Cut (λ header front. IsHeader header × (front ≡ header_bytes header)) header_at
header_format =
    respelled (then_format (letters_format causes.BadMagic causes.Cut (codes "NLOG")) (λ letters.
    tested_then is_known causes.BadVersion (byte_format causes.Cut) (λ version known.
    tested_then (is_number version) causes.BadHeader (number_format (writer_len version) causes.Cut) (λ writers within.
    then_format (number_format 8 causes.Cut) (λ tick. then_format (number_format 8 causes.Cut) (λ nanos.
    tested_then (nat_le 1) causes.BadHeader (number_format 8 causes.Cut) (λ rate ticks. done_format (header_of version writers tick nanos rate))))))))
    (λ header front are (letters, a, b, ab, (all, letters_are), (version, c, d, cd, version_is, (known, (writers, e, f, ef, (fit, writers_are), (within, (tick, g, h, gh, (tick_fits, tick_is), (nanos, i, j, ij, (nanos_fits, nanos_is), (rate, k, l, kl, (rate_fits, rate_is), (ticks, (made, none)))))))))).
    let read : Header = header_of version writers tick nanos rate in
    let both = and_parts (nat_le 1 writers) (nat_le writers (most_writers version)) within in
    subst (λ (h : Header). IsHeader h × (front ≡ header_bytes h)) made (
      record {
        version_known = known;
        some_writer = leb-true 1 writers both.0;
        few_writers = leb-true writers (most_writers version) both.1;
        tick_fits = tick_fits;
        nanos_fits = nanos_fits;
        rate_fits = rate_fits;
        rate = leb-true 1 rate ticks;
      },
      ab ∙ (λ t. letters_are t ++ (cd ∙ (λ u. version_is u ++ (ef ∙ (λ v. writers_are v ++ (gh ∙ (λ w. tick_is w ++ (ij ∙ (λ x. nanos_is x ++ (kl ∙ (λ y. rate_is y ++ none y)) x)) w)) v)) u)) t)
          ∙ sym (header_nested read []) ∙ append-nil (header_bytes read),
    ))
    (λ header front (right, is).
    let below = writers_fit header.version in
    let few = right.few_writers in
    let within = and_from _ _ (le-leb 1 header.writers right.some_writer) (le-leb header.writers (most_writers header.version) few) in
    (codes "NLOG", _, _, is ∙ sym (append-nil (header_bytes header)) ∙ header_nested header [], (refl, refl), (header.version, _, _, refl, refl, (right.version_known, (header.writers, _, _, refl, (omega (arith, below, few), refl), (within, (header.clock.tick, _, _, refl, (right.tick_fits, refl), (header.clock.nanos, _, _, refl, (right.nanos_fits, refl), (header.clock.rate, _, [], refl, (right.rate_fits, refl), (le-leb 1 header.clock.rate right.rate, (refl, refl)))))))))))

pub steady_header : IsSteady causes.Cut header_at
steady_header = header_format.steady

pub header_again : (header : Header) (rest : List ℕ) → IsHeader header → header_at (header_bytes header ++ rest) ≡ Ok (header, rest)
header_again header rest right = header_format.again header (header_bytes header) rest (right, refl)

-- a header's spelling determines it
pub one_header : (a b : Header) (rest more : List ℕ) → IsHeader a → IsHeader b → header_bytes a ++ rest ≡ header_bytes b ++ more → (a ≡ b) × (rest ≡ more)
one_header a b rest more p q e = one_reading header_format a b (header_bytes a) (header_bytes b) rest more (p, refl) (q, refl) e

-- the header, and the bytes behind it
pub record IsHeaderRead (bytes : List ℕ) (header : Header) (rest : List ℕ) : Type 0 where
  pub right : IsHeader header
  pub joined : bytes ≡ header_bytes header ++ rest

-- a header that is read is right
pub header_taken : (bytes : List ℕ) (header : Header) (rest : List ℕ) → AreBytes bytes → header_at bytes ≡ Ok (header, rest) → IsHeaderRead bytes header rest
header_taken bytes header rest small e =
    let (front, joined, (right, is)) = header_format.taken bytes header rest small e in
    record { right = right; joined = joined ∙ ap (λ (b : List ℕ). b ++ rest) is }

pub version_again : (version : ℕ) (rest : List ℕ) → is_known version ≡ true → header_version_at (version ∷ rest) ≡ header_writers_at version rest
version_again version rest known = let first : ℕ × List ℕ = (version, rest) in ap (λ (t : Bool). provided t causes.BadVersion first >>= (λ known. header_writers_at known.0 known.1)) known

pub byte_taken : (bytes rest : List ℕ) (byte : ℕ) → first_byte causes.Cut bytes ≡ Ok (byte, rest) → bytes ≡ byte ∷ rest
byte_taken [] rest byte e = absurd cc
byte_taken (b ∷ bytes) rest byte e =
    let same : (b, bytes) ≡ (byte, rest) = (given true causes.Cut (b, bytes) (byte, rest) e).1 in
    λ t. (ap (λ (p : ℕ × List ℕ). p.0) same) t ∷ (ap (λ (p : ℕ × List ℕ). p.1) same) t

-- ---- fragments

pub new_by_test : (defined : List Message) (message : Message) → ¬ (HasMessage defined message) → list_any (is_same message) defined ≡ false
new_by_test defined message new = false_from_ne_true (list_any (is_same message) defined) (λ e. new (there_from_test defined message e))

-- an entry of a message that isn't one of these
abbrev SpellNew : List Message → Message → List ℕ → Type 0
SpellNew defined message front = SpellsEntry front message × (not (list_any (is_same message) defined) ≡ true)

message_format : (defined : List Message) → IsFormat causes.Cut (SpellNew defined) (new_message_at defined)
message_format defined = checked_format (λ message. not (list_any (is_same message) defined)) causes.BadEntry (caused_format entry_cause entry_format)

new_spelled : (before messages : List Message) (front : List ℕ) → AreDistinct (before ++ messages) → SpellsEntries messages front → SpellTimes SpellNew before messages front
new_spelled before [] front distinct none = none
new_spelled before (message ∷ messages) front distinct (first, back, joined, spelled, behind) =
    let new = not_from_false (list_any (is_same message) before) (new_by_test before message (is_new before messages message distinct)) in
    (first, back, joined, (spelled, new), new_spelled (before ++ message ∷ []) messages back (subst AreDistinct (sym (append_assoc before (message ∷ []) messages)) distinct) behind)

all_new : (before messages : List Message) (front : List ℕ) → AreDistinct before → SpellTimes SpellNew before messages front → SpellsEntries messages front × AreDistinct (before ++ messages)
all_new before [] front distinct none = (none, subst AreDistinct (sym (append-nil before)) distinct)
all_new before (message ∷ messages) front distinct (first, back, joined, (spelled, new), behind) =
    let more = still_distinct before message distinct (none_from_test before message (not-true (list_any (is_same message) before) new)) in
    let others = all_new (before ++ message ∷ []) messages back more behind in
    ((first, back, joined, spelled, others.0), subst AreDistinct (append_assoc before (message ∷ []) messages) others.1)

-- ---- extents and close marks

-- a writer that may still write
abbrev SpellWriter : Header → List Block → ℕ → List ℕ → Type 0
SpellWriter header before writer front = (writer < 256 ^ writer_len header.version) × (front ≡ writer_bytes header.version writer) × MayStillWrite header before writer

writer_format : (header : Header) (before : List Block) → IsFormat causes.Cut (SpellWriter header before) (open_writer_at header before)
writer_format header before =
    respelled (tested_then (λ writer. nat_lt writer header.writers) causes.UnknownWriter (number_format (writer_len header.version) causes.Cut) (λ writer known.
    passed_format (not (list_any (closes writer) before)) causes.AfterClose writer))
    (λ writer front are (found, a, b, ab, (fits, spelled), (known, ((open_still, same), none))).
    subst (λ (w : ℕ). SpellWriter header before w front) same (
      fits,
      ab ∙ (λ t. spelled t ++ none t) ∙ append-nil (writer_bytes header.version found),
      record { known = ltb-true found header.writers known; unclosed = λ closed. true≢false (sym closed ∙ not-true (list_any (closes found) before) open_still) },
    ))
    (λ writer front (fits, is, right).
    let unclosed = not_from_false (list_any (closes writer) before) (false_from_ne_true (list_any (closes writer) before) right.unclosed) in
    (writer, front, [], sym (append-nil front), (fits, is), (lt-ltb writer header.writers right.known, ((unclosed, refl), refl))))

abbrev is_length : Header → ℕ → Bool
is_length header len = nat_le 1 len && nat_le len (most_body header.version)

-- a body with its length in front
abbrev SpellBody : List Message → Header → ℕ → List Call → List ℕ → Type 0
SpellBody messages header last records front =
    (body : List ℕ) × (front ≡ le_bytes 4 (length body) ++ body) × (1 ≤ length body) × (length body ≤ most_body header.version) × IsBody messages header.clock.tick last records body

body_format : (messages : List Message) (header : Header) (last : ℕ) → IsFormat causes.Cut (SpellBody messages header last) (long_body_at messages header last)
body_format messages header last =
    respelled (tested_then (is_length header) causes.BadLength (number_format 4 causes.Cut) (λ len within.
    judged_format (λ body. caused_by causes.Body (body_at messages header.clock.tick last body)) (many_format len causes.Cut)))
    (λ records front are (len, a, b, ab, (fits, len_is), (within, (body, (long, same), judged))).
    let both = and_parts (nat_le 1 len) (nat_le len (most_body header.version)) within in
    let some = leb-true 1 len both.0 in
    let short = leb-true len (most_body header.version) both.1 in
    let small : AreBytes body = subst AreBytes same (back_bytes front a b ab are) in
    let is = body_taken messages header.clock.tick last records body small (uncaused causes.Body (body_at messages header.clock.tick last body) records judged) in
    (body, ab ∙ (λ t. (len_is ∙ ap (le_bytes 4) (sym long)) t ++ same t), omega (arith, long, some), omega (arith, long, short), is))
    (λ records front (body, joined, some, short, is).
    let below = bodies_fit header.version in
    let within = and_from _ _ (le-leb 1 (length body) some) (le-leb (length body) (most_body header.version) short) in
    (length body, _, _, joined, (omega (arith, short, below), refl), (within, (body, (refl, refl), ap (caused_by causes.Body) (body_again messages header.clock.tick last records body is)))))

-- ---- clocks

-- a clock that may follow the blocks
abbrev SpellClock : Header → List Block → Clock → List ℕ → Type 0
SpellClock header before clock front =
    (front ≡ le_bytes 8 clock.tick ++ (le_bytes 8 clock.nanos ++ le_bytes 8 clock.rate)) × ContinuesClocks header before clock × (clock.tick < 2 ^ 64) × (clock.nanos < 2 ^ 64) × (clock.rate < 2 ^ 64)

abbrev clock_from : ℕ → ℕ → ℕ → Clock
clock_from tick nanos rate = record { tick = tick; nanos = nanos; rate = rate }

clock_format : (header : Header) (before : List Block) → IsFormat causes.Cut (SpellClock header before) (next_clock_at header before)
clock_format header before =
    respelled (chosen_format (nat_lt (length (clocks_of header before)) MAX_CLOCKS)
    (then_format (tested_then (λ tick. nat_lt (last_tick (clocks_of header before)) tick) causes.ClockOrder (number_format 8 causes.Cut) (λ tick rising. passed_format (are_early tick (all_records before)) causes.ClockLate tick))
    (λ tick. then_format (number_format 8 causes.Cut) (λ nanos. tested_then (nat_le 1) causes.BadRate (number_format 8 causes.Cut) (λ rate ticks. done_format (clock_from tick nanos rate)))))
    (broken_format causes.ClockCount))
    (λ clock front are which. elim which [
      | inl (room, (tick, a, b, ab, (found, c, d, cd, (tick_fits, tick_is), (rising, ((early, same), none))), (nanos, e, f, ef, (nanos_fits, nanos_is), (rate, g, h, gh, (rate_fits, rate_is), (ticks, (made, nothing)))))) ↦
          let is : clock_from found nanos rate ≡ clock = ap (λ (n : ℕ). clock_from n nanos rate) same ∙ made in
          let first = cd ∙ (λ t. tick_is t ++ none t) ∙ append-nil (le_bytes 8 found) in
          let last = gh ∙ (λ t. rate_is t ++ nothing t) ∙ append-nil (le_bytes 8 rate) in
          subst (λ (k : Clock). SpellClock header before k front) is (
            ab ∙ (λ t. first t ++ (ef ∙ (λ u. nanos_is u ++ last u)) t),
            record {
              few = ltb-true (length (clocks_of header before)) MAX_CLOCKS room;
              rising = ltb-true (last_tick (clocks_of header before)) found rising;
              early = early_from_test found (all_records before) early;
              rate = leb-true 1 rate ticks;
            },
            tick_fits,
            nanos_fits,
            rate_fits,
          )
      | inr (other, none) ↦ absurd none
    ])
    (λ clock front (is, right, tick_fits, nanos_fits, rate_fits).
    let tick : List ℕ = le_bytes 8 clock.tick in
    let rate : List ℕ = le_bytes 8 clock.rate in
    inl (lt-ltb (length (clocks_of header before)) MAX_CLOCKS right.few, (clock.tick, tick, _, is, (clock.tick, tick, [], sym (append-nil tick), (tick_fits, refl), (lt-ltb (last_tick (clocks_of header before)) clock.tick right.rising, ((early_test clock.tick (all_records before) right.early, refl), refl))), (clock.nanos, le_bytes 8 clock.nanos, rate, refl, (nanos_fits, refl), (clock.rate, rate, [], sym (append-nil rate), (rate_fits, refl), (le-leb 1 clock.rate right.rate, (refl, refl)))))))

-- a clock that is read may follow the blocks
pub clock_taken : (header : Header) (before : List Block) (bytes : List ℕ) (clock : Clock) (rest : List ℕ) → AreBytes bytes → next_clock_at header before bytes ≡ Ok (clock, rest) → ContinuesClocks header before clock
clock_taken header before bytes clock rest small e =
    let (front, joined, (is, right, tick_fits, nanos_fits, rate_fits)) = (clock_format header before).taken bytes clock rest small e in
    right

-- ---- blocks

-- the bytes spell the block, which keeps the rules; of messages it is said that each is new behind those before it
abbrev SpellRight : Header → List Block → Block → List ℕ → Type 0
SpellRight header before (Fragment first messages) front =
    (entries : List ℕ) × (front ≡ fragment_head_bytes first (length messages) ++ entries) × SpellTimes SpellNew (messages_of before) messages entries × (first ≡ length (messages_of before)) × (first < 2 ^ 32) × (is_count (messages_of before) (length messages) ≡ true)
SpellRight header before (Extent writer records) front = SpellsBlock (messages_of before) header (Extent writer records) front × IsRightAfter header before (Extent writer records)
SpellRight header before (NewClock clock) front = SpellsBlock (messages_of before) header (NewClock clock) front × IsRightAfter header before (NewClock clock)
SpellRight header before (Close writer) front = SpellsBlock (messages_of before) header (Close writer) front × IsRightAfter header before (Close writer)

block_format : (header : Header) (before : List Block) → IsFormat causes.Cut (SpellRight header before) (block_at header before)
block_format header before =
    respelled (then_format (byte_format causes.Cut) (λ tag. chosen_format (nat_eq tag 1) (tested_then (λ first. nat_eq first (length (messages_of before))) causes.FragmentOrder (number_format 4 causes.Cut) (λ first next.
    tested_then (is_count (messages_of before)) causes.BadLength (number_format 2 causes.Cut) (λ count few. made_format (Fragment first) (times_format message_format (messages_of before) count))))
    (chosen_format (nat_eq tag 2) (then_format (writer_format header before) (λ writer. made_format (Extent writer) (body_format (messages_of before) header (last_stamp header.clock.tick (records_of writer before)))))
    (chosen_format (nat_eq tag 3 && has_clocks header.version) (made_format NewClock (clock_format header before))
    (chosen_format (nat_eq tag 4) (made_format Close (writer_format header before)) (broken_format causes.BadBlock))))))
    (λ block front are (tag, a, b, ab, tag_is, which). elim which [
      | inl (one, (first, c, d, cd, (fits, first_is), (next, (count, e, f, ef, (small, count_is), (few, (messages, (many, new), made)))))) ↦
          let head : a ≡ 1 ∷ [] = tag_is ∙ ap (λ (n : ℕ). n ∷ []) (eqb-true tag 1 one) in
          subst (λ (bl : Block). SpellRight header before bl front) made (
            f,
            ab ∙ (λ t. head t ++ (cd ∙ (λ u. first_is u ++ (ef ∙ (λ v. (count_is ∙ ap (le_bytes 2) (sym many)) v ++ f)) u)) t) ∙ sym (append_assoc (1 ∷ le_bytes 4 first) (le_bytes 2 (length messages)) f),
            new,
            eqb-true first (length (messages_of before)) next,
            fits,
            ap (is_count (messages_of before)) many ∙ few,
          )
      | inr (other, inl (two, (writer, c, d, cd, (fits, writer_is, right), (records, (body, body_is, some, short, is), made)))) ↦
          let head : a ≡ 2 ∷ [] = tag_is ∙ ap (λ (n : ℕ). n ∷ []) (eqb-true tag 2 two) in
          let joined = ab ∙ (λ t. head t ++ (cd ∙ (λ u. writer_is u ++ body_is u)) t) ∙ sym (append_assoc (2 ∷ writer_bytes header.version writer) (le_bytes 4 (length body)) body) in
          subst (λ (bl : Block). SpellRight header before bl front) made (
            record { body = body; some = some; short = short; writer_fits = fits; body_spelled = is.spelled; joined = joined },
            record { writer_open = right; right = is.right; rising = is.rising },
          )
      | inr (other, inr (another, inl (three, (clock, (clock_is, right, tick_fits, nanos_fits, rate_fits), made)))) ↦
          let both = and_parts (nat_eq tag 3) (has_clocks header.version) three in
          let head : a ≡ 3 ∷ [] = tag_is ∙ ap (λ (n : ℕ). n ∷ []) (eqb-true tag 3 both.0) in
          let joined = ab ∙ (λ t. head t ++ clock_is t) ∙ sym (append_assoc (3 ∷ le_bytes 8 clock.tick) (le_bytes 8 clock.nanos) (le_bytes 8 clock.rate)) in
          subst (λ (bl : Block). SpellRight header before bl front) made (record { version_has = both.1; tick_fits = tick_fits; nanos_fits = nanos_fits; rate_fits = rate_fits; joined = joined }, right)
      | inr (other, inr (another, inr (third, inl (four, (writer, (fits, writer_is, right), made))))) ↦
          let head : a ≡ 4 ∷ [] = tag_is ∙ ap (λ (n : ℕ). n ∷ []) (eqb-true tag 4 four) in
          subst (λ (bl : Block). SpellRight header before bl front) made (record { writer_fits = fits; joined = ab ∙ (λ t. head t ++ writer_is t) }, right)
      | inr (other, inr (another, inr (third, inr (last, none)))) ↦ absurd none
    ])
    (elim [
      | Fragment first messages ↦ λ front (entries, joined, new, next, fits, few).
          let within = and_parts (nat_le 1 (length messages)) (nat_le (length messages) MAX_FRAGMENT_MESSAGES && nat_le (length (messages_of before) + length messages) MAX_MESSAGES) few in
          let most = leb-true (length messages) 16 (and_parts (nat_le (length messages) MAX_FRAGMENT_MESSAGES) (nat_le (length (messages_of before) + length messages) MAX_MESSAGES) within.1).0 in
          let parts = joined ∙ append_assoc (1 ∷ le_bytes 4 first) (le_bytes 2 (length messages)) entries in
          (1, 1 ∷ [], _, parts, refl, inl (refl, (first, le_bytes 4 first, _, refl, (fits, refl), (eq-eqb first (length (messages_of before)) next, (length messages, _, entries, refl, (omega (arith, most), refl), (few, (messages, (refl, new), refl)))))))
      | Extent writer records ↦ λ front (spelled, right).
          let body : List ℕ = spelled.body in
          let parts = spelled.joined ∙ append_assoc (2 ∷ writer_bytes header.version writer) (le_bytes 4 (length body)) body in
          let is : IsBody (messages_of before) header.clock.tick (last_stamp header.clock.tick (records_of writer before)) records body = record { spelled = spelled.body_spelled; right = right.right; rising = right.rising } in
          (2, 2 ∷ [], _, parts, refl, inr (refl, inl (refl, (writer, writer_bytes header.version writer, _, refl, (spelled.writer_fits, refl, right.writer_open), (records, (body, refl, spelled.some, spelled.short, is), refl)))))
      | NewClock clock ↦ λ front (spelled, right).
          let parts = spelled.joined ∙ append_assoc (3 ∷ le_bytes 8 clock.tick) (le_bytes 8 clock.nanos) (le_bytes 8 clock.rate) in
          (3, 3 ∷ [], _, parts, refl, inr (refl, inr (refl, inl (spelled.version_has, (clock, (refl, right, spelled.tick_fits, spelled.nanos_fits, spelled.rate_fits), refl)))))
      | Close writer ↦ λ front (spelled, right). (4, 4 ∷ [], _, spelled.joined, refl, inr (refl, inr (refl, inr (refl, inl (refl, (writer, (spelled.writer_fits, refl, right), refl))))))
    ])

pub steady_block : (header : Header) (before : List Block) → IsSteady causes.Cut (block_at header before)
steady_block header before = (block_format header before).steady

right_spelled : (header : Header) (before : List Block) (block : Block) (front : List ℕ) → IsRightAfter header before block → SpellsBlock (messages_of before) header block front → SpellRight header before block front
right_spelled header before (Fragment first messages) front right spelled =
    let all : length (messages_of before ++ messages) ≤ 65536 = right.few in
    let room = le-leb (length (messages_of before) + length messages) 65536 (omega (arith, all, length-append (messages_of before) messages)) in
    let few = and_from _ _ (le-leb 1 (length messages) spelled.some) (and_from _ _ (le-leb (length messages) 16 spelled.few) room) in
    (spelled.entries, spelled.joined, new_spelled (messages_of before) messages spelled.entries right.distinct spelled.entries_spelled, right.next, spelled.first_fits, few)
right_spelled header before (Extent writer records) front right spelled = (spelled, right)
right_spelled header before (NewClock clock) front right spelled = (spelled, right)
right_spelled header before (Close writer) front right spelled = (spelled, right)

-- a right block is read as what it is, whatever stands behind it
pub block_again : (header : Header) (before : List Block) (block : Block) (front rest : List ℕ) → IsRightAfter header before block → SpellsBlock (messages_of before) header block front → block_at header before (front ++ rest) ≡ Ok (block, rest)
block_again header before block front rest right spelled = (block_format header before).again block front rest (right_spelled header before block front right spelled)

-- two right blocks with which the same bytes begin are one
pub one_block : (header : Header) (before : List Block) (a b : Block) (front other rest more : List ℕ) → IsRightAfter header before a → IsRightAfter header before b → SpellsBlock (messages_of before) header a front → SpellsBlock (messages_of before) header b other → front ++ rest ≡ other ++ more → (a ≡ b) × (front ≡ other)
one_block header before a b front other rest more a_right b_right p q e =
    one_spelling (block_format header before) a b front other rest more (right_spelled header before a front a_right p) (right_spelled header before b other b_right q) e

-- the spelling of a block that was read, and that it keeps the rules
pub record IsReadRight (header : Header) (before : List Block) (bytes : List ℕ) (block : Block) (rest : List ℕ) : Type 0 where
  pub front : List ℕ
  pub joined : bytes ≡ front ++ rest
  pub spelled : SpellsBlock (messages_of before) header block front
  pub right : IsRightAfter header before block

-- a block that is read is right
pub block_taken : (header : Header) (before : List Block) (bytes : List ℕ) (block : Block) (rest : List ℕ) → AreDistinct (messages_of before) → AreBytes bytes → block_at header before bytes ≡ Ok (block, rest) → IsReadRight header before bytes block rest
block_taken header before bytes block rest distinct small e =
    let (front, joined, there) = (block_format header before).taken bytes block rest small e in
    let both = keeps block front there in
    record { front = front; joined = joined; spelled = both.0; right = both.1 }
  where
    keeps : (block : Block) (front : List ℕ) → SpellRight header before block front → SpellsBlock (messages_of before) header block front × IsRightAfter header before block
    keeps (Fragment first messages) front (entries, joined, new, next, fits, few) =
        let all = all_new (messages_of before) messages entries distinct new in
        let within = and_parts (nat_le 1 (length messages)) (nat_le (length messages) MAX_FRAGMENT_MESSAGES && nat_le (length (messages_of before) + length messages) MAX_MESSAGES) few in
        let limits = and_parts (nat_le (length messages) MAX_FRAGMENT_MESSAGES) (nat_le (length (messages_of before) + length messages) MAX_MESSAGES) within.1 in
        let room = leb-true (length (messages_of before) + length messages) 65536 limits.1 in (
          record { entries = entries; some = leb-true 1 (length messages) within.0; few = leb-true (length messages) 16 limits.0; first_fits = fits; entries_spelled = all.0; joined = joined },
          record { next = next; distinct = all.1; few = omega (arith, room, length-append (messages_of before) messages) },
        )
    keeps (Extent writer records) front both = both
    keeps (NewClock clock) front both = both
    keeps (Close writer) front both = both
