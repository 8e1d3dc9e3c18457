-- How long the log of a generated trace is at most, in any version.
use Rattle.std.proofs.Common.{◌≡◌, ℕ, zero, suc, ◌+◌, ◌*◌, ◌<◌, ◌≤◌, Bool, true, false, ◌||◌, cond, eqb, List, [], ◌∷◌, ◌++◌, map, length, get_or, refl, sym, ap, subst, ◌∙◌, inl, inr, arith}
use Rattle.std.specs.Prelude.{sum_by, pos, ◌-◌}
use Rattle.std.specs.Hash.{le_bytes}
use Rattle.std.specs.List.{flat_map, filter, list_any, range_with_len}
use Rattle.std.proofs.lemmas.Bool.{true≢false}
use Rattle.std.proofs.lemmas.Bool.Decides.{eqb_tells}
use Rattle.std.proofs.lemmas.List.{length-append, length-map}
use Rattle.std.proofs.lemmas.List.Folds.{list_any-append}
use Rattle.std.proofs.lemmas.List.FromFn.{length-range_with_len, length-map-range_with_len}
use Rattle.std.proofs.lemmas.List.Sums.{sum_by-cons, sum_by-append, sum_by-le}
use Rattle.printf_grammar.specs.declared.arg_type.ArgType.{ArgType}
use Rattle.printf_grammar.specs.declared.argument.Value.{Value}
use Rattle.printf_grammar.specs.Types.{text_of}
use Rattle.nibble_pack.specs.Packing.{unsigned}
use Rattle.nibble_pack.proofs.lemmas.PackingLaws.{Packed-short}
use Rattle.log_dictionary.specs.declared.message.Message.{Message}
use Rattle.log_dictionary.specs.declared.clock.Clock.{Clock}
use Rattle.log_dictionary.specs.BinaryEntries.{text_bytes, SpellsEntry}
use Rattle.arg_records.specs.declared.call.Call.{Call}
use Rattle.buffer_extent.specs.Records.{PackedNumber, kind_of, packed_value, PacksArguments, codes_of, packed_bytes, code_bytes}
use Rattle.buffer_extent.specs.Bodies.{SpellsRecord, SpellsRecords}
use Rattle.buffer_extent.proofs.lemmas.Codes.{length-code_bytes}
use Rattle.checkpoint_io.specs.declared.header.Header.{Header}
use Rattle.checkpoint_io.specs.Versions.{writer_len}
use Rattle.checkpoint_io.specs.Blocks.{Block, Fragment, Extent, NewClock, Close, block_messages, messages_of, block_clocks, clocks_in, clocks_of, clock_bytes, header_bytes, fragment_head_bytes, SpellsEntries, SpellsFragment, SpellsExtent, SpellsBlock, SpellsBlocks}
use Rattle.checkpoint_io.specs.Validity.{block_records, records_of, closes, IsClosed, IsRightAfter, AreRightAfter}
use Rattle.checkpoint_io.specs.Logs.{LogOf}
use Rattle.checkpoint_io.proofs.lemmas.BlockLaws.{le_length, length-header_bytes}
use Rattle.checkpoint_io.proofs.lemmas.LimitLaws.{extent_len, extent_has_records}
use Rattle.checkpoint_io.proofs.lemmas.VersionLaws.{few_len}
use Rattle.trace_text.specs.Lines.{WriterCall}
use Rattle.trace_text.specs.Traces.{calls_by}
use Rattle.trace_generator.specs.Generated.{draw, state_after, generated_messages, generated_clock, drawn_arguments, drawn_call, generator_at, generated_call, generated_calls, Generated}

-- ---- sums

module _ {X : Type 0} where
  -- a sum of sums
  sum_of_both : (f g : X → ℕ) (xs : List X) → sum_by (λ x. f x + g x) xs ≡ sum_by f xs + sum_by g xs
  sum_of_both f g [] = refl
  sum_of_both f g (x ∷ xs) =
      omega (arith, sum_by-cons (λ x. f x + g x) x xs, sum_by-cons f x xs, sum_by-cons g x xs, sum_of_both f g xs)

  -- no greater, where no number of it is
  sum_grows : (f g : X → ℕ) → ((x : X) → f x ≤ g x) → (xs : List X) → sum_by f xs ≤ sum_by g xs
  sum_grows f g each [] = omega arith
  sum_grows f g each (x ∷ xs) =
      omega (arith, sum_by-cons f x xs, sum_by-cons g x xs, each x, sum_grows f g each xs)

  -- a sum over what a function gives
  sum_of_mapped : {Y : Type 0} (f : X → ℕ) (g : Y → X) (ys : List Y) → sum_by f (map g ys) ≡ sum_by (λ y. f (g y)) ys
  sum_of_mapped f g [] = refl
  sum_of_mapped f g (y ∷ ys) =
      omega (arith, sum_by-cons f (g y) (map g ys), sum_by-cons (λ y. f (g y)) y ys, sum_of_mapped f g ys)

  -- at most so much each
  sum_within : (f : X → ℕ) (most : ℕ) → ((x : X) → f x ≤ most) → (xs : List X) → sum_by f xs ≤ length xs * most
  sum_within f most each xs = sum_by-le f most xs (λ k d within. each (get_or xs k d))

-- a number at one place, and 0 at the others
abbrev only : ℕ → ℕ → ℕ → ℕ
only place n k = cond (eqb place k) n 0

-- the sum over places behind it is 0
only_behind : (place n start count : ℕ) → place < start → sum_by (only place n) (range_with_len start count) ≡ 0
only_behind place n start zero below = refl
only_behind place n start (suc count) below =
    let rest = only_behind place n (start + 1) count (omega (arith, below)) in
    let cons = sum_by-cons (only place n) start (range_with_len (start + 1) count) in
    elim (eqb_tells place start) [
      | inl is ↦ absurd (omega (arith, is.1, below))
      | inr differs ↦ omega (arith, cons, ap (λ (b : Bool). cond b n 0) differs.0, rest)
    ]

-- the sum over some places is at most the number
only_once : (place n start count : ℕ) → sum_by (only place n) (range_with_len start count) ≤ n
only_once place n start zero = omega arith
only_once place n start (suc count) =
    let cons = sum_by-cons (only place n) start (range_with_len (start + 1) count) in
    elim (eqb_tells place start) [
      | inl is ↦ omega (arith, cons, ap (λ (b : Bool). cond b n 0) is.0, only_behind place n (start + 1) count (omega (arith, is.1)))
      | inr differs ↦ omega (arith, cons, ap (λ (b : Bool). cond b n 0) differs.0, only_once place n (start + 1) count)
    ]

-- and no less, where the place is one of them
only_there : (place n start count : ℕ) → start ≤ place → place < start + count → n ≤ sum_by (only place n) (range_with_len start count)
only_there place n start zero from to = absurd (omega (arith, from, to))
only_there place n start (suc count) from to =
    let cons = sum_by-cons (only place n) start (range_with_len (start + 1) count) in
    elim (eqb_tells place start) [
      | inl is ↦ omega (arith, cons, ap (λ (b : Bool). cond b n 0) is.0)
      | inr differs ↦ omega (arith, cons, only_there place n (start + 1) count (omega (arith, differs.1, from)) (omega (arith, to)))
    ]

-- ---- records

-- as many bytes as a call's record has at most, with the head of an extent
abbrev call_size : Call → ℕ
call_size call = 24 + 9 * length call.args + length (flat_map text_of call.args)

-- there are as many numbers as arguments, of 8 bytes at most each
numbers_short : (types : List ArgType) (args : List Value) (numbers : List PackedNumber) → PacksArguments types args numbers → (length numbers ≡ length args) × (length (packed_bytes numbers) ≤ 8 * length args)
numbers_short [] [] [] packed = (refl, omega arith)
numbers_short (type ∷ types) (arg ∷ args) (number ∷ numbers) packed =
    let rest = numbers_short types args numbers packed.1 in
    let here = Packed-short (kind_of type) (packed_value arg) number.code number.bytes packed.0 in
    (ap suc rest.0, omega (arith, length-append number.bytes (packed_bytes numbers), here, rest.1))
numbers_short _ _ _ packed = absurd packed

-- a record leaves room for the head
record_short : (messages : List Message) (before : ℕ) (entry : Call) (bytes : List ℕ) → SpellsRecord messages before entry bytes → length bytes + 7 ≤ call_size entry
record_short messages before entry bytes spells =
    let s = spells.spelled in
    let head = s.id_number.bytes ++ s.step_number.bytes in
    let codes = code_bytes (codes_of s.numbers) in
    let numbers = packed_bytes s.numbers in
    let texts = flat_map text_of entry.args in
    let short = numbers_short _ entry.args s.numbers s.packed in
    omega (
      arith,
      ap length s.joined,
      Packed-short unsigned (pos entry.id) s.id_number.code s.id_number.bytes s.id_packed,
      Packed-short unsigned (pos (entry.stamp - before)) s.step_number.code s.step_number.bytes s.step_packed,
      length-append (head ++ codes ++ numbers) texts,
      length-append (head ++ codes) numbers,
      length-append head codes,
      length-append s.id_number.bytes s.step_number.bytes,
      length-code_bytes (codes_of s.numbers),
      length-map s.numbers (λ number. number.code),
      short.0,
      short.1,
    )

-- and so do records, each for one
records_short : (messages : List Message) (before : ℕ) (records : List Call) (body : List ℕ) → SpellsRecords messages before records body → length body + 7 * length records ≤ sum_by call_size records
records_short messages before [] body spells = omega (arith, ap length spells)
records_short messages before (entry ∷ records) body (front, back, joined, here, behind) =
    omega (arith, ap length joined, length-append front back, record_short messages before entry front here, records_short messages entry.stamp records back behind, sum_by-cons call_size entry records)

-- an extent has a record for its head
extent_size : (messages : List Message) (header : Header) (writer : ℕ) (records : List Call) (bytes : List ℕ) → SpellsExtent messages header writer records bytes → length bytes ≤ sum_by call_size records
extent_size messages header writer [] bytes s = absurd (extent_has_records messages header writer bytes s)
extent_size messages header writer (entry ∷ records) bytes s =
    omega (arith, extent_len messages header writer (entry ∷ records) bytes s, few_len header.version, records_short messages header.clock.tick (entry ∷ records) s.body s.body_spelled)

-- ---- messages

-- as many bytes as a message's entry has, with the head of a fragment
abbrev message_size : Message → ℕ
message_size message = 16 + length message.file + length message.format.bytes

-- a text stands behind two bytes
text_length : (text : List ℕ) → length (text_bytes text) ≡ 2 + length text
text_length text = omega (arith, length-append (le_bytes 2 (length text)) text, le_length 2 (length text))

-- an entry leaves room for the head
entry_size : (message : Message) (bytes : List ℕ) → SpellsEntry bytes message → length bytes + 7 ≡ message_size message
entry_size message bytes spells =
    let file = text_bytes message.file in
    let format = text_bytes message.format.bytes in
    omega (
      arith,
      ap length spells.spelled,
      length-append (le_bytes 4 message.line ++ file) format,
      length-append (le_bytes 4 message.line) file,
      le_length 4 message.line,
      text_length message.file,
      text_length message.format.bytes,
    )

-- and so do records, each for one
entries_size : (messages : List Message) (bytes : List ℕ) → SpellsEntries messages bytes → length bytes + 7 * length messages ≡ sum_by message_size messages
entries_size [] bytes spells = omega (arith, ap length spells)
entries_size (message ∷ messages) bytes (front, back, joined, here, behind) =
    omega (arith, ap length joined, length-append front back, entry_size message front here, entries_size messages back behind, sum_by-cons message_size message messages)

-- a fragment has a message for its head
fragment_size : (first : ℕ) (messages : List Message) (bytes : List ℕ) → SpellsFragment first messages bytes → length bytes ≤ sum_by message_size messages
fragment_size first messages bytes s =
    let count = length messages in
    omega (
      arith,
      ap length s.joined,
      length-append (fragment_head_bytes first count) s.entries,
      length-append (le_bytes 4 first) (le_bytes 2 count),
      le_length 4 first,
      le_length 2 count,
      entries_size messages s.entries s.entries_spelled,
      s.some,
    )

-- ---- close marks

-- the most bytes of a block that is the writer's close mark
abbrev close_size : ℕ → Block → ℕ
close_size writer block = cond (closes writer block) 3 0

-- a close mark has none of the same writer before it
closed_when_open : (header : Header) (before : List Block) (block : Block) (writer : ℕ) → IsRightAfter header before block → closes writer block ≡ true → ¬ (IsClosed writer before)
closed_when_open header before (Fragment first messages) writer right is = absurd (true≢false (sym is))
closed_when_open header before (Extent w records) writer right is = absurd (true≢false (sym is))
closed_when_open header before (NewClock clock) writer right is = absurd (true≢false (sym is))
closed_when_open header before (Close w) writer right is =
    elim (eqb_tells w writer) [
      | inl same ↦ subst (λ (k : ℕ). ¬ (IsClosed k before)) same.1 right.unclosed
      | inr differs ↦ absurd (true≢false (sym is ∙ differs.0))
    ]

-- a mark and those behind it are at most one, and none where one stands before
one_mark : (before here : Bool) (n : ℕ) → (here ≡ true → before ≡ true → ⊥) → n ≤ cond (before || (here || false)) 0 3 → cond here 3 0 + n ≤ cond before 0 3
one_mark true true n once rest = absurd (once refl refl)
one_mark true false n once rest = omega (arith, rest)
one_mark false true n once rest = omega (arith, rest)
one_mark false false n once rest = omega (arith, rest)

-- a writer has one close mark at most, and none where one stands before
closed_once : (header : Header) (before blocks : List Block) (writer : ℕ) → AreRightAfter header before blocks → sum_by (close_size writer) blocks ≤ cond (list_any (closes writer) before) 0 3
closed_once header before [] writer right = omega arith
closed_once header before (block ∷ blocks) writer right =
    let marks = sum_by (close_size writer) blocks in
    let rest : marks ≤ cond (list_any (closes writer) before || (closes writer block || false)) 0 3 =
    subst (λ (b : Bool). marks ≤ cond b 0 3) (list_any-append (closes writer) before (block ∷ []))
    (closed_once header (before ++ block ∷ []) blocks writer right.1) in
    omega (arith, sum_by-cons (close_size writer) block blocks, one_mark (list_any (closes writer) before) (closes writer block) marks (closed_when_open header before block writer right.0) rest)

-- ---- blocks

-- the most bytes of a block that is of the writer
abbrev writer_size : Block → ℕ → ℕ
writer_size block writer = sum_by call_size (block_records writer block) + close_size writer block

-- the most bytes of those among blocks that are of the writer
abbrev written : List Block → ℕ → ℕ
written blocks writer = sum_by call_size (records_of writer blocks) + sum_by (close_size writer) blocks

-- an extent is of its writer
extent_is_of : (w writer : ℕ) (records : List Call) → only w (sum_by call_size records) writer ≤ writer_size (Extent w records) writer
extent_is_of w writer records = at_test (eqb w writer)
  where
    at_test : (b : Bool) → cond b (sum_by call_size records) 0 ≤ sum_by call_size (cond b records []) + 0
    at_test true = omega arith
    at_test false = omega arith

-- a clock has 25 bytes
clock_size : (clock : Clock) → length (clock_bytes clock) ≡ 25
clock_size clock =
    omega (arith, length-append (3 ∷ le_bytes 8 clock.tick ++ le_bytes 8 clock.nanos) (le_bytes 8 clock.rate), length-append (3 ∷ le_bytes 8 clock.tick) (le_bytes 8 clock.nanos), le_length 8 clock.tick, le_length 8 clock.nanos, le_length 8 clock.rate)

-- a block has bytes for its messages, for one of the writers, or for a clock
block_short : (header : Header) (before : List Block) (messages : List Message) (block : Block) (bytes : List ℕ) → SpellsBlock messages header block bytes → IsRightAfter header before block → length bytes ≤ sum_by message_size (block_messages block) + sum_by (writer_size block) (range_with_len 0 header.writers) + length (block_clocks block) * 25
block_short header before messages (Fragment first added) bytes spells right =
    omega (arith, fragment_size first added bytes spells)
block_short header before messages (Extent writer records) bytes spells right =
    let n = sum_by call_size records in
    omega (
      arith,
      extent_size messages header writer records bytes spells,
      only_there writer n 0 header.writers (omega arith) (omega (arith, right.writer_open.known)),
      sum_grows (only writer n) (writer_size (Extent writer records)) (λ w. extent_is_of writer w records) (range_with_len 0 header.writers),
    )
block_short header before messages (NewClock clock) bytes spells right = omega (arith, ap length spells.joined, clock_size clock)
block_short header before messages (Close writer) bytes spells right =
    omega (
      arith,
      ap length spells.joined,
      le_length (writer_len header.version) writer,
      few_len header.version,
      only_there writer 3 0 header.writers (omega arith) (omega (arith, right.known)),
      sum_grows (only writer 3) (writer_size (Close writer)) (λ w. omega arith) (range_with_len 0 header.writers),
    )

-- a block in front is of the writer, or not
written_more : (block : Block) (blocks : List Block) (writer : ℕ) → writer_size block writer + written blocks writer ≤ written (block ∷ blocks) writer
written_more block blocks writer =
    omega (arith, sum_by-append call_size (block_records writer block) (records_of writer blocks), sum_by-cons (close_size writer) block blocks)

-- blocks have bytes for their messages, for the writers and for the clocks
blocks_short : (header : Header) (before blocks : List Block) (bytes : List ℕ) → SpellsBlocks header before blocks bytes → AreRightAfter header before blocks → length bytes ≤ sum_by message_size (messages_of blocks) + sum_by (written blocks) (range_with_len 0 header.writers) + length (clocks_in blocks) * 25
blocks_short header before [] bytes spells right = omega (arith, ap length spells)
blocks_short header before (block ∷ blocks) bytes (front, back, joined, here, behind) right =
    let writers = range_with_len 0 header.writers in
    omega (
      arith,
      ap length joined,
      length-append front back,
      block_short header before (messages_of before) block front here right.0,
      blocks_short header (before ++ block ∷ []) blocks back behind right.1,
      sum_by-append message_size (block_messages block) (messages_of blocks),
      length-append (block_clocks block) (clocks_in blocks),
      sum_of_both (writer_size block) (written blocks) writers,
      sum_grows (λ w. writer_size block w + written blocks w) (written (block ∷ blocks)) (written_more block blocks) writers,
    )

-- ---- logs

-- a log has bytes for its header, the messages, the calls, the clocks, and a close mark for each writer
log_short : (bytes : List ℕ) (taken : List (List Call)) (dictionary : List Message) (version : ℕ) (clocks : List Clock) (batch : ℕ) → LogOf bytes taken dictionary version clocks batch → length bytes ≤ 31 + sum_by message_size dictionary + sum_by (sum_by call_size) taken + length taken * 3 + length clocks * 25
log_short bytes taken dictionary version clocks batch log =
    let header = log.header in
    let blocks = log.blocks in
    let writers = range_with_len 0 header.writers in
    let own : ℕ → ℕ = λ writer. sum_by call_size (records_of writer blocks) in
    let marks : ℕ → ℕ = λ writer. sum_by (close_size writer) blocks in
    let calls : sum_by (sum_by call_size) taken ≡ sum_by own writers =
    ap (sum_by (sum_by call_size)) log.records_are
    ∙ sum_of_mapped (sum_by call_size) (λ writer. records_of writer blocks) (range_with_len 0 (length taken))
    ∙ ap (λ (n : ℕ). sum_by own (range_with_len 0 n)) (sym log.writers_are) in
    omega (
      arith,
      ap length log.file.joined,
      length-append (header_bytes header) log.file.block_bytes,
      length-header_bytes header,
      few_len header.version,
      blocks_short header [] blocks log.file.block_bytes log.file.spelled log.valid.blocks_right,
      ap (sum_by message_size) log.messages_are,
      ap length log.clocks_are,
      length-append (clocks_of header blocks) log.unwritten,
      sum_by-append message_size (messages_of blocks) log.undefined,
      sum_of_both own marks writers,
      calls,
      log.writers_are,
      sum_within marks 3 (λ writer. closed_once header [] blocks writer log.valid.blocks_right) writers,
      length-range_with_len 0 header.writers,
    )

-- ---- generated traces

-- a call joins those of its own writer
call_joins : (made : WriterCall) (calls : List WriterCall) (writer : ℕ) → sum_by call_size (calls_by (made ∷ calls) writer) ≤ only made.writer (call_size made.call) writer + sum_by call_size (calls_by calls writer)
call_joins made calls writer = at_test (eqb made.writer writer)
  where
    others : List WriterCall
    others = filter (λ made. eqb made.writer writer) calls

    at_test : (b : Bool) → sum_by call_size (map (λ made. made.call) (cond b (made ∷ others) others)) ≤ cond b (call_size made.call) 0 + sum_by call_size (map (λ made. made.call) others)
    at_test true = omega (arith, sum_by-cons call_size made.call (map (λ made. made.call) others))
    at_test false = omega arith

-- the calls of some writers are no more than all calls
calls_of_writers : (calls : List WriterCall) (count : ℕ) → sum_by (λ writer. sum_by call_size (calls_by calls writer)) (range_with_len 0 count) ≤ sum_by (λ made. call_size made.call) calls
calls_of_writers [] count = omega (arith, sum_within (λ writer. sum_by call_size (calls_by [] writer)) 0 (λ writer. omega arith) (range_with_len 0 count))
calls_of_writers (made ∷ calls) count =
    let writers = range_with_len 0 count in
    let size = call_size made.call in
    let own : ℕ → ℕ = λ writer. sum_by call_size (calls_by calls writer) in
    omega (
      arith,
      sum_by-cons (λ made. call_size made.call) made calls,
      calls_of_writers calls count,
      only_once made.writer size 0 count,
      sum_of_both (only made.writer size) own writers,
      sum_grows (λ w. sum_by call_size (calls_by (made ∷ calls) w)) (λ w. only made.writer size w + own w) (call_joins made calls) writers,
    )

-- a drawn call has two arguments at most, and a text of two bytes
drawn_size : (id stamp state : ℕ) → call_size (record { id = id; stamp = stamp; args = drawn_arguments id state }) ≤ 44
drawn_size zero stamp state = omega arith
drawn_size (suc zero) stamp state = omega arith
drawn_size (suc (suc zero)) stamp state = omega arith
drawn_size (suc (suc (suc id))) stamp state = omega arith

-- so each generated call is short
generated_size : (seed writers k : ℕ) → call_size (generated_call seed writers k).call ≤ 44
generated_size seed writers k =
    let generator = generator_at seed k in
    drawn_size (draw generator.state 4) (drawn_call generator).stamp (state_after 2 generator.state)

-- and all of them
generated_sizes : (seed calls writers : ℕ) → sum_by (sum_by call_size) (Generated seed calls writers).writers ≤ calls * 44
generated_sizes seed calls writers =
    let all = generated_calls seed calls writers in
    let call = generated_call seed writers in
    omega (
      arith,
      sum_of_mapped (sum_by call_size) (calls_by all) (range_with_len 0 writers),
      calls_of_writers all writers,
      sum_of_mapped (λ made. call_size made.call) call (range_with_len 0 calls),
      sum_within (λ k. call_size (call k).call) 44 (generated_size seed writers) (range_with_len 0 calls),
      length-range_with_len 0 calls,
    )

-- the log of a generated trace is within the limit of a log
pub generated_short : (seed calls writers batch : ℕ) (bytes : List ℕ) → calls ≤ 1000000 → writers ≤ 64 → LogOf bytes (Generated seed calls writers).writers generated_messages 1 (generated_clock ∷ []) batch → length bytes ≤ 134217728
generated_short seed calls writers batch bytes few_calls few_writers log =
    omega (
      arith,
      log_short bytes (Generated seed calls writers).writers generated_messages 1 (generated_clock ∷ []) batch log,
      generated_sizes seed calls writers,
      length-map-range_with_len (calls_by (generated_calls seed calls writers)) 0 writers,
      few_calls,
      few_writers,
    )
