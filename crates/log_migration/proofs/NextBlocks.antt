-- The next block of a log, which is put into the new one.
use Rattle.std.proofs.Common.{◌≡◌, ℕ, ◌+◌, ◌<◌, ◌≤◌, ◌^◌, true, List, [], ◌∷◌, ◌++◌, length, take, drop, Result, Ok, Err, refl, ap, sym, subst, ◌∙◌, append_assoc, append-nil, arith}
use Rattle.std.specs.Prelude.{OnOk}
use Rattle.std.proofs.lemmas.List.{length-append, take_at, drop_at}
use Rattle.log_dictionary.specs.declared.clock.Clock.{Clock}
use Rattle.log_dictionary.specs.declared.message.Message.{Message}
use Rattle.arg_records.specs.declared.call.Call.{Call}
use Rattle.buffer_extent.specs.Bodies.{SpellsRecords, IsBody}
use Rattle.checkpoint_io.specs.declared.block.Block.{Block as ReadBlock}
use Rattle.checkpoint_io.specs.declared.block.Block.TheVariants as read
use Rattle.checkpoint_io.specs.declared.header.Header.{Header}
use Rattle.checkpoint_io.specs.Versions.{has_clocks, most_writers}
use Rattle.checkpoint_io.specs.Blocks.{Block, Fragment, Extent, NewClock, Close, messages_of, header_bytes, extent_head_bytes, close_bytes, SpellsFragment, SpellsExtent, SpellsBlock, SpellsBlocks, FileOf}
use Rattle.checkpoint_io.specs.Validity.{IsOf, Valid}
use Rattle.checkpoint_io.specs.NextBlocks.{Describes}
use Rattle.checkpoint_io.specs.Readers.{ReaderState}
use Rattle.checkpoint_io.proofs.lemmas.FileLaws.{is_extent}
use Rattle.checkpoint_io.proofs.lemmas.FrontLaws.{file_goes_on}
use Rattle.checkpoint_io.proofs.lemmas.LimitLaws.{extent_within, close_within, extent_has_records}
use Rattle.checkpoint_io.proofs.lemmas.ValidityLaws.{messages-push, ids_go_on, writers_known}
use Rattle.session_options.proofs.lemmas.VersionLimits.{few_writers}
use Rattle.log_scan.specs.Parts.{LogPart, with_block, StandsNext}
use Rattle.log_migration.specs.declared.new_log.NewLog.{NewLog}
use Rattle.log_migration.specs.Migrating.{version_2}
use Rattle.log_migration.specs.Migrations.{fragment_bytes, PutsPart, MigratesPart}

-- ---- a log has no more blocks than bytes

block_some : (messages : List Message) (header : Header) (block : Block) (bytes : List ℕ) → SpellsBlock messages header block bytes → 1 ≤ length bytes
block_some messages header (Fragment first added) bytes s = omega (arith, ap length s.joined)
block_some messages header (Extent writer records) bytes s = omega (arith, ap length s.joined)
block_some messages header (NewClock clock) bytes s = omega (arith, ap length s.joined)
block_some messages header (Close writer) bytes s = omega (arith, ap length s.joined)

blocks_few : (header : Header) (before blocks : List Block) (bytes : List ℕ) → SpellsBlocks header before blocks bytes → length blocks ≤ length bytes
blocks_few header before [] bytes spelled = omega arith
blocks_few header before (block ∷ blocks) bytes (front, back, joined, first, others) =
    omega (arith, block_some (messages_of before) header block front first, blocks_few header (before ++ block ∷ []) blocks back others, ap length joined, length-append front back)

-- the last block is spelled
last_block : (header : Header) (before blocks : List Block) (block : Block) (bytes : List ℕ) → SpellsBlocks header before (blocks ++ block ∷ []) bytes → (last : List ℕ) × SpellsBlock (messages_of (before ++ blocks)) header block last
last_block header before [] block bytes (front, back, joined, first, others) =
    (front, subst (λ (b : List Block). SpellsBlock (messages_of b) header block front) (sym (append-nil before)) first)
last_block header before (other ∷ blocks) block bytes (front, back, joined, first, others) =
    let (last, spelled) = last_block header (before ++ other ∷ []) blocks block back others in
    (last, subst (λ (b : List Block). SpellsBlock (messages_of b) header block last) (append_assoc before (other ∷ []) blocks) spelled)

-- ---- what is told of a block

is_fragment : (first count : ℕ) (block : Block) → Describes (read.Fragment first count) block → (messages : List Message) × (block ≡ Fragment first messages) × (count ≡ length messages)
is_fragment first count (Fragment f messages) tells =
    let same : first ≡ f = cc in
    (messages, ap (λ (n : ℕ). Fragment n messages) (sym same), cc)
is_fragment first count (Extent writer records) tells = absurd cc
is_fragment first count (NewClock clock) tells = absurd cc
is_fragment first count (Close writer) tells = absurd cc

is_close : (writer : ℕ) (block : Block) → Describes (read.Closed writer) block → block ≡ Close writer
is_close writer (Fragment first messages) tells = absurd cc
is_close writer (Extent w records) tells = absurd cc
is_close writer (NewClock clock) tells = absurd cc
is_close writer (Close w) tells =
    let same : writer ≡ w = cc in
    ap Close (sym same)

-- ---- limits

pub few_of : (header : Header) → header.writers ≤ most_writers header.version → header.writers ≤ 1024
few_of header few = omega (arith, few, few_writers header.version)

records_some : (messages : List Message) (tick : ℕ) (records : List Call) (body : List ℕ) → SpellsRecords messages tick records body → 1 ≤ length records → 1 ≤ length body
records_some messages tick [] body spelled some = absurd (omega (arith, some))
records_some messages tick (call ∷ records) body (front, back, joined, first, others) some = omega (arith, ap length joined, ap length first.spelled.joined, length-append front back)

has_records : (messages : List Message) (header : Header) (writer : ℕ) (records : List Call) (bytes : List ℕ) → SpellsExtent messages header writer records bytes → 1 ≤ length records
has_records messages header writer [] bytes s = absurd (extent_has_records messages header writer bytes s)
has_records messages header writer (call ∷ records) bytes s = omega arith

module _ (part : LogPart) (reader : ReaderState) (told : ReadBlock) (block : Block) (next : StandsNext part reader told block) where
  pub few_blocks : length part.blocks + 1 ≤ 134217728
  few_blocks =
      omega (arith, blocks_few part.header [] (part.blocks ++ block ∷ []) next.file.block_bytes next.file.spelled, ap length next.file.joined, length-append part.blocks (block ∷ []), next.within, length-append (header_bytes part.header) next.file.block_bytes)

  -- the block, as it stands in the log
  spelled_so : (b : Block) → block ≡ b → (last : List ℕ) × SpellsBlock (messages_of part.blocks) part.header b last
  spelled_so b is = last_block part.header [] part.blocks b next.file.block_bytes (subst (λ (x : Block). SpellsBlocks part.header [] (part.blocks ++ x ∷ []) next.file.block_bytes) is next.file.spelled)

  known_so : (b : Block) → block ≡ b → reader.messages ≡ messages_of (part.blocks ++ b ∷ [])
  known_so b is = next.known ∙ ap (λ (x : Block). messages_of (part.blocks ++ x ∷ [])) is

  valid_so : (b : Block) → block ≡ b → Valid part.header (part.blocks ++ b ∷ [])
  valid_so b is = subst (λ (x : Block). Valid part.header (part.blocks ++ x ∷ [])) is next.valid

  -- its writer is one of those of version 2
  writer_known : (b : Block) (writer : ℕ) → block ≡ b → IsOf writer b → writer < 1024
  writer_known b writer is of_writer =
      let valid = valid_so b is in
      omega (arith, writers_known part.header writer part.blocks b [] valid of_writer, few_of part.header valid.header_right.few_writers)

  -- a block more in the new log
  made : {T E : Type 0} (b : Block) (old new : NewLog) (spelled : List ℕ) (r : Result T E) → block ≡ b → (part.header.version ≡ 1 → SpellsBlock (messages_of part.blocks) (version_2 part.header) b spelled) → PutsPart r old new spelled → MigratesPart part old → OnOk r (MigratesPart (with_block part block) new)
  made b old new spelled (Err e) is spells puts was = tt
  made b old new spelled (Ok x) is spells puts was = λ one.
      let (bytes, file, holds) = was one in
      let grown = file_goes_on (version_2 part.header) part.blocks b bytes spelled file (spells one) in
      (bytes ++ spelled, subst (λ (y : Block). FileOf (version_2 part.header) (part.blocks ++ y ∷ []) (bytes ++ spelled)) (sym is) grown, puts bytes holds)

  -- ---- a fragment

  module _ (first count : ℕ) (named : told ≡ read.Fragment first count) where
    fragment : (messages : List Message) × (block ≡ Fragment first messages) × (count ≡ length messages)
    fragment = is_fragment first count block (subst (λ (t : ReadBlock). Describes t block) named next.tells)

    fragment_spelled : (last : List ℕ) × SpellsFragment first fragment.0 last
    fragment_spelled = spelled_so (Fragment first fragment.0) fragment.1

    fragment_known : reader.messages ≡ messages_of part.blocks ++ fragment.0
    fragment_known = known_so (Fragment first fragment.0) fragment.1 ∙ messages-push part.blocks (Fragment first fragment.0)

    goes_on : first ≡ length (messages_of part.blocks)
    goes_on = ids_go_on part.header part.blocks first fragment.0 [] (valid_so (Fragment first fragment.0) fragment.1)

    pub some_messages : 1 ≤ count
    some_messages = omega (arith, fragment.2, fragment_spelled.1.some)

    pub few_messages : count ≤ 16
    few_messages = omega (arith, fragment.2, fragment_spelled.1.few)

    pub messages_within : first + count ≤ length reader.messages
    messages_within = omega (arith, fragment.2, goes_on, ap length fragment_known, length-append (messages_of part.blocks) fragment.0)

    these : take count (drop first reader.messages) ≡ fragment.0
    these =
        ap (λ (l : List Message). take count (drop first l)) fragment_known
        ∙ ap (take count) (drop_at (messages_of part.blocks) fragment.0 first (sym goes_on))
        ∙ ap (take count) (sym (append-nil fragment.0))
        ∙ take_at fragment.0 [] count (sym fragment.2)

    pub fragment_made : {T E : Type 0} (old new : NewLog) (r : Result T E) (all : List Message) → all ≡ reader.messages → PutsPart r old new (fragment_bytes first (take count (drop first all))) → SpellsFragment first (take count (drop first all)) (fragment_bytes first (take count (drop first all))) → MigratesPart part old → OnOk r (MigratesPart (with_block part block) new)
    fragment_made old new r all same puts spells =
        let bytes = fragment_bytes first (take count (drop first all)) in
        let defined : take count (drop first all) ≡ fragment.0 = ap (λ (l : List Message). take count (drop first l)) same ∙ these in
        made (Fragment first fragment.0) old new bytes r fragment.1 (λ one. subst (λ (ms : List Message). SpellsFragment first ms bytes) defined spells) puts

  -- ---- an extent

  module _ (writer : ℕ) (named : told ≡ read.Extent writer) where
    extent : (records : List Call) × (block ≡ Extent writer records) × (last : ℕ) × IsBody reader.messages part.header.clock.tick last records reader.body
    extent = is_extent part.header.clock.tick writer reader.messages reader.body block (subst (λ (t : ReadBlock). Describes t block) named next.tells) next.body

    pub extent_writer : writer < 1024
    extent_writer = writer_known (Extent writer extent.0) writer extent.1 refl

    pub some_body : 1 ≤ length reader.body
    some_body =
        let (last, spelled) = spelled_so (Extent writer extent.0) extent.1 in
        records_some reader.messages part.header.clock.tick extent.0 reader.body extent.3.spelled (has_records (messages_of part.blocks) part.header writer extent.0 last spelled)

    pub extent_made : {T E : Type 0} (old new : NewLog) (r : Result T E) (body : List ℕ) → body ≡ reader.body → length body ≤ 1048576 → PutsPart r old new (extent_head_bytes 2 writer (length body) ++ body) → MigratesPart part old → OnOk r (MigratesPart (with_block part block) new)
    extent_made old new r body same short puts =
        let known : reader.messages ≡ messages_of part.blocks = known_so (Extent writer extent.0) extent.1 ∙ messages-push part.blocks (Extent writer extent.0) ∙ append-nil (messages_of part.blocks) in
        let records : SpellsRecords (messages_of part.blocks) part.header.clock.tick extent.0 body = subst (SpellsRecords (messages_of part.blocks) part.header.clock.tick extent.0) (sym same) (subst (λ (ms : List Message). SpellsRecords ms part.header.clock.tick extent.0 reader.body) known extent.3.spelled) in
        let some : 1 ≤ length body = omega (arith, some_body, ap length same) in
        let fits : writer < 256 ^ 2 = omega (arith, extent_writer) in
        made (Extent writer extent.0) old new (extent_head_bytes 2 writer (length body) ++ body) r extent.1
        (λ one. extent_within (messages_of part.blocks) (version_2 part.header) writer extent.0 body some short fits records) puts

  -- ---- a close mark

  module _ (writer : ℕ) (named : told ≡ read.Closed writer) where
    closed : block ≡ Close writer
    closed = is_close writer block (subst (λ (t : ReadBlock). Describes t block) named next.tells)

    pub close_writer : writer < 1024
    close_writer = writer_known (Close writer) writer closed refl

    pub close_made : {T E : Type 0} (old new : NewLog) (r : Result T E) → PutsPart r old new (close_bytes 2 writer) → MigratesPart part old → OnOk r (MigratesPart (with_block part block) new)
    close_made old new r puts =
        made (Close writer) old new (close_bytes 2 writer) r closed (λ one. close_within (version_2 part.header) writer (omega (arith, close_writer))) puts

-- ---- no clock

none_in_1 : has_clocks 1 ≡ true → ⊥
none_in_1 has = cc

-- version 1 has none
pub no_clock : (part : LogPart) (reader : ReaderState) (told : ReadBlock) (block : Block) (log : NewLog) (clock : Clock) → told ≡ read.Clock clock → StandsNext part reader told block → MigratesPart (with_block part block) log
no_clock part reader told block log clock named next = λ one. absurd (never block refl (subst (λ (t : ReadBlock). Describes t block) named next.tells) one)
  where
    never : (b : Block) → block ≡ b → Describes (read.Clock clock) b → part.header.version ≡ 1 → ⊥
    never (Fragment first messages) is tells one = absurd cc
    never (Extent writer records) is tells one = absurd cc
    never (Close writer) is tells one = absurd cc
    never (NewClock c) is tells one =
        let (last, spelled) = spelled_so part reader told block next (NewClock c) is in
        none_in_1 (ap has_clocks (sym one) ∙ spelled.version_has)
