-- A log has no more records than bytes.
use Rattle.std.proofs.Common.{◌≡◌, ℕ, ◌≤◌, List, [], ◌∷◌, ◌++◌, length, ap, arith}
use Rattle.std.proofs.lemmas.List.{length-append}
use Rattle.log_dictionary.specs.declared.message.Message.{Message}
use Rattle.arg_records.specs.declared.call.Call.{Call}
use Rattle.buffer_extent.specs.Bodies.{SpellsRecord, SpellsRecords}
use Rattle.checkpoint_io.specs.declared.header.Header.{Header}
use Rattle.checkpoint_io.specs.Blocks.{Block, Fragment, Extent, NewClock, Close, messages_of, block_calls, all_records, extent_head_bytes, header_bytes, SpellsBlock, SpellsBlocks, FileOf}

not_empty : (bytes : List ℕ) (byte : ℕ) (others : List ℕ) → bytes ≡ byte ∷ others → 1 ≤ length bytes
not_empty [] byte others is = cc
not_empty (first ∷ bytes) byte others is = omega arith

-- a record has a byte at least
record_some : (messages : List Message) (before : ℕ) (call : Call) (bytes : List ℕ) → SpellsRecord messages before call bytes → 1 ≤ length bytes
record_some messages before call bytes is = not_empty bytes _ _ is.spelled.joined

records_short : (messages : List Message) (before : ℕ) (records : List Call) (bytes : List ℕ) → SpellsRecords messages before records bytes → length records ≤ length bytes
records_short messages before [] bytes spelled = omega arith
records_short messages before (call ∷ records) bytes (front, back, joined, first, others) =
    omega (arith, record_some messages before call front first, records_short messages call.stamp records back others, ap length joined, length-append front back)

block_short : (messages : List Message) (header : Header) (block : Block) (bytes : List ℕ) → SpellsBlock messages header block bytes → length (block_calls block) ≤ length bytes
block_short messages header (Fragment first added) bytes spelled = omega arith
block_short messages header (Extent writer records) bytes spelled =
    omega (arith, records_short messages header.clock.tick records spelled.body spelled.body_spelled, ap length spelled.joined, length-append (extent_head_bytes header.version writer (length spelled.body)) spelled.body)
block_short messages header (NewClock clock) bytes spelled = omega arith
block_short messages header (Close writer) bytes spelled = omega arith

blocks_short : (header : Header) (before blocks : List Block) (bytes : List ℕ) → SpellsBlocks header before blocks bytes → length (all_records blocks) ≤ length bytes
blocks_short header before [] bytes spelled = omega arith
blocks_short header before (block ∷ blocks) bytes (front, back, joined, first, others) =
    omega (arith, block_short (messages_of before) header block front first, blocks_short header (before ++ block ∷ []) blocks back others, ap length joined, length-append front back, length-append (block_calls block) (all_records blocks))

-- a file has no more records than bytes
pub file_short : (header : Header) (blocks : List Block) (bytes : List ℕ) → FileOf header blocks bytes → length (all_records blocks) ≤ length bytes
file_short header blocks bytes file =
    omega (arith, blocks_short header [] blocks file.block_bytes file.spelled, ap length file.joined, length-append (header_bytes header) file.block_bytes)
