-- Headers and blocks within their limits.
use Rattle.std.proofs.Common.{◌≡◌, ℕ, ◌+◌, ◌<◌, ◌≤◌, ◌^◌, List, [], ◌∷◌, ◌++◌, length, refl, ap, arith}
use Rattle.std.proofs.lemmas.List.{length-append}
use Rattle.log_dictionary.specs.declared.message.Message.{Message}
use Rattle.log_dictionary.specs.BinaryEntries.{SpellsEntry}
use Rattle.arg_records.specs.declared.call.Call.{Call}
use Rattle.buffer_extent.specs.Bodies.{SpellsRecords}
use Rattle.checkpoint_io.specs.declared.header.Header.{Header}
use Rattle.checkpoint_io.specs.Versions.{writer_len, most_body, extent_head_len}
use Rattle.checkpoint_io.specs.Blocks.{fragment_head_bytes, extent_head_bytes, close_bytes, SpellsEntries, SpellsFragment, SpellsExtent, SpellsClose}
use Rattle.checkpoint_io.proofs.lemmas.BlockLaws.{length-extent_head_bytes}

pub entry_joined : (message : Message) (messages : List Message) (front back : List ℕ) → SpellsEntry front message → SpellsEntries messages back → SpellsEntries (message ∷ messages) (front ++ back)
entry_joined message messages front back here behind = (front, back, refl, here, behind)

pub fragment_within : (first : ℕ) (messages : List Message) (entries : List ℕ) → 1 ≤ length messages → length messages ≤ 16 → first < 2 ^ 32 → SpellsEntries messages entries → SpellsFragment first messages (fragment_head_bytes first (length messages) ++ entries)
fragment_within first messages entries some few fits spelled = record { entries = entries; some = some; few = few; first_fits = fits; entries_spelled = spelled; joined = refl }

pub extent_within : (messages : List Message) (header : Header) (writer : ℕ) (records : List Call) (body : List ℕ) → 1 ≤ length body → length body ≤ most_body header.version → writer < 256 ^ writer_len header.version → SpellsRecords messages header.clock.tick records body → SpellsExtent messages header writer records (extent_head_bytes header.version writer (length body) ++ body)
extent_within messages header writer records body some short fits spelled = record { body = body; some = some; short = short; writer_fits = fits; body_spelled = spelled; joined = refl }

-- the head's bytes more than the body
pub extent_len : (messages : List Message) (header : Header) (writer : ℕ) (records : List Call) (bytes : List ℕ) → (s : SpellsExtent messages header writer records bytes) → length bytes ≡ extent_head_len header.version + length s.body
extent_len messages header writer records bytes s =
    let head : List ℕ = extent_head_bytes header.version writer (length s.body) in
    omega (arith, ap length s.joined, length-append head s.body, length-extent_head_bytes header.version writer (length s.body))

pub extent_some : (messages : List Message) (header : Header) (writer : ℕ) (records : List Call) (bytes : List ℕ) → SpellsExtent messages header writer records bytes → extent_head_len header.version < length bytes
extent_some messages header writer records bytes s = omega (arith, extent_len messages header writer records bytes s, s.some)

pub extent_short : (messages : List Message) (header : Header) (writer : ℕ) (records : List Call) (bytes : List ℕ) → SpellsExtent messages header writer records bytes → length bytes ≤ extent_head_len header.version + most_body header.version
extent_short messages header writer records bytes s = omega (arith, extent_len messages header writer records bytes s, s.short)

pub extent_has_records : (messages : List Message) (header : Header) (writer : ℕ) (bytes : List ℕ) → ¬ (SpellsExtent messages header writer [] bytes)
extent_has_records messages header writer bytes s = omega (arith, ap length s.body_spelled, s.some)

pub close_within : (header : Header) (writer : ℕ) → writer < 256 ^ writer_len header.version → SpellsClose header writer (close_bytes header.version writer)
close_within header writer fits = record { writer_fits = fits; joined = refl }
