-- The bytes of headers and blocks, part by part.
use Rattle.std.proofs.Common.{◌≡◌, ℕ, zero, suc, ◌%◌, ◌<◌, ◌≤◌, List, [], ◌∷◌, ◌++◌, length, take, refl, sym, ap, ◌∙◌, append_assoc, append-nil, arith}
use Rattle.std.specs.Prelude.{codes}
use Rattle.std.specs.Hash.{le_bytes}
use Rattle.std.proofs.lemmas.List.{length-append}
use Rattle.std.specs.Int.{byte_at, bytes_low_first}
use Rattle.nibble_pack.specs.Bytes.{length-bytes_low_first, bytes_low_first-suc}
use Rattle.log_dictionary.specs.declared.clock.Clock.{Clock}
use Rattle.log_dictionary.specs.declared.message.Message.{Message}
use Rattle.log_dictionary.specs.BinaryEntries.{SpellsEntry}
use Rattle.checkpoint_io.specs.declared.header.Header.{Header}
use Rattle.checkpoint_io.specs.Versions.{writer_len, header_len, extent_head_len}
use Rattle.checkpoint_io.specs.Blocks.{writer_bytes, header_bytes, extent_head_bytes, clock_bytes, SpellsEntries}

-- ---- numbers

pub le_length : (k n : ℕ) → length (le_bytes k n) ≡ k
unfolding le_bytes
le_length k n = length-bytes_low_first 0 k n

-- fewer bytes of a number are its low ones
pub take_low_first : (i k n x : ℕ) → k ≤ n → take k (bytes_low_first i n x) ≡ bytes_low_first i k x
take_low_first i zero zero x within = refl
take_low_first i zero (suc n) x within = refl
take_low_first i (suc k) zero x within = absurd (omega (arith, within))
take_low_first i (suc k) (suc n) x within = ap (λ (b : List ℕ). byte_at i x ∷ b) (take_low_first (suc i) k n x (omega (arith, within)))

-- one byte holds a small number
pub one_byte : (n : ℕ) → n < 256 → le_bytes 1 n ≡ n ∷ []
unfolding le_bytes
one_byte n small =
    let same : n % 256 ≡ n = omega (arith, small) in
    bytes_low_first-suc 0 n ∙ ap (λ (b : ℕ). b ∷ []) same

-- ---- heads

pub length-header_bytes : (header : Header) → length (header_bytes header) ≡ header_len header.version
length-header_bytes header =
    let writers : List ℕ = writer_bytes header.version header.writers in
    let tick : List ℕ = le_bytes 8 header.clock.tick in
    let nanos : List ℕ = le_bytes 8 header.clock.nanos in
    let rate : List ℕ = le_bytes 8 header.clock.rate in
    omega (arith, length-append (writers ++ tick ++ nanos) rate, length-append (writers ++ tick) nanos, length-append writers tick, le_length (writer_len header.version) header.writers, le_length 8 header.clock.tick, le_length 8 header.clock.nanos, le_length 8 header.clock.rate)

pub length-extent_head_bytes : (version writer len : ℕ) → length (extent_head_bytes version writer len) ≡ extent_head_len version
length-extent_head_bytes version writer len =
    omega (arith, length-append (writer_bytes version writer) (le_bytes 4 len), le_length (writer_len version) writer, le_length 4 len)

pub length-clock_bytes : (clock : Clock) → length (clock_bytes clock) ≡ 25
length-clock_bytes clock =
    omega (arith, length-append (3 ∷ le_bytes 8 clock.tick ++ le_bytes 8 clock.nanos) (le_bytes 8 clock.rate), length-append (3 ∷ le_bytes 8 clock.tick) (le_bytes 8 clock.nanos), le_length 8 clock.tick, le_length 8 clock.nanos, le_length 8 clock.rate)

pub header_nested : (header : Header) (back : List ℕ) → header_bytes header ++ back ≡ codes "NLOG" ++ (header.version ∷ (writer_bytes header.version header.writers ++ (le_bytes 8 header.clock.tick ++ (le_bytes 8 header.clock.nanos ++ (le_bytes 8 header.clock.rate ++ back)))))
header_nested header back =
    let front : List ℕ = codes "NLOG" ++ header.version ∷ writer_bytes header.version header.writers in
    append_assoc (front ++ le_bytes 8 header.clock.tick ++ le_bytes 8 header.clock.nanos) (le_bytes 8 header.clock.rate) back
    ∙ append_assoc (front ++ le_bytes 8 header.clock.tick) (le_bytes 8 header.clock.nanos) (le_bytes 8 header.clock.rate ++ back)
    ∙ append_assoc front (le_bytes 8 header.clock.tick) (le_bytes 8 header.clock.nanos ++ (le_bytes 8 header.clock.rate ++ back))

-- ---- entries

-- one entry more
pub entries_push : (messages : List Message) (message : Message) (bytes entry : List ℕ) → SpellsEntries messages bytes → SpellsEntry entry message → SpellsEntries (messages ++ message ∷ []) (bytes ++ entry)
entries_push [] message bytes entry none is = (entry, [], ap (λ (b : List ℕ). b ++ entry) none ∙ sym (append-nil entry), is, refl)
entries_push (m ∷ messages) message bytes entry (front, back, joined, first, others) is =
    (front, back ++ entry, ap (λ (b : List ℕ). b ++ entry) joined ∙ append_assoc front back entry, first, entries_push messages message back entry others is)
