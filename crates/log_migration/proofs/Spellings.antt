-- A log has one spelling.
use Rattle.std.proofs.Common.{◌≡◌, ℕ, ◌+◌, ◌-◌, ◌*◌, List, [], ◌∷◌, ◌++◌, length, pos, refl, ap, sym, subst, ◌∙◌}
use Rattle.std.specs.List.{flat_map}
use Rattle.std.proofs.lemmas.Option.{same_Some}
use Rattle.printf_grammar.specs.declared.arg_type.ArgType.{ArgType}
use Rattle.printf_grammar.specs.declared.argument.Value.{Value}
use Rattle.printf_grammar.specs.Types.{Types, text_of}
use Rattle.nibble_pack.specs.Packing.{unsigned}
use Rattle.nibble_pack.proofs.lemmas.PackingLaws.{same_pair}
use Rattle.log_dictionary.specs.declared.message.Message.{Message}
use Rattle.arg_records.specs.declared.call.Call.{Call}
use Rattle.buffer_extent.specs.Records.{PackedNumber, kind_of, packed_value, PacksArguments, codes_of, packed_bytes, code_bytes, RecordBytes}
use Rattle.buffer_extent.specs.Bodies.{SpellsRecord, SpellsRecords}
use Rattle.checkpoint_io.specs.declared.header.Header.{Header}
use Rattle.checkpoint_io.specs.Blocks.{Block, Fragment, Extent, NewClock, Close, messages_of, header_bytes, fragment_head_bytes, extent_head_bytes, SpellsEntries, SpellsBlock, SpellsBlocks, FileOf}

-- ---- records

numbers_one : (types : List ArgType) (args : List Value) (xs ys : List PackedNumber) → PacksArguments types args xs → PacksArguments types args ys → xs ≡ ys
numbers_one [] [] [] [] p q = refl
numbers_one [] [] [] (y ∷ ys) p q = absurd q
numbers_one [] [] (x ∷ xs) ys p q = absurd p
numbers_one [] (v ∷ vs) xs ys p q = absurd p
numbers_one (t ∷ ts) [] xs ys p q = absurd p
numbers_one (t ∷ ts) (v ∷ vs) [] ys p q = absurd p
numbers_one (t ∷ ts) (v ∷ vs) (x ∷ xs) [] p q = absurd q
numbers_one (t ∷ ts) (v ∷ vs) (x ∷ xs) (y ∷ ys) p q =
    let first = same_pair (kind_of t) (packed_value v) x.code y.code x.bytes y.bytes p.0 q.0 in
    let others = numbers_one ts vs xs ys p.1 q.1 in
    λ i. record { code = first.0 i; bytes = first.1 i } ∷ others i

record_one : (types : List ArgType) (id stamp before : ℕ) (args : List Value) (a b : List ℕ) → RecordBytes types id stamp before args a → RecordBytes types id stamp before args b → a ≡ b
record_one types id stamp before args a b p q =
    let ids = same_pair unsigned (pos id) p.id_number.code q.id_number.code p.id_number.bytes q.id_number.bytes p.id_packed q.id_packed in
    let steps = same_pair unsigned (pos (stamp - before)) p.step_number.code q.step_number.code p.step_number.bytes q.step_number.bytes p.step_packed q.step_packed in
    let numbers = numbers_one types args p.numbers q.numbers p.packed q.packed in
    p.joined
    ∙ (λ i. (ids.0 i + 16 * steps.0 i) ∷ ids.1 i ++ steps.1 i ++ code_bytes (codes_of (numbers i)) ++ packed_bytes (numbers i) ++ flat_map text_of args)
    ∙ sym q.joined

call_one : (messages : List Message) (before : ℕ) (call : Call) (a b : List ℕ) → SpellsRecord messages before call a → SpellsRecord messages before call b → a ≡ b
call_one messages before call a b p q =
    let same = same_Some p.message q.message (sym p.known ∙ q.known) in
    record_one (Types q.message.format.pieces) call.id call.stamp before call.args a b (subst (λ (m : Message). RecordBytes (Types m.format.pieces) call.id call.stamp before call.args a) same p.spelled) q.spelled

records_one : (messages : List Message) (before : ℕ) (records : List Call) (a b : List ℕ) → SpellsRecords messages before records a → SpellsRecords messages before records b → a ≡ b
records_one messages before [] a b p q = p ∙ sym q
records_one messages before (call ∷ records) a b (front, back, joined, first, others) (front_too, back_too, joined_too, first_too, others_too) =
    let here = call_one messages before call front front_too first first_too in
    let behind = records_one messages call.stamp records back back_too others others_too in
    joined ∙ (λ i. here i ++ behind i) ∙ sym joined_too

-- ---- blocks

entries_one : (messages : List Message) (a b : List ℕ) → SpellsEntries messages a → SpellsEntries messages b → a ≡ b
entries_one [] a b p q = p ∙ sym q
entries_one (message ∷ messages) a b (front, back, joined, first, others) (front_too, back_too, joined_too, first_too, others_too) =
    let here = first.spelled ∙ sym first_too.spelled in
    let behind = entries_one messages back back_too others others_too in
    joined ∙ (λ i. here i ++ behind i) ∙ sym joined_too

block_one : (messages : List Message) (header : Header) (block : Block) (a b : List ℕ) → SpellsBlock messages header block a → SpellsBlock messages header block b → a ≡ b
block_one messages header (Fragment first added) a b p q =
    p.joined ∙ ap (λ (l : List ℕ). fragment_head_bytes first (length added) ++ l) (entries_one added p.entries q.entries p.entries_spelled q.entries_spelled) ∙ sym q.joined
block_one messages header (Extent writer records) a b p q =
    p.joined
    ∙ ap (λ (l : List ℕ). extent_head_bytes header.version writer (length l) ++ l) (records_one messages header.clock.tick records p.body q.body p.body_spelled q.body_spelled)
    ∙ sym q.joined
block_one messages header (NewClock clock) a b p q = p.joined ∙ sym q.joined
block_one messages header (Close writer) a b p q = p.joined ∙ sym q.joined

blocks_one : (header : Header) (before blocks : List Block) (a b : List ℕ) → SpellsBlocks header before blocks a → SpellsBlocks header before blocks b → a ≡ b
blocks_one header before [] a b p q = p ∙ sym q
blocks_one header before (block ∷ blocks) a b (front, back, joined, first, others) (front_too, back_too, joined_too, first_too, others_too) =
    let here = block_one (messages_of before) header block front front_too first first_too in
    let behind = blocks_one header (before ++ block ∷ []) blocks back back_too others others_too in
    joined ∙ (λ i. here i ++ behind i) ∙ sym joined_too

-- blocks have one file
pub file_one : (header : Header) (blocks : List Block) (a b : List ℕ) → FileOf header blocks a → FileOf header blocks b → a ≡ b
file_one header blocks a b p q =
    p.joined ∙ ap (λ (l : List ℕ). header_bytes header ++ l) (blocks_one header [] blocks p.block_bytes q.block_bytes p.spelled q.spelled) ∙ sym q.joined
