-- The entries of messages, one behind the other.
use Rattle.std.proofs.Common.{◌≡◌, ℕ, ◌+◌, ◌<◌, ◌≤◌, ◌^◌, List, [], ◌∷◌, ◌++◌, length, get_or, take, drop, refl, ap, ◌∙◌, append-nil, arith}
use Rattle.std.specs.List.{flat_map}
use Rattle.std.proofs.lemmas.Grind.{flat_map-append}
use Rattle.std.proofs.lemmas.List.{take_more, length-take-le, length-drop}
use Rattle.std.proofs.lemmas.List.Elements.{All-head, All-tail, All-take, All-drop}
use Rattle.log_dictionary.specs.declared.message.Message.{Message}
use Rattle.log_dictionary.specs.BinaryEntries.{entry_bytes, SpellsEntry}
use Rattle.log_dictionary.specs.Messages.{AreFormed}
use Rattle.checkpoint_io.specs.Blocks.{SpellsEntries, SpellsFragment}
use Rattle.checkpoint_io.proofs.lemmas.LimitLaws.{entry_joined, fragment_within}
use Rattle.log_migration.specs.Migrations.{fragment_bytes}

-- one entry more
pub entry_more : (messages : List Message) (place : ℕ) (message : Message) → place < length messages → get_or messages place message ≡ message → flat_map entry_bytes (take (place + 1) messages) ≡ flat_map entry_bytes (take place messages) ++ entry_bytes message
entry_more messages place message within here =
    ap (flat_map entry_bytes) (take_more messages place message within ∙ ap (λ (m : Message). take place messages ++ m ∷ []) here)
    ∙ flat_map-append entry_bytes (take place messages) (message ∷ [])
    ∙ ap (λ (l : List ℕ). flat_map entry_bytes (take place messages) ++ l) (append-nil (entry_bytes message))

-- messages that have entries
pub entries_spelled : (messages : List Message) → AreFormed messages → SpellsEntries messages (flat_map entry_bytes messages)
entries_spelled [] each = refl
entries_spelled (message ∷ messages) each =
    let P : Message → Type 0 = λ m. SpellsEntry (entry_bytes m) m in
    entry_joined message messages (entry_bytes message) (flat_map entry_bytes messages) (All-head P message messages each) (entries_spelled messages (All-tail P message messages each))

-- a fragment of messages of a dictionary
pub fragment_spelled : (all : List Message) (first count : ℕ) → AreFormed all → 1 ≤ count → count ≤ 16 → first < 2 ^ 32 → first + count ≤ length all → SpellsFragment first (take count (drop first all)) (fragment_bytes first (take count (drop first all)))
fragment_spelled all first count formed some few fits within =
    let P : Message → Type 0 = λ m. SpellsEntry (entry_bytes m) m in
    let messages = take count (drop first all) in
    let many : length messages ≡ count = length-take-le count (drop first all) (omega (arith, within, length-drop first all)) in
    fragment_within first messages (flat_map entry_bytes messages) (omega (arith, many, some)) (omega (arith, many, few)) fits (entries_spelled messages (All-take P count (drop first all) (All-drop P first all formed)))
