use Rattle.std.proofs.Common.{◌≡◌, ◌+◌, ◌++◌, length, List, ℕ}
use Rattle.std.specs.List.{flat_map, enumerate_from}
use Rattle.std.specs.Slice.Iter.{iter_rest}
use Rattle.log_dictionary.specs.Canonical.{message_text, messages_text}
use Rattle.log_dictionary.proofs.writing.push_messages.Given as goal

-- some of the text is appended, and with the lines of the messages that are left it is all
abbrev pub invariant-loop-id : goal.invariant-loop-id
invariant-loop-id l =
    ((front : List ℕ) × (l.out.items ≡ l.fn.out.items ++ front))
    × (l.out.items ++ flat_map message_text (enumerate_from l.id (iter_rest l.message-iterator)) ≡ l.fn.out.items ++ messages_text l.dictionary)
    × (l.id + length (iter_rest l.message-iterator) ≡ length l.dictionary)
