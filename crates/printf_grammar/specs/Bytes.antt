-- Bytes that are kept.
use Rattle.std.specs.Prelude.{ℕ, List}
use Rattle.printf_grammar.specs.declared.bytes.Items.{Items}
use Rattle.printf_grammar.specs.declared.bytes.Items.TheVariants.{Short, Long}

-- the bytes, wherever they lie
abbrev pub items_of : Items → List ℕ
items_of (Short bytes) = bytes
items_of (Long bytes) = bytes.value.items
