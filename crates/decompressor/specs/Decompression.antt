-- The text that a log stands for.
use Rattle.std.specs.Prelude.{◌≡◌, ℕ, List, []}
use Rattle.std.specs.List.{flat_map, range_with_len}
use Rattle.log_dictionary.specs.Calls.{LogCall}
use Rattle.arg_records.specs.Calls.{writer_calls}
use Rattle.checkpoint_io.specs.declared.header.Header.{Header}
use Rattle.checkpoint_io.specs.Blocks.{Block, messages_of, clocks_of}
use Rattle.checkpoint_io.specs.Validity.{records_of}
use Rattle.checkpoint_io.specs.Fronts.{Front, HasNoHeader}
use Rattle.direct_printf.specs.Lines.{Direct}

-- the calls of a writer: its records in the order of the file, each with the message that its id was given
abbrev pub CallsOf : List Block → ℕ → List LogCall
CallsOf blocks writer = writer_calls (messages_of blocks) (writer, records_of writer blocks)

-- the calls of all writers
abbrev pub all_calls : Header → List Block → List LogCall
all_calls header blocks = flat_map (CallsOf blocks) (range_with_len 0 header.writers)

-- the lines of calls of blocks, in order, by the clocks of the header and the blocks
abbrev pub lines_of : Header → List Block → List LogCall → List ℕ
lines_of header blocks calls = Direct (clocks_of header blocks) calls

-- the lines of all calls of blocks
abbrev pub whole_text : Header → List Block → List ℕ
whole_text header blocks = lines_of header blocks (all_calls header blocks)

-- The text is the lines of the calls of the front's blocks, in order; it is empty where there is no header.
pub data Decompressed (bytes text : List ℕ) : Type 0 where
  of_front : (header : Header) (blocks : List Block) (count : ℕ) → Front bytes header blocks count
      → text ≡ whole_text header blocks → Decompressed bytes text
  of_nothing : HasNoHeader bytes → text ≡ [] → Decompressed bytes text
