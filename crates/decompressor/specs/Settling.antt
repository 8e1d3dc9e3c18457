-- Which calls of a log are settled: whatever comes, no call stands before them that the blocks don't have.
use Rattle.std.specs.Prelude.{ℕ, Bool, not, List, filter}
use Rattle.std.specs.List.{list_any, list_all, range_with_len}
use Rattle.log_dictionary.specs.Calls.{LogCall}
use Rattle.checkpoint_io.specs.declared.header.Header.{Header}
use Rattle.checkpoint_io.specs.Blocks.{Block}
use Rattle.checkpoint_io.specs.Validity.{closes}
use Rattle.direct_printf.specs.Lines.{call_before}
use Rattle.decompressor.specs.Decompression.{CallsOf, all_calls, lines_of}

-- a close mark of the writer stands among the blocks
abbrev pub closed_by : List Block → ℕ → Bool
closed_by blocks writer = list_any (closes writer) blocks

-- the writers that no block closes, from the least number on
abbrev pub open_writers : Header → List Block → List ℕ
open_writers header blocks = filter (λ writer. not (closed_by blocks writer)) (range_with_len 0 header.writers)

-- one of the calls is this one, or stands after it
abbrev pub reaches : List LogCall → LogCall → Bool
reaches calls call = list_any (λ other. not (call_before other call)) calls

-- each writer that no block closes has a call that is this one or stands after it
abbrev pub is_settled : Header → List Block → LogCall → Bool
is_settled header blocks call = list_all (λ writer. reaches (CallsOf blocks writer) call) (open_writers header blocks)

-- the settled calls of all writers, writer by writer, those of each in its order
abbrev pub settled_calls : Header → List Block → List LogCall
settled_calls header blocks = filter (is_settled header blocks) (all_calls header blocks)

-- the lines of the settled calls
abbrev pub settled_text : Header → List Block → List ℕ
settled_text header blocks = lines_of header blocks (settled_calls header blocks)
