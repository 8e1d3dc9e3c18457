-- A line of the log, and the lines of many calls in order.
use Rattle.std.specs.Prelude.{◌≡◌, ℕ, ◌/◌, ◌%◌, Bool, false, List, [], ◌∷◌, ◌++◌, length, map, take, codes}
use Rattle.std.specs.declared.cmp.Ordering.{Ordering}
use Rattle.std.specs.Ordering.{is_lt, nat_cmp, ordering_then}
use Rattle.std.specs.List.{flat_map}
use Rattle.std.specs.Fmt.{decimal}
use Rattle.log_dictionary.specs.declared.clock.Clock.{Clock}
use Rattle.log_dictionary.specs.declared.message.Message.{Message}
use Rattle.log_dictionary.specs.Times.{Time}
use Rattle.log_dictionary.specs.Severities.{severity_name}
use Rattle.log_dictionary.specs.Calls.{LogCall}
use Rattle.stamp_merge.specs.Ordering.{in_order_by}
use Rattle.direct_printf.specs.Fields.{Digits, Text}

-- a time in nanoseconds as seconds, a point and nine digits
abbrev pub seconds_text : ℕ → List ℕ
seconds_text nanos = decimal (nanos / 1000000000) ++ 46 ∷ Digits (nanos % 1000000000) 10 false 9

-- what stands in each line of a message between the time and the writer: `FILE:LINE SEVERITY[`
abbrev pub origin_text : Message → List ℕ
origin_text message = message.file ++ 58 ∷ decimal message.line ++ 32 ∷ severity_name message.severity ++ 91 ∷ []

-- the texts are those of the first messages
abbrev pub AreFirstOrigins : List (List ℕ) → List Message → Type 0
AreFirstOrigins texts messages = texts ≡ map origin_text (take (length texts) messages)

-- the line of a call: `SECONDS.NNNNNNNNN FILE:LINE SEVERITY[WRITER]: TEXT` and LF
unfoldable pub Line : List Clock → LogCall → List ℕ
Line clocks call =
    seconds_text (Time clocks call.stamp)
    ++ 32 ∷ call.message.file
    ++ 58 ∷ decimal call.message.line
    ++ 32 ∷ severity_name call.message.severity
    ++ 91 ∷ decimal call.writer
    ++ codes "]: "
    ++ Text call.message.format call.args
    ++ 10 ∷ []

-- how calls compare: by stamp, then by writer, then by ordinal
abbrev pub call_cmp : LogCall → LogCall → Ordering
call_cmp a b =
    ordering_then (nat_cmp a.stamp b.stamp) (ordering_then (nat_cmp a.writer b.writer) (nat_cmp a.ordinal b.ordinal))

-- the first call's line stands before the second's
abbrev pub call_before : LogCall → LogCall → Bool
call_before a b = is_lt (call_cmp a b)

-- the calls in order
abbrev pub in_order : List LogCall → List LogCall
in_order calls = in_order_by call_before calls

-- the lines of all calls, in order
unfoldable pub Direct : List Clock → List LogCall → List ℕ
Direct clocks calls = flat_map (Line clocks) (in_order calls)
