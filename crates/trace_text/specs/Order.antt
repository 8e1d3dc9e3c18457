-- The order in which the calls of a run are printed and written.
use Rattle.std.specs.Prelude.{ℕ, List, map, Option, option_and_then, slice_get}
use Rattle.std.specs.List.{flat_map, enumerate_from}
use Rattle.log_dictionary.specs.Calls.{LogCall}
use Rattle.arg_records.specs.declared.call.Call.{Call}
use Rattle.arg_records.specs.Calls.{log_call}
use Rattle.direct_printf.specs.Lines.{in_order}
use Rattle.trace_text.specs.declared.order.CallPlace.{CallPlace}
use Rattle.trace_text.specs.Recordings.{Recording, calls_of}

-- where a call stands: when it was made, which writer made it, and how many calls that writer had made before
abbrev pub call_place : LogCall → CallPlace
call_place call = record { stamp = call.stamp; writer = call.writer; ordinal = call.ordinal }

-- the places of a run's calls, in the order of their lines
abbrev pub places_in_order : Recording → List CallPlace
places_in_order run = map call_place (in_order (calls_of run))

-- the place of a writer's call with this number
abbrev pub place_in : ℕ → ℕ × Call → CallPlace
place_in writer (ordinal, call) = record { stamp = call.stamp; writer = writer; ordinal = ordinal }

-- the places of a writer's calls, one after the other
abbrev pub writer_places : ℕ × List Call → List CallPlace
writer_places (writer, calls) = map (place_in writer) (enumerate_from 0 calls)

-- the places of the calls of all writers, writer by writer
abbrev pub places_by_writer : List (List Call) → List CallPlace
places_by_writer writers = flat_map writer_places (enumerate_from 0 writers)

-- the call that stands in the run at a place
abbrev pub call_in : Recording → CallPlace → Option LogCall
call_in run place =
    option_and_then
    (λ calls. option_and_then (λ call. log_call run.dictionary place.writer (place.ordinal, call))
    (slice_get calls place.ordinal))
    (slice_get run.writers place.writer)
