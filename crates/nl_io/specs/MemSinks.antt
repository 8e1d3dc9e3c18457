-- What a sink in memory has.
use Rattle.std.specs.Prelude.{◌≡◌, ℕ, List}
use Rattle.nl_io.specs.declared.mem_sink.MemSink.{MemSink}
use Rattle.nl_io.specs.declared.script.Script.{Script}
use Rattle.nl_io.specs.declared.script.Faults.{Faults}

-- the bytes taken so far
abbrev pub sink_bytes : MemSink → List ℕ
sink_bytes sink = sink.bytes.items

-- how many bytes one call takes at most
abbrev pub sink_piece : MemSink → ℕ
sink_piece sink = sink.piece

-- which calls fail, and how many came
abbrev pub sink_script : MemSink → Script
sink_script sink = sink.script

-- the numbers of the calls that fail
abbrev pub sink_failing : MemSink → List ℕ
sink_failing sink = sink.script.failing.items

-- how many calls came
abbrev pub sink_calls : MemSink → ℕ
sink_calls sink = sink.script.calls

-- how many calls failed
abbrev pub sink_faults : MemSink → Faults
sink_faults sink = sink.faults

-- the same piece, and the same calls fail
abbrev pub IsSameSink : MemSink → MemSink → Type 0
IsSameSink a b = (sink_piece b ≡ sink_piece a) × (sink_failing b ≡ sink_failing a)
