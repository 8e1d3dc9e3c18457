-- The ends of a session.
use Rattle.std.specs.Prelude.{◌≡◌, List}
use Rattle.log_dictionary.specs.declared.message.Message.{Message}
use Rattle.word_ring.specs.Ends.{WordWriterEnd}
use Rattle.ring_core.specs.Plans.{types_by_id}
use Rattle.log_session.specs.Writers.{WriterView}

-- the writer's ring is for calls of these messages
abbrev pub IsWriterFor : List Message → WriterView WordWriterEnd → Type 0
IsWriterFor messages writer = writer.end.plan.types ≡ types_by_id messages
