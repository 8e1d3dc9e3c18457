use Rattle.std.proofs.Common.{◌≡◌, ◌+◌, ◌<◌, ◌≤◌, ◌^◌, List, ◌++◌, length}
use Rattle.std.specs.Prelude.{sum_by, vec_len}
use Rattle.std.specs.Vec.{vec_capacity}
use Rattle.roaming_consumer.specs.Roamers.{ends_of}
use Rattle.log_session.specs.Writers.{WriterView}
use Rattle.log_session.specs.Starts.{ShareRings}
use Rattle.log_session.specs.Settling.{IsRejoined, AllZip3}
use Rattle.log_session.proofs.settling.settle.Given as goal

abbrev pub invariant-loop-writer : goal.invariant-loop-writer
invariant-loop-writer g l =
    (seen : List (WriterView g.row.S-In.Denot)) × (ends : List g.row.S-Out.Denot) × (left : List g.row.S-Done.Denot)
    × (seen ++ l.writer-iterator.rest.items ≡ l.fn.writers.items)
    × (ends ++ l.ends.rest.items ≡ ends_of l.fn.roamer)
    × ShareRings g.S.In.StageIn.pair g.S.Out.StageOut.pair l.writer-iterator.rest.items l.ends.rest.items
    × (l.into.items ≡ l.initial.into.items ++ left)
    × AllZip3 (IsRejoined g.S.In.StageIn.sent g.S.In.StageIn.closed g.S.Out.StageOut.got g.S.Out.StageOut.ended g.S.Done.StageDone.sent g.S.Done.StageDone.got g.S.Done.StageDone.closed g.S.Done.StageDone.ended) seen ends left
    × (l.taken ≡ sum_by (λ done. length (g.S.Done.StageDone.got done)) left)
    × (vec_len l.into + length l.writer-iterator.rest.items ≤ vec_capacity l.into)
    × (l.taken + sum_by (λ writer. writer.accepted) l.writer-iterator.rest.items < 2 ^ 64)
    × (length l.writer-iterator.rest.items ≡ l.writer-iterator.rest.len)
    × (length l.ends.rest.items ≡ l.ends.rest.len)
