use Rattle.std.proofs.Common.{◌≤◌, length}
use Rattle.source_tokens.specs.Forms.{is_number_tail}
use Rattle.source_tokens.proofs.lemmas.Passing.{Passes}
use Rattle.source_tokens.proofs.number.past_number.Given as goal

abbrev pub invariant-loop-rest : goal.invariant-loop-rest
invariant-loop-rest l =
    Passes (is_number_tail l.first) (is_number_tail l.before) l.bytes l.rest × (length l.rest ≤ length l.bytes)

abbrev pub decreases-loop-rest : goal.decreases-loop-rest
decreases-loop-rest l = length l.rest
