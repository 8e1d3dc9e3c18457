use Rattle.std.proofs.Common.{◌≡◌, ◌≤◌, length}
use Rattle.source_tokens.specs.Splices.{splice_length, past_splices}
use Rattle.source_tokens.proofs.splice.past_splices.Given as goal

abbrev pub invariant-loop-len : goal.invariant-loop-len
invariant-loop-len l =
    (l.len ≡ splice_length l.rest) × (l.len ≤ length l.rest) × (past_splices l.rest ≡ past_splices l.bytes) × (length l.rest ≤ length l.bytes)

abbrev pub decreases-loop-len : goal.decreases-loop-len
decreases-loop-len l = length l.rest
