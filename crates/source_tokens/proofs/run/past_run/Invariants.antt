use Rattle.std.proofs.Common.{◌≤◌, length}
use Rattle.std.specs.List.{list_all}
use Rattle.source_tokens.specs.Bytes.{is_of_class}
use Rattle.source_tokens.proofs.lemmas.Passing.{Passes}
use Rattle.source_tokens.proofs.run.past_run.Given as goal

abbrev pub invariant-loop-rest : goal.invariant-loop-rest
invariant-loop-rest l =
    Passes (list_all (is_of_class l.class)) (list_all (is_of_class l.class)) l.bytes l.rest × (length l.rest ≤ length l.bytes)

abbrev pub decreases-loop-rest : goal.decreases-loop-rest
decreases-loop-rest l = length l.rest
