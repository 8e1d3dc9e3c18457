use Rattle.std.proofs.Common.{◌+◌, ◌*◌, ℕ, List, map, ap, ◌∙◌, arith}
use Rattle.std.proofs.Math.ListN.{set}
use Rattle.std.specs.List.{flat_map}
use Rattle.arg_records.specs.Frames.{words_of_argument}
use Rattle.arg_records.proofs.Arguments.{frame_written}
use Rattle.arg_records.proofs.lemmas.Places.{front_last}
use Rattle.arg_records.proofs.frame.fitting_frame.Goals as goal

pub returns-clause-ok : goal.returns-clause-ok
returns-clause-ok g c =
    let args = map g.A.Argument.value c.args.args.now in
    let head = c.from.result * 65536 + c.in-Some.end in
    frame_written c.args.into.now _ c.args.id c.args.stamp c.from.result c.in-Some.end c.in-Some.end args (omega arith) c.from.ensures c.in-Some.ensures.len c.in-Some.ensures.len
    (ap (λ (l : List ℕ). set (set l 0 head) 1 c.args.stamp) (c.in-Some.ensures.written (omega arith)) ∙ front_last c.args.into.now (flat_map words_of_argument args) head c.args.stamp (omega arith))
