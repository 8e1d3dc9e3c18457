use Rattle.std.proofs.Common.{List, ℕ, ◌++◌, ◌+◌, ◌≤◌, length, take, arith}
use Rattle.std.proofs.lemmas.List.{length-append, length-take}
use Rattle.nl_io.specs.Content.{Came}
use Rattle.nl_io.proofs.lemmas.Contents.{Came-more, Came-front}
use Rattle.nl_io.proofs.lemmas.Outcomes.{at_err}
use Rattle.nl_io.proofs.source.read_to_limit.Goals as goal

pub returns-in_err-extend_from_slice-clause-err : goal.returns-in_err-extend_from_slice-clause-err
returns-in_err-extend_from_slice-clause-err g c =
    let piece : List ℕ = take c.in_ok-count.count c.read.new.into in
    let came : Came (c.loop-piece.bytes.items ++ piece) (g.S.Source.left c.args.source.now) (g.S.Source.left c.read.new.self) =
    Came-more _ _ _ _ _ _ c.loop-piece.invariant.came c.in_ok-count.ensures.front c.in_ok-count.ensures.moved in
    let few : length (c.loop-piece.bytes.items ++ piece) ≤ c.args.limit + 65536 =
    omega (arith, length-append c.loop-piece.bytes.items piece, length-take c.in_ok-count.count c.read.new.into, c.loop-piece.invariant.room, c.in_ok-count.ensures.within) in
    at_err c.from_residual-in_err-extend_from_slice.result (length (c.loop-piece.bytes.items ++ piece), few, Came-front _ _ _ came)
