use Rattle.std.proofs.Common.{◌++◌, ◌-◌, List, ℕ, length, take, drop, ap, sym, ◌∙◌, arith}
use Rattle.std.proofs.lemmas.List.{length-take-le}
use Rattle.std.specs.Int.{w64, to_le_bytes}
use Rattle.nibble_pack.specs.Bytes.{length-bytes_low_first}
use Rattle.buffer_extent.proofs.Joining.{front_put}
use Rattle.buffer_extent.proofs.eight.put_front.Goals as goal

pub returns-clause-written : goal.returns-clause-written
returns-clause-written c =
    let body = c.args.body.now in
    let at = c.args.at in
    let front : List ℕ = take c.args.len (to_le_bytes w64 c.args.word) in
    let rest : List ℕ = drop (length body - at) (drop at body) in
    let long = length-take-le c.args.len (to_le_bytes w64 c.args.word) (omega (arith, length-bytes_low_first 0 8 c.args.word)) in
    ap (λ (b : List ℕ). take at body ++ (b ++ rest)) c.put_first.ensures
    ∙ ap (λ (n : ℕ). take at body ++ ((front ++ drop n (take (length body - at) (drop at body))) ++ rest)) (sym long)
    ∙ front_put body front at (omega arith)
