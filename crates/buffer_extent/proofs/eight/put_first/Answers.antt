use Rattle.std.proofs.Common.{◌++◌, List, ℕ, take, drop, ap, ◌∙◌}
use Rattle.std.specs.Int.{w64, to_le_bytes}
use Rattle.buffer_extent.proofs.Joining.{eight_put}
use Rattle.buffer_extent.proofs.eight.put_first.Goals as goal

pub returns : goal.returns
returns c =
    let bytes = c.args.bytes.now in
    let front : List ℕ = take c.args.len (to_le_bytes w64 c.args.word) in
    ap (λ (b : List ℕ). b ++ drop 8 bytes) (c.to_le_bytes.ensures ∙ c.joined-whole.ensures ∙ ap (λ (b : List ℕ). front ++ drop c.args.len b) c.first_word.ensures)
    ∙ eight_put front bytes c.args.len c.requires.len c.requires.room
