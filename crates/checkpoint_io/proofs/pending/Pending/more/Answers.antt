use Rattle.std.proofs.Common.{◌≡◌, List, ℕ, ◌++◌, take, ap, ◌∙◌}
use Rattle.checkpoint_io.specs.Places.{UnreadBytes, with_front}
use Rattle.checkpoint_io.proofs.StepLaws.{piece_waits}
use Rattle.checkpoint_io.proofs.pending.Pending.more.Goals as goal

pub returns-clause-same : goal.returns-clause-same
returns-clause-same g c =
    let piece = take c.in-Ok.count c.read.new.into in
    let behind : c.extend_from_slice.new.self.items ≡ c.args.self.now.bytes ++ piece =
    c.in-Ok-extend_from_slice.ensures.items ∙ ap (λ (b : List ℕ). b ++ piece) (c.drop_front.ensures ∙ ap (λ (w : UnreadBytes). w.bytes) c.self.view_is) in
    ap (with_front c.extend_from_slice.new.self.items) c.in-Ok.ensures.moved
    ∙ piece_waits (g.S.Source.left c.args.source.now) c.args.self.now.bytes c.extend_from_slice.new.self.items piece c.in-Ok.count c.in-Ok.ensures.front behind
