use Rattle.std.proofs.Common.{ℕ, List, ◌++◌, subst}
use Rattle.std.specs.Prelude.{OnOk, OnErr}
use Rattle.nl_io.specs.TextWriters.{Carries, IsCutOff}
use Rattle.schedule_text.proofs.Texts.{ring_pieces}
use Rattle.schedule_text.proofs.printing.put_ring.Goals as goal

pub returns-clause-ok : goal.returns-clause-ok
returns-clause-ok g c =
    subst (λ (line : List ℕ). OnOk c.put_pieces.result (Carries (c.args.writer.now ++ line) (g.O.Sink.put c.args.out.now) (g.O.Sink.put c.put_pieces.new.sink) c.put_pieces.new.self))
    (ring_pieces c.args.ring c.args.view.now _ _ _ _ c.format.ensures.text c.format-2.ensures.text c.format-3.ensures.text c.state_name.ensures)
    c.put_pieces.ensures.ok

pub returns-clause-cut_off : goal.returns-clause-cut_off
returns-clause-cut_off g c =
    subst (λ (line : List ℕ). OnErr c.put_pieces.result (IsCutOff (c.args.writer.now ++ line) (g.O.Sink.put c.args.out.now) (g.O.Sink.put c.put_pieces.new.sink) (g.O.Sink.faults c.args.out.now) (g.O.Sink.faults c.put_pieces.new.sink)))
    (ring_pieces c.args.ring c.args.view.now _ _ _ _ c.format.ensures.text c.format-2.ensures.text c.format-3.ensures.text c.state_name.ensures)
    c.put_pieces.ensures.cut_off
