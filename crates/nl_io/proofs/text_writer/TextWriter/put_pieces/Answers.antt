use Rattle.std.proofs.Common.{refl, sym, ◌∙◌}
use Rattle.std.proofs.lemmas.List.{append-nil, take_all}
use Rattle.nl_io.proofs.lemmas.Outcomes.{at_err}
use Rattle.nl_io.proofs.lemmas.TextWriters.{carries_held, carries_more, cut_more, pieces_more, pieces_cut}
use Rattle.nl_io.proofs.text_writer.TextWriter.put_pieces.Goals as goal

pub loop-piece-init : goal.loop-piece-init
loop-piece-init g c = record {
  carries = carries_held _ c.args.self.now _ (sym (append-nil c.args.self.now));
  counted = refl;
  others = g.met.K.Sink.rest_same _;
}

pub loop-piece-preserved : goal.loop-piece-preserved
loop-piece-preserved g c =
    let was = c.loop-piece.invariant in
    record {
      carries = carries_more _ _ _ _ _ _ _ _ (pieces_more c.args.self.now c.args.pieces.now c.loop-piece.piece-index _ c.loop-piece-test.true) was.carries (rw c.as_bytes.ensures.value at c.in_ok-put.ensures.ok);
      counted = c.in_ok-put.ensures.counted ∙ was.counted;
      others = g.met.K.Sink.rest_then _ _ _ was.others c.put.ensures.others;
    }

pub returns-in_err-put-clause-cut_off : goal.returns-in_err-put-clause-cut_off
returns-in_err-put-clause-cut_off g c =
    let was = c.loop-piece.invariant in
    at_err c.from_residual.result
    (cut_more _ _ _ _ _ _ _ _ _ _ _ (pieces_cut c.args.self.now c.args.pieces.now c.loop-piece.piece-index _ c.loop-piece-test.true) was.carries was.counted (rw c.as_bytes.ensures.value at c.in_err-put.ensures.cut_off))

pub returns-clause-ok : goal.returns-clause-ok
returns-clause-ok g c =
    let was = c.loop-piece.invariant in
    rw (take_all c.loop-piece.piece-index c.args.pieces.now c.loop-piece-test.false) at was.carries
