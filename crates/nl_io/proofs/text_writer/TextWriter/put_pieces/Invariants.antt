use Rattle.std.proofs.Common.{◌≡◌, ◌++◌, take}
use Rattle.nl_io.specs.TextWriters.{Carries, text_of_pieces}
use Rattle.nl_io.proofs.text_writer.TextWriter.put_pieces.Given as goal

-- the text goes on with the pieces so far, and no call failed
abbrev pub invariant-loop-piece : goal.invariant-loop-piece
invariant-loop-piece g l = record {
  carries : Carries (l.fn.self ++ text_of_pieces (take l.piece-index l.pieces)) (g.K.Sink.put l.fn.sink) (g.K.Sink.put l.sink) l.self;
  counted : g.K.Sink.faults l.sink ≡ g.K.Sink.faults l.fn.sink;
  others : g.K.Sink.rest l.fn.sink l.sink;
}
