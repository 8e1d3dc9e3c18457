use Rattle.std.proofs.Common.{ap, refl, subst, ◌∙◌, arith}
use Rattle.nl_io.specs.Content.{with_end, PutsFront}
use Rattle.checkpoint_io.specs.declared.header.Header.{Header}
use Rattle.checkpoint_io.specs.Blocks.{header_bytes}
use Rattle.roaming_consumer.specs.Roamers.{roamer_header}
use Rattle.roaming_consumer.proofs.lemmas.Sending.{sent_whole, err_of}
use Rattle.roaming_consumer.proofs.Standing.{begun, appended, cut_short}
use Rattle.roaming_consumer.proofs.roamer.Roamer.begin.Goals as goal

pub returns-clause-wrote : goal.returns-clause-wrote
returns-clause-wrote g c =
    let put = sent_whole _ _ _ _ _ _ c.if-is_err.ensures.value c.write_header.ensures.sent in
    appended g.S.StageOut.got g.S.StageOut.ended c.args.self.now _ _ (header_bytes (roamer_header c.args.self.now)) _ _ refl refl
    (put ∙ ap (λ (h : Header). with_end (header_bytes h) (g.K.Sink.put c.args.sink.now)) c.header-header.ensures.value)
    (begun g.S.StageOut.got g.S.StageOut.ended c.args.self.now _ c.requires refl (record { messages = refl; version = refl; clocks = refl; clock = refl; batch = refl }) refl c.header-header.ensures.right)

pub returns-then-is_err-clause-wrote : goal.returns-then-is_err-clause-wrote
returns-then-is_err-clause-wrote g c =
    let puts = err_of c.write_header.result c.if-is_err.ensures.value c.write_header.ensures.sent.err in
    cut_short g.S.StageOut.got g.S.StageOut.ended c.args.self.now _ _ (header_bytes (roamer_header c.args.self.now)) _ _ refl refl (omega arith)
    (subst (λ (h : Header). PutsFront (header_bytes h) (g.K.Sink.put c.args.sink.now) (g.K.Sink.put c.write_header.new.sink)) c.header-header.ensures.value puts)
    (begun g.S.StageOut.got g.S.StageOut.ended c.args.self.now _ c.requires refl (record { messages = refl; version = refl; clocks = refl; clock = refl; batch = refl }) refl c.header-header.ensures.right)
