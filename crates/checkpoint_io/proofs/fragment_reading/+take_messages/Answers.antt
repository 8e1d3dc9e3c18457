use Rattle.std.proofs.Common.{ℕ, sym, subst}
use Rattle.nibble_pack.proofs.lemmas.Parsing.{handed_on}
use Rattle.checkpoint_io.specs.Places.{log_place}
use Rattle.checkpoint_io.specs.Entries.{TakesMessages}
use Rattle.checkpoint_io.proofs.NextLaws.{no_messages, messages_answer, messages_refused}
use Rattle.checkpoint_io.proofs.fragment_reading.+take_messages.Goals as goal

pub returns-then-count-eq0-clause-read : goal.returns-then-count-eq0-clause-read
returns-then-count-eq0-clause-read g t c =
    let at = log_place c.args.pending.now (g.S.Source.left c.args.source.now) in
    subst (λ (n : ℕ). TakesMessages c.args.dictionary.now n c.args.dictionary.now at at) (sym c.if-count-eq0.true) (no_messages c.args.dictionary.now at c.requires.fits)

pub returns-in_err-take_message-clause-read : goal.returns-in_err-take_message-clause-read
returns-in_err-take_message-clause-read g t c =
    let from = log_place c.args.pending.now (g.S.Source.left c.args.source.now) in
    handed_on _ _ _ _ c.from_residual.ensures.1 (messages_refused c.args.dictionary.now c.args.count from _ c.in_err-take_message.field-0.0 c.if-count-eq0.false c.in_err-take_message.ensures.read)

pub returns-clause-read : goal.returns-clause-read
returns-clause-read g t c =
    messages_answer c.take_messages.result c.args.dictionary.now c.take_message.new.dictionary c.take_messages.new.dictionary c.args.count _ _ _ _ c.if-count-eq0.false c.in_ok-take_message.ensures.read c.take_messages.ensures.read
