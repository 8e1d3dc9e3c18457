use Rattle.std.proofs.Common.{refl, sym, subst, ◌∙◌, inl, inr, arith}
use Rattle.log_dictionary.specs.declared.message.Message.{Message}
use Rattle.trace_text.specs.declared.cause.TraceCause.TheVariants.{Header, Message as OtherLine}
use Rattle.trace_text.specs.declared.reading.TraceFault.{TraceFault}
use Rattle.trace_text.specs.Dictionaries.{LacksFirstLine, DictionaryText, DictionaryBreak}
use Rattle.trace_text.specs.TraceReading.{IsAnswerTo}
use Rattle.std.specs.Prelude.{List, Err}
use Rattle.trace_text.proofs.DictionaryReads.{read_none, read_more, told_as, other_line, no_more, last_line_cut, all_read}
use Rattle.trace_text.proofs.LineFronts.{line_begins, line_begins_not}
use Rattle.trace_text.proofs.dictionaries.dictionary_of.Goals as goal

pub returns-in_default-clause-answer : goal.returns-in_default-clause-answer
returns-in_default-clause-answer c = told_as c.args.text.now _ 1 Header (rw c.of-all.ensures.number at c.refused.ensures) (inr (c.requires, inl (subst LacksFirstLine c.of-all.ensures.bytes c.in_default.ensures.none, refl, refl)))

pub loop-line-init : goal.loop-line-init
loop-line-init c = read_none c.args.text.now c.make-dictionary.result c.in-Some.lines c.make-dictionary.ensures (sym c.of-all.ensures.bytes ∙ c.in-Some.ensures.some) (omega (arith, c.in-Some.ensures.next, c.of-all.ensures.number))

pub returns-then-not-starts_with-clause-answer : goal.returns-then-not-starts_with-clause-answer
returns-then-not-starts_with-clause-answer c =
    told_as c.args.text.now _ _ OtherLine c.refused-then-not-starts_with.ensures
    (other_line c.args.text.now c.loop-line.dictionary c.loop-line.lines c.in-Some-split_first.line.now c.in-Some-split_first.rest.bytes.now c.requires c.loop-line.invariant c.in-Some-split_first.ensures.some (line_begins_not c.in-Some-split_first.line.now c.starts_with.result c.starts_with.ensures.value c.if-not-starts_with.true))

pub returns-in-Err-clause-answer : goal.returns-in-Err-clause-answer
returns-in-Err-clause-answer c =
    subst (λ (fault : TraceFault). IsAnswerTo {A = List Message} (DictionaryText c.args.text.now) (DictionaryBreak c.args.text.now) (Err fault)) (sym c.message_fault.ensures)
    (no_more c.args.text.now c.loop-line.dictionary c.read_line.new.self c.loop-line.lines c.in-Some-split_first.line.now c.in-Some-split_first.rest.bytes.now c.in-Err.fault c.requires c.loop-line.invariant c.in-Some-split_first.ensures.some (line_begins c.in-Some-split_first.line.now c.starts_with.result c.starts_with.ensures.value c.if-not-starts_with.false) c.in-Err.ensures.reads)

pub loop-line-preserved : goal.loop-line-preserved
loop-line-preserved c = read_more c.args.text.now c.loop-line.dictionary c.read_line.new.self c.loop-line.lines c.in-Some-split_first.rest c.in-Some-split_first.line.now c.loop-line.invariant c.in-Some-split_first.ensures.some c.in-Some-split_first.ensures.next c.in_default-read_line.ensures.reads

pub returns-then-not-is_empty-clause-answer : goal.returns-then-not-is_empty-clause-answer
returns-then-not-is_empty-clause-answer c =
    told_as c.args.text.now _ _ OtherLine c.refused-then-not-is_empty.ensures (last_line_cut c.args.text.now c.loop-line.dictionary c.loop-line.lines c.requires c.loop-line.invariant c.in_default-split_first.ensures.none (sym c.is_empty.ensures ∙ c.if-not-is_empty.true))

pub returns-clause-answer : goal.returns-clause-answer
returns-clause-answer c = all_read c.args.text.now c.loop-line.dictionary c.loop-line.lines c.requires c.loop-line.invariant (sym c.is_empty.ensures ∙ c.if-not-is_empty.false)
