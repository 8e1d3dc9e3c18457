use Rattle.std.proofs.Common.{◌≡◌, ◌≢◌, [], rules, refl, ap, ◌∙◌, inr, arith}
use Rattle.std.proofs.lemmas.Grind.{common_steps}
use Rattle.std.specs.List.{flat_map}
use Rattle.nl_io.specs.Desk.{Desk}
use Rattle.preprocessor.specs.Causes.{refusal_line}
use Rattle.command_base.specs.declared.refusal.Refusal.TheVariants.{NoMemory as WantsMemory}
use Rattle.command_base.specs.Endings.{RefusedSources}
use Rattle.command_base.specs.Scenes.{scene}
use Rattle.command_base.specs.Words.{contents}
use Rattle.source_commands.proofs.Preprocessings.{gave_nothing, answered_nothing, dictionary_written, dictionary_lost}
use Rattle.source_commands.proofs.SourceLemmas.{refused_told, all_taken, lacks_behind_last}
use Rattle.source_commands.proofs.preprocessing.preprocess.Goals as goal

pub returns-in_err-numbering-clause-ends : goal.returns-in_err-numbering-clause-ends
returns-in_err-numbering-clause-ends g c =
    answered_nothing c.args.dictionary.now (contents c.args.sources.now) (scene (g.F.Files.desk c.args.files.now) (g.O.Sink.put c.args.out.now) (g.O.Sink.faults c.args.out.now)) _ c.from_residual.result c.in_err-numbering.field-0.0 c.from_residual.ensures.1
    c.in_err-numbering.ensures.nothing

pub returns-in_err-lines-clause-ends : goal.returns-in_err-lines-clause-ends
returns-in_err-lines-clause-ends g c =
    let some : c.in_ok-numbering.numbering.refusals.items ≢ [] = first_of (search rules, grind (arith, common_steps)) in
    answered_nothing c.args.dictionary.now (contents c.args.sources.now) (scene (g.F.Files.desk c.args.files.now) (g.O.Sink.put c.args.out.now) (g.O.Sink.faults c.args.out.now)) _ c.from_residual-in_err-lines.result WantsMemory c.from_residual-in_err-lines.ensures.1
    (inr (flat_map refusal_line c.in_ok-numbering.numbering.refusals.items, refused_told _ _ _ c.in_ok-numbering.numbering _ c.in_ok-numbering.ensures.numbered some refl))

pub returns-then-not-is_empty-clause-ends : goal.returns-then-not-is_empty-clause-ends
returns-then-not-is_empty-clause-ends g c =
    let some : c.in_ok-numbering.numbering.refusals.items ≢ [] = first_of (search rules, grind (arith, common_steps)) in
    gave_nothing c.args.dictionary.now (contents c.args.sources.now) (scene (g.F.Files.desk c.args.files.now) (g.O.Sink.put c.args.out.now) (g.O.Sink.faults c.args.out.now)) (g.F.Files.desk c.number_sources.new.files) (RefusedSources c.in_ok-lines.lines.items)
    (refused_told _ _ _ c.in_ok-numbering.numbering _ c.in_ok-numbering.ensures.numbered some (rw c.deref.ensures.value at c.in_ok-lines.ensures))

pub returns-in_err-text-clause-ends : goal.returns-in_err-text-clause-ends
returns-in_err-text-clause-ends g c =
    let none : c.in_ok-numbering.numbering.refusals.items ≡ [] = first_of (search rules, grind (arith, common_steps)) in
    let numbered = c.in_ok-numbering.ensures.numbered in
    answered_nothing c.args.dictionary.now (contents c.args.sources.now) (scene (g.F.Files.desk c.args.files.now) (g.O.Sink.put c.args.out.now) (g.O.Sink.faults c.args.out.now)) _ c.from_residual-in_err-text.result WantsMemory c.from_residual-in_err-text.ensures.1
    (lacks_behind_last _ _ _ (all_taken _ _ _ c.in_ok-numbering.numbering numbered none).0 (numbered.whole none).1)

pub returns-in-Ok-clause-ends : goal.returns-in-Ok-clause-ends
returns-in-Ok-clause-ends g c =
    let none : c.in_ok-numbering.numbering.refusals.items ≡ [] = first_of (search rules, grind (arith, common_steps)) in
    let numbered = c.in_ok-numbering.ensures.numbered in
    let same = (numbered.whole none).1 in
    dictionary_written c.args.dictionary.now (contents c.args.sources.now) (scene (g.F.Files.desk c.args.files.now) (g.O.Sink.put c.args.out.now) (g.O.Sink.faults c.args.out.now)) _ c.in_ok-numbering.numbering.dictionary c.in_ok-numbering.numbering.statements _ _ _ (all_taken _ _ _ c.in_ok-numbering.numbering numbered none)
    (rw (c.deref-2.ensures.value, c.in_ok-text.ensures) at c.in-Ok.ensures.ok) (rw same at c.save.ensures.only) (c.in-Ok.ensures.counted ∙ ap (λ (d : Desk). d.write_faults) same)
    (rw c.len.ensures.value at c.print_numbers.ensures.printed) c.print_numbers.ensures.memory

pub returns-clause-ends : goal.returns-clause-ends
returns-clause-ends g c =
    let none : c.in_ok-numbering.numbering.refusals.items ≡ [] = first_of (search rules, grind (arith, common_steps)) in
    let numbered = c.in_ok-numbering.ensures.numbered in
    let same = (numbered.whole none).1 in
    dictionary_lost c.args.dictionary.now (contents c.args.sources.now) (scene (g.F.Files.desk c.args.files.now) (g.O.Sink.put c.args.out.now) (g.O.Sink.faults c.args.out.now)) (g.F.Files.desk c.save.new.files) c.in_ok-numbering.numbering.dictionary c.in_ok-numbering.numbering.statements (all_taken _ _ _ c.in_ok-numbering.numbering numbered none)
    (rw (same, c.deref-2.ensures.value, c.in_ok-text.ensures) at c.in-Err.ensures.front) (rw same at c.save.ensures.only) (rw same at c.in-Err.ensures.cause)

pub returns-in-Ok-clause-files_others : goal.returns-in-Ok-clause-files_others
returns-in-Ok-clause-files_others g c = g.met.F.Files.rest_then _ _ _ c.number_sources.ensures.others c.save.ensures.others

pub returns-clause-files_others : goal.returns-clause-files_others
returns-clause-files_others g c = g.met.F.Files.rest_then _ _ _ c.number_sources.ensures.others c.save.ensures.others
