use Rattle.std.proofs.Common.{sym, subst}
use Rattle.command_base.specs.Endings.{Ending}
use Rattle.trace_text.specs.Dictionaries.{DictionaryBreak}
use Rattle.trace_commands.specs.Traces.{GivesNoText}
use Rattle.trace_commands.proofs.Traces.{too_large, lent_no_dictionary}
use Rattle.trace_commands.proofs.reading.dictionary_of_file.Goals as goal

pub returns-in_default-clause-unread : goal.returns-in_default-clause-unread
returns-in_default-clause-unread g c =
    subst (λ (ending : Ending). GivesNoText DictionaryBreak c.args.name.now (g.F.Files.desk c.args.files.now) (g.F.Files.desk c.read_file.new.files) ending) (sym c.refusal_of.ensures)
    (too_large c.args.name.now _ _ c.in_ok-text.ensures.same (rw c.in_default.is at c.in_ok-text.ensures.longer))

pub returns-clause-unread : goal.returns-clause-unread
returns-clause-unread g c =
    let bytes = c.in-Some.text.items in
    subst (λ (ending : Ending). GivesNoText DictionaryBreak c.args.name.now (g.F.Files.desk c.args.files.now) (g.F.Files.desk c.read_file.new.files) ending) (sym c.refusal_of-in-Err.ensures)
    (lent_no_dictionary c.args.name.now _ _ bytes _ c.in-Err.fault c.in_ok-text.ensures.same (rw c.in-Some.is at c.in_ok-text.ensures.all) c.deref.ensures.value c.in-Err.ensures.answer c.in-Err.ensures.read)
