use Rattle.std.proofs.Common.{IfOk, Result, Ok, ap, subst, ◌∙◌}
use Rattle.log_dictionary.specs.declared.dictionary.Added.{Added}
use Rattle.log_dictionary.specs.declared.dictionary.Added.TheVariants.{Old, New}
use Rattle.log_dictionary.specs.declared.dictionary.AddFault.{AddFault}
use Rattle.log_dictionary.specs.Additions.{IsAdded}
use Rattle.log_dictionary.proofs.lemmas.Distinct.{id_is_there}
use Rattle.checkpoint_io.proofs.NextLaws.{new_message, old_message}
use Rattle.checkpoint_io.proofs.fragment_reading.take_message.Goals as goal

pub returns-in-Ok-New-clause-read : goal.returns-in-Ok-New-clause-read
returns-in-Ok-New-clause-read g c =
    let before = c.args.dictionary.now in
    let message = c.in_ok-message.message in
    let is : IsAdded before message c.add.new.self (New c.in-Ok-New.field-0-0) = subst (λ (r : Result Added AddFault). IfOk r (λ added. IsAdded before message c.add.new.self added)) (c.in-Ok-New.is ∙ ap Ok c.in-Ok-New.field-0-is) c.add.ensures.ok in
    new_message before c.add.new.self message _ _ c.in_ok-message.ensures.read is.0 is.2

pub returns-in-Ok-Old-clause-read : goal.returns-in-Ok-Old-clause-read
returns-in-Ok-Old-clause-read g c =
    let before = c.args.dictionary.now in
    let message = c.in_ok-message.message in
    let is : IsAdded before message c.add.new.self (Old c.in-Ok-Old.field-0-0) = subst (λ (r : Result Added AddFault). IfOk r (λ added. IsAdded before message c.add.new.self added)) (c.in-Ok-Old.is ∙ ap Ok c.in-Ok-Old.field-0-is) c.add.ensures.ok in
    old_message before message _ _ (g.S.Source.left c.next_message.new.source) c.in_ok-message.ensures.read (id_is_there before message c.in-Ok-Old.field-0-0 is.0)
