use Rattle.std.proofs.Common.{refl, sym}
use Rattle.std.proofs.lemmas.List.{append-nil}
use Rattle.source_scan.specs.declared.found.Found.TheVariants as found
use Rattle.preprocessor.specs.declared.refusal.SourceRefusal.{SourceRefusal}
use Rattle.preprocessor.specs.declared.refusal.RefusalCause.TheVariants as causes
use Rattle.code_inject.specs.declared.rewrite.Rewrite.{Rewrite}
use Rattle.code_inject.specs.Outcomes.{Outcome}
use Rattle.code_inject.proofs.Gathered.{holds_more, refusal_same}
use Rattle.code_inject.proofs.outcomes.Outcomes.add_statement.Goals as goal

pub returns-in_ok-push-in-Some : goal.returns-in_ok-push-in-Some
returns-in_ok-push-in-Some c = λ before.
    let rewrite : Rewrite = record { start = c.args.statement.start; head = c.args.statement.head; id = c.in-Some.id } in
    holds_more c.args.dictionary.now before (found.Statement c.args.statement) (Outcome.rewritten rewrite) c.args.self.now _
    (record { message = c.message_of-message.result; is = c.message_of-message.ensures; has = c.in-Some.ensures; start = refl; head = refl }) c.in_ok-push-in-Some.ensures.items (sym (append-nil c.args.self.now.refusals.items))

pub returns-in_ok-push-in-None : goal.returns-in_ok-push-in-None
returns-in_ok-push-in-None c = λ before.
    let message = c.message_of-message in
    let refusal : SourceRefusal = record { file = message.result.file; line = message.result.line; cause = causes.NotInDictionary } in
    holds_more c.args.dictionary.now before (found.Statement c.args.statement) (Outcome.refused refusal) c.args.self.now _
    (record { message = message.result; is = message.ensures; has_none = c.in-None.ensures; refusal_is = refusal_same _ _ _ _ causes.NotInDictionary message.ensures.file message.ensures.line }) (sym (append-nil c.args.self.now.rewrites.items)) c.in_ok-push-in-None.ensures.items
