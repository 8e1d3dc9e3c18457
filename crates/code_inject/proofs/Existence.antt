-- Each source is rewritten or refused.
use Rattle.std.proofs.Common.{◌≡◌, ℕ, List, [], ◌∷◌, length, refl, sym, ap, ◌∙◌, inl, inr, arith}
use Rattle.std.specs.Prelude.{Some}
use Rattle.std.specs.List.{AllByRecursion, list_any}
use Rattle.std.proofs.lemmas.Bool.{cases_Bool}
use Rattle.std.proofs.lemmas.Option.{slice_get-get_or}
use Rattle.log_dictionary.specs.declared.message.Message.{Message}
use Rattle.log_dictionary.specs.Messages.{is_same, HasMessage, HasId}
use Rattle.log_dictionary.proofs.lemmas.Distinct.{there_from_test, none_from_test}
use Rattle.source_scan.specs.declared.found.Found.{Found}
use Rattle.source_scan.specs.declared.found.Found.TheVariants as found
use Rattle.source_scan.specs.Statements.{Statements}
use Rattle.preprocessor.specs.Findings.{bad_refusal, IsNamed}
use Rattle.preprocessor.specs.declared.refusal.SourceRefusal.{SourceRefusal}
use Rattle.preprocessor.proofs.lemmas.Finding.{statements_are_named}
use Rattle.code_inject.specs.Outcomes.{Outcome, unknown_refusal, IsOutcome, AreOutcomes, refusals_in}
use Rattle.code_inject.specs.Injected.{HasAnswer}

has_id : (dictionary : List Message) (message : Message) → HasMessage dictionary message → (id : ℕ) × HasId dictionary message id
has_id dictionary message (id, other, within, is, same) = (id, (other, slice_get-get_or dictionary id other within ∙ ap Some is, same))

has_outcome : (dictionary : List Message) (one : Found) → IsNamed one → (outcome : Outcome) × IsOutcome dictionary one outcome
has_outcome dictionary (found.Bad bad) named = (Outcome.refused (bad_refusal bad), refl)
has_outcome dictionary (found.Statement statement) named =
    let message : Message = record { file = statement.file; line = statement.line; severity = statement.severity; format = statement.format; file_length = named } in
    elim (cases_Bool (list_any (is_same message) dictionary)) [
      | inl there ↦
          let has = has_id dictionary message (there_from_test dictionary message there) in (
            Outcome.rewritten (record { start = statement.start; head = statement.head; id = has.0 }),
            record { message = message; is = record { file = refl; line = refl; severity = refl; format = refl }; has = has.1; start = refl; head = refl },
          )
      | inr none ↦ (
        Outcome.refused (unknown_refusal statement),
        record { message = message; is = record { file = refl; line = refl; severity = refl; format = refl }; has_none = none_from_test dictionary message none; refusal_is = refl },
      )
    ]

have_outcomes : (dictionary : List Message) (list : List Found) → AllByRecursion IsNamed list → (outcomes : List Outcome) × AreOutcomes dictionary list outcomes
have_outcomes dictionary [] named = ([], refl)
have_outcomes dictionary (one ∷ list) named =
    let first = has_outcome dictionary one named.0 in
    let others = have_outcomes dictionary list named.1 in
    (first.0 ∷ others.0, (first.0, others.0, refl, first.1, others.1))

pub some_answer : (file source : List ℕ) (dictionary : List Message) (list : List Found) → Statements file source list → HasAnswer file source dictionary
some_answer file source dictionary list statements = by_refusals (refusals_in outcomes.0) refl
  where
    outcomes : (outcomes : List Outcome) × AreOutcomes dictionary list outcomes
    outcomes = have_outcomes dictionary list (statements_are_named file source list statements)

    by_refusals : (refusals : List SourceRefusal) → refusals_in outcomes.0 ≡ refusals → HasAnswer file source dictionary
    by_refusals [] none =
        inl (_, _, record { found = list; statements = statements; injected = record { outcomes = outcomes.0; are = outcomes.1; none_refused = none; text_is = refl }; count_is = refl })
    by_refusals (refusal ∷ others) some = inr (refusal ∷ others, record { found = list; statements = statements; refused = record { outcomes = outcomes.0; are = outcomes.1; refusals_are = sym some; some = λ empty. absurd (omega (arith, ap length empty)) } })
