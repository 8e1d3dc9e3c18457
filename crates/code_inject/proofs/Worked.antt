-- A worked source.
use Rattle.std.proofs.Common.{◌≡◌, ℕ, [], ◌∷◌, refl}
use Rattle.std.specs.Prelude.{slice_get, Some}
use Rattle.std.specs.Fmt.{digits}
use Rattle.printf_grammar.specs.Pieces.{Parsed}
use Rattle.log_dictionary.specs.declared.severity.Severity.{Severity}
use Rattle.log_dictionary.specs.declared.severity.Severity.TheVariants.{Error, Notice, Debug}
use Rattle.code_inject.specs.Rewrites.{rewritten_from}
use Rattle.code_inject.specs.Outcomes.{Outcome, IsOutcome}
use Rattle.code_inject.specs.Injected.{Injected}
use Rattle.code_inject.specs.Rows.{letter_x, letter_y, format_d, message_in, statement_in, injected_source, injected_found, worked_dictionary, worked_text}

known_in : (line : ℕ) (severity : Severity) (format : Parsed) (args start head end id : ℕ) → slice_get worked_dictionary id ≡ Some (message_in line severity format)
    → IsOutcome worked_dictionary (statement_in line severity format args start head end) (Outcome.rewritten (record { start = start; head = head; id = id }))
known_in line severity format args start head end id there = record {
  message = message_in line severity format;
  is = record { file = refl; line = refl; severity = refl; format = refl };
  has = (message_in line severity format, there, record { file = refl; line = refl; severity = refl; format = refl });
  start = refl;
  head = refl;
}

pub worked : Injected injected_source injected_found worked_dictionary worked_text
unfolding rewritten_from digits
worked = record {
  outcomes = Outcome.rewritten (record { start = 5; head = 24; id = 2 }) ∷ Outcome.rewritten (record { start = 27; head = 47; id = 0 }) ∷ Outcome.rewritten (record { start = 53; head = 85; id = 1 }) ∷ [];
  are = (
    _,
    _,
    refl,
    known_in 1 Error letter_x 0 5 24 25 2 refl,
    (_, _, refl, known_in 1 Debug format_d 1 27 47 51 0 refl, (_, _, refl, known_in 2 Notice letter_y 0 53 85 86 1 refl, refl)),
  );
  none_refused = refl;
  text_is = refl;
}
