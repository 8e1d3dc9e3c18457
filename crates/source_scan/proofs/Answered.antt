-- Answers about one statement.
use Rattle.std.proofs.Common.{ℕ, List, Result, Ok, Err, sym, subst}
use Rattle.std.specs.Prelude.{IfOk}
use Rattle.source_scan.specs.declared.found.Found.{Found}
use Rattle.source_scan.specs.declared.found.Found.TheVariants as found
use Rattle.source_scan.specs.declared.found.StatementCause.{StatementCause}
use Rattle.source_scan.specs.Readings.{Parted, HasCause, IsRefused, IsRead}

-- a statement that is refused from the cause that it has
pub refused-read : (source : List ℕ) (reading : Parted) (cause : StatementCause) (one : Found) → HasCause source reading cause → IsRefused reading cause one → IsRead source reading one
refused-read source reading cause (found.Statement statement) has is = absurd is
refused-read source reading cause (found.Bad bad) has is = (is.0, subst (HasCause source reading) (sym is.1) has)

pub refused-result : {E : Type 0} (source : List ℕ) (reading : Parted) (cause : StatementCause) (result : Result Found E) → HasCause source reading cause → IfOk result (IsRefused reading cause) → IfOk result (IsRead source reading)
refused-result source reading cause (Ok one) has is = refused-read source reading cause one has is
refused-result source reading cause (Err error) has is = is
