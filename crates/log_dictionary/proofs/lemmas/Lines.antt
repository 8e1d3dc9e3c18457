-- Which bytes the parts of lines lack.
use Rattle.std.proofs.Common.{◌≡◌, ◌≢◌, ℕ, ◌<◌, ◌^◌, true, not, eqb, List, [], ◌∷◌, All, Some, refl, arith, ◌⊎◌}
use Rattle.std.specs.Prelude.{codes, decimal}
use Rattle.std.specs.List.{list_all, AllByRecursion}
use Rattle.std.proofs.lemmas.Bool.{eqb-false, and_parts, not-true}
use Rattle.std.proofs.lemmas.List.Elements.{All-from_get_or, All-from_recursion}
use Rattle.std.proofs.lemmas.Str.Parse.{digit_at}
use Rattle.log_dictionary.specs.declared.severity.Severity.{Severity}
use Rattle.log_dictionary.specs.declared.severity.Severity.TheVariants.{Error, Warning, Notice, Debug}
use Rattle.log_dictionary.specs.Severities.{severity_name}
use Rattle.log_dictionary.specs.Numbers.{natural_of}
use Rattle.log_dictionary.proofs.lemmas.NumberLaws.{number_is, natural_is, decimal_natural}

pub none_by_test : (byte : ℕ) (xs : List ℕ) → list_all (λ x. not (eqb x byte)) xs ≡ true → AllByRecursion (λ x. x ≢ byte) xs
none_by_test byte [] e = tt
none_by_test byte (x ∷ xs) e = let both = and_parts (not (eqb x byte)) (list_all (λ x. not (eqb x byte)) xs) e in (eqb-false _ _ (not-true (eqb x byte) both.0), none_by_test byte xs both.1)

-- no name of a severity has the byte
pub severity_none : (byte : ℕ) → list_all (λ x. not (eqb x byte)) (codes "ERROR") ≡ true → list_all (λ x. not (eqb x byte)) (codes "WARNING") ≡ true → list_all (λ x. not (eqb x byte)) (codes "NOTICE") ≡ true → list_all (λ x. not (eqb x byte)) (codes "DEBUG") ≡ true → (severity : Severity) → All (λ x. x ≢ byte) (severity_name severity)
severity_none byte e1 e2 e3 e4 Error = All-from_recursion (λ x. x ≢ byte) (codes "ERROR") (none_by_test byte (codes "ERROR") e1)
severity_none byte e1 e2 e3 e4 Warning = All-from_recursion (λ x. x ≢ byte) (codes "WARNING") (none_by_test byte (codes "WARNING") e2)
severity_none byte e1 e2 e3 e4 Notice = All-from_recursion (λ x. x ≢ byte) (codes "NOTICE") (none_by_test byte (codes "NOTICE") e3)
severity_none byte e1 e2 e3 e4 Debug = All-from_recursion (λ x. x ≢ byte) (codes "DEBUG") (none_by_test byte (codes "DEBUG") e4)

-- nor have the digits of a number, where it is no digit
pub natural_none : (byte : ℕ) (field : List ℕ) (n : ℕ) → (byte < 48) ⊎ (57 < byte) → natural_of field ≡ Some n → All (λ x. x ≢ byte) field
natural_none byte field n outside e = All-from_get_or (λ x. x ≢ byte) field 0 (λ k h. let d = digit_at field k (number_is 0 n field (natural_is field n e).digits).0 h in omega arith)

pub decimal_none : (byte n : ℕ) → (byte < 48) ⊎ (57 < byte) → n < 2 ^ 64 → All (λ x. x ≢ byte) (decimal n)
decimal_none byte n outside small = natural_none byte (decimal n) n outside (decimal_natural (decimal n) n small refl)
