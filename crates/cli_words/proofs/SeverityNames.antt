-- The severity that a name is of, by what is said of each.
use Rattle.std.proofs.Common.{◌≡◌, ℕ, Bool, true, false, List, Option, Some, None, refl, sym, subst}
use Rattle.std.proofs.lemmas.Slice.Eq.{bytes_eq-Decides}
use Rattle.std.specs.Prelude.{IfSome, IfNone}
use Rattle.std.specs.Str.{bytes_eq}
use Rattle.log_dictionary.specs.Severities.{severity_name}
use Rattle.log_dictionary.specs.declared.severity.Severity.{Severity}
use Rattle.log_dictionary.specs.declared.severity.Severity.TheVariants.{Error, Warning, Notice, Debug}
use Rattle.cli_words.specs.Commands.{severity_named}

isnt : (name : List ℕ) (severity : Severity) → (name ≡ severity_name severity → ⊥)
    → (b : Bool) → bytes_eq (severity_name severity) name ≡ b → b ≡ false
isnt name severity other true same = absurd (other (sym ((bytes_eq-Decides (severity_name severity) name).0 same)))
isnt name severity other false same = refl

is_other : (name : List ℕ) (severity : Severity) → (name ≡ severity_name severity → ⊥)
    → bytes_eq (severity_name severity) name ≡ false
is_other name severity other = isnt name severity other (bytes_eq (severity_name severity) name) refl

-- the severity whose name it is, or none where it is no severity's
pub severity_is : (name : List ℕ) (found : Option Severity) → IfSome found (λ severity. name ≡ severity_name severity)
    → IfNone found ((severity : Severity) → name ≡ severity_name severity → ⊥) → found ≡ severity_named name
severity_is name (Some Error) some none = subst (λ (n : List ℕ). Some Error ≡ severity_named n) (sym some) refl
severity_is name (Some Warning) some none = subst (λ (n : List ℕ). Some Warning ≡ severity_named n) (sym some) refl
severity_is name (Some Notice) some none = subst (λ (n : List ℕ). Some Notice ≡ severity_named n) (sym some) refl
severity_is name (Some Debug) some none = subst (λ (n : List ℕ). Some Debug ≡ severity_named n) (sym some) refl
severity_is name None some none =
    sym (rw (is_other name Error (none Error), is_other name Warning (none Warning), is_other name Notice (none Notice), is_other name Debug (none Debug)) refl)
