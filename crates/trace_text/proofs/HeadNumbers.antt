-- Numbers in front of spaces, as they are read.
use Rattle.std.proofs.Common.{◌≡◌, ◌≢◌, ℕ, ◌-◌, ◌<◌, ◌≤◌, List, [], ◌∷◌, ◌++◌, length, take, drop, Option, Some, None, refl, sym, ap, ◌∙◌, append-nil, arith}
use Rattle.std.specs.Option.{option_map}
use Rattle.std.proofs.lemmas.Bool.{eqb-true}
use Rattle.std.proofs.lemmas.List.{take_all}
use Rattle.std.proofs.lemmas.List.Elements.{All-from_recursion}
use Rattle.log_dictionary.specs.Fields.{◌>>=◌, first_field, split_at_first, of_first_field}
use Rattle.log_dictionary.proofs.lemmas.Splits.{split_again}
use Rattle.log_dictionary.proofs.lemmas.FieldLemmas.{not_parted}
use Rattle.trace_text.specs.LineFields.{field_number, number_before}
use Rattle.trace_text.proofs.ArgumentLines.{IsParted, first_taken}

-- what is behind the field is behind a space
abbrev behind_space : List ℕ → List ℕ → Option (List ℕ × List ℕ)
behind_space field [] = None
behind_space field (byte ∷ rest) = Some (field, rest)

split_first : (bytes field rest : List ℕ) → IsParted bytes field rest → split_at_first 32 bytes ≡ behind_space field rest
split_first bytes field [] is = ap (split_at_first 32) (is.joined ∙ append-nil field) ∙ not_parted 32 field (All-from_recursion (λ byte. byte ≢ 32) field is.none)
split_first bytes field (byte ∷ rest) is = ap (split_at_first 32) (is.joined ∙ ap (λ (b : ℕ). field ++ b ∷ rest) (eqb-true byte 32 is.ends)) ∙ split_again 32 field rest (All-from_recursion (λ byte. byte ≢ 32) field is.none)

-- the number of a field that a space ends, and what follows the space
abbrev behind : Option (ℕ × List ℕ) → Option (ℕ × List ℕ)
behind None = None
behind (Some (n, [])) = None
behind (Some (n, byte ∷ rest)) = Some (n, rest)

before_is : (bytes : List ℕ) (found : Option (ℕ × List ℕ)) → found ≡ of_first_field field_number bytes → number_before bytes ≡ behind found
before_is bytes found e = ap (λ (o : Option (List ℕ × List ℕ)). o >>= number_in) (split_first bytes (first_field bytes).0 (first_field bytes).1 (first_taken bytes)) ∙ by_rest (first_field bytes).0 (first_field bytes).1 ∙ ap behind (sym e)
  where
    number_in : List ℕ × List ℕ → Option (ℕ × List ℕ)
    number_in parts = field_number parts.0 >>= (λ number. Some (number, parts.1))

    at_end : (o : Option ℕ) → None ≡ behind (option_map (λ n. (n, [])) o)
    at_end None = refl
    at_end (Some n) = refl

    at_space : (o : Option ℕ) (byte : ℕ) (rest : List ℕ) → (o >>= (λ n. Some (n, rest))) ≡ behind (option_map (λ n. (n, byte ∷ rest)) o)
    at_space None byte rest = refl
    at_space (Some n) byte rest = refl

    by_rest : (field rest : List ℕ) → (behind_space field rest >>= number_in) ≡ behind (option_map (λ n. (n, rest)) (field_number field))
    by_rest field [] = at_end (field_number field)
    by_rest field (byte ∷ rest) = at_space (field_number field) byte rest

-- the first field is no number
pub no_number : (bytes : List ℕ) → None ≡ of_first_field field_number bytes → None ≡ number_before bytes
no_number bytes e = sym (before_is bytes None e)

-- nothing follows it
pub no_space : (bytes rest : List ℕ) (n : ℕ) → Some (n, rest) ≡ of_first_field field_number bytes → length rest < 1 → None ≡ number_before bytes
no_space bytes [] n e none = sym (before_is bytes (Some (n, [])) e)
no_space bytes (byte ∷ rest) n e none = absurd (omega (arith, none))

pub number_found : (bytes rest : List ℕ) (n : ℕ) → Some (n, rest) ≡ of_first_field field_number bytes → 1 ≤ length rest → Some (n, take (length rest - 1) (drop 1 rest)) ≡ number_before bytes
number_found bytes [] n e some = absurd (omega (arith, some))
number_found bytes (byte ∷ rest) n e some = ap (λ (l : List ℕ). Some (n, l)) (take_all (length (byte ∷ rest) - 1) rest (omega arith)) ∙ sym (before_is bytes (Some (n, byte ∷ rest)) e)
