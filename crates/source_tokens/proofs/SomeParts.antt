-- Tokens have parts.
use Rattle.std.proofs.Common.{◌≡◌, ℕ, true, false, not, List, [], ◌∷◌, ◌++◌, refl, ap, inl, inr}
use Rattle.std.specs.List.{list_all, flat_map, AllByRecursion}
use Rattle.std.proofs.lemmas.Bool.{cases_Bool, and_from}
use Rattle.source_tokens.specs.declared.token.Token.{Token}
use Rattle.source_tokens.specs.Tokens.{Tokens}
use Rattle.source_tokens.specs.Directives.{TokenLine, IsLine, Parts, of_line, line_tokens, line_parts, continues_line, ends_line}

-- tokens parted into lines
record Parted (tokens : List Token) : Type 0 where
  lines : List TokenLine
  last : List Token
  are_lines : AllByRecursion IsLine lines
  last_goes_on : list_all continues_line last ≡ true
  tokens_are : tokens ≡ flat_map line_tokens lines ++ last

-- a token that ends a line stands in front
parted-end : (token : Token) (tokens : List Token) → ends_line token.kind ≡ true → Parted tokens → Parted (token ∷ tokens)
parted-end token tokens ends parted =
    let line : TokenLine = record { tokens = []; ending = token } in
    record { lines = line ∷ parted.lines; last = parted.last; are_lines = ((refl, ends), parted.are_lines); last_goes_on = parted.last_goes_on; tokens_are = ap (λ list. token ∷ list) parted.tokens_are }

-- another token stands in front
parted-on : (token : Token) (tokens : List Token) (lines : List TokenLine) (last : List Token) → ends_line token.kind ≡ false → AllByRecursion IsLine lines → list_all continues_line last ≡ true → tokens ≡ flat_map line_tokens lines ++ last → Parted (token ∷ tokens)
parted-on token tokens [] last on are ons same =
    record { lines = []; last = token ∷ last; are_lines = tt; last_goes_on = and_from (continues_line token) (list_all continues_line last) (ap not on) ons; tokens_are = ap (λ list. token ∷ list) same }
parted-on token tokens (line ∷ lines) last on are ons same =
    let longer : TokenLine = record { tokens = token ∷ line.tokens; ending = line.ending } in
    record {
      lines = longer ∷ lines;
      last = last;
      are_lines = ((and_from (continues_line token) (list_all continues_line line.tokens) (ap not on) are.0.0, are.0.1), are.1);
      last_goes_on = ons;
      tokens_are = ap (λ list. token ∷ list) same;
    }

parted : (tokens : List Token) → Parted tokens
parted [] = record { lines = []; last = []; are_lines = tt; last_goes_on = refl; tokens_are = refl }
parted (token ∷ tokens) =
    let rest = parted tokens in
    elim (cases_Bool (ends_line token.kind)) [
      | inl ends ↦ parted-end token tokens ends rest
      | inr on ↦ parted-on token tokens rest.lines rest.last on rest.are_lines rest.last_goes_on rest.tokens_are
    ]

pub some_parts : (source : List ℕ) (tokens : List Token) → Tokens source tokens → (parts : List Token) × Parts source parts
some_parts source tokens are =
    let lines = parted tokens in (
      flat_map line_parts lines.lines ++ of_line lines.last,
      record {
        tokens = tokens;
        tokens_are = are;
        in_lines = record { lines = lines.lines; last = lines.last; are_lines = lines.are_lines; last_goes_on = lines.last_goes_on; tokens_are = lines.tokens_are; parts_are = refl };
      },
    )
