-- Tokens that are taken one by one, with the directives of their lines.
use Rattle.std.proofs.Common.{◌≡◌, ℕ, zero, suc, true, List, [], ◌∷◌, ◌++◌, refl, sym, ap, ◌∙◌, append_assoc}
use Rattle.std.specs.List.{flat_map, AllByRecursion}
use Rattle.std.proofs.lemmas.List.{append-nil}
use Rattle.std.proofs.lemmas.List.Concat.{flat_map-append}
use Rattle.source_tokens.specs.declared.token.Token.{Token}
use Rattle.source_tokens.specs.declared.line_parts.LinePlace.{LinePlace}
use Rattle.source_tokens.specs.declared.line_parts.LinePlace.TheVariants.{Front, Behind, Inside}
use Rattle.source_tokens.specs.Tokens.{front_tokens}
use Rattle.source_tokens.specs.Directives.{TokenLine, IsLine, InLines, InLinesTo, of_line, left_at, line_tokens, line_parts, ends_line}

-- the tokens end here
pub lines-end : (tokens parts : List Token) (place : LinePlace) → InLinesTo tokens parts place → InLines tokens (parts ++ left_at place [])
lines-end tokens parts place to =
    let whole : of_line to.last ≡ to.front ++ left_at place [] = ap of_line (sym (append-nil to.last)) ∙ to.goes [] in
    record {
      lines = to.lines;
      last = to.last;
      are_lines = to.are_lines;
      last_goes_on = to.last_goes_on;
      tokens_are = to.tokens_are;
      parts_are = ap (λ front. front ++ left_at place []) to.parts_are ∙ append_assoc (flat_map line_parts to.lines) to.front (left_at place []) ∙ ap (λ line. flat_map line_parts to.lines ++ line) (sym whole);
    }

all-join : (lines : List TokenLine) (line : TokenLine) → AllByRecursion IsLine lines → IsLine line → AllByRecursion IsLine (lines ++ line ∷ [])
all-join [] line all is = (is, tt)
all-join (first ∷ lines) line all is = (all.0, all-join lines line all.1 is)

flat-join : (f : TokenLine → List Token) (lines : List TokenLine) (line : TokenLine) → flat_map f (lines ++ line ∷ []) ≡ flat_map f lines ++ f line
flat-join f lines line = flat_map-append f lines (line ∷ []) ∙ ap (λ last. flat_map f lines ++ last) (append-nil (f line))

line-join : (f : TokenLine → List Token) (lines : List TokenLine) (line : TokenLine) (list head : List Token) (token : Token) → list ≡ flat_map f lines ++ head → f line ≡ head ++ token ∷ [] → list ++ token ∷ [] ≡ flat_map f (lines ++ line ∷ []) ++ []
line-join f lines line list head token are ends =
    ap (λ l. l ++ token ∷ []) are ∙ append_assoc (flat_map f lines) head (token ∷ []) ∙ ap (λ l. flat_map f lines ++ l) (sym ends) ∙ sym (flat-join f lines line) ∙ sym (append-nil (flat_map f (lines ++ line ∷ [])))

-- a line ends here, and the next begins
pub lines-line : (tokens parts : List Token) (token : Token) → InLines tokens parts → ends_line token.kind ≡ true → InLinesTo (tokens ++ token ∷ []) (parts ++ token ∷ []) Front
lines-line tokens parts token in_lines ends =
    let line : TokenLine = record { tokens = in_lines.last; ending = token } in
    record {
      lines = in_lines.lines ++ line ∷ [];
      last = [];
      front = [];
      are_lines = all-join in_lines.lines line in_lines.are_lines (in_lines.last_goes_on, ends);
      last_goes_on = refl;
      tokens_are = line-join line_tokens in_lines.lines line tokens in_lines.last token in_lines.tokens_are refl;
      parts_are = line-join line_parts in_lines.lines line parts (of_line in_lines.last) token in_lines.parts_are refl;
      goes = λ more. refl;
    }

-- nothing is unfinished outside directives
pub left_none : (place : LinePlace) → ((directive : Token) → place ≡ Inside directive → ⊥) → left_at place [] ≡ []
left_none Front outside = refl
left_none Behind outside = refl
left_none (Inside directive) outside = absurd (outside directive refl)

-- space at the front of a source is the front of its first line
pub lines-front : (front : ℕ) → InLinesTo (front_tokens front) (front_tokens front) Front
lines-front zero = record { lines = []; last = []; front = []; are_lines = tt; last_goes_on = refl; tokens_are = refl; parts_are = refl; goes = λ more. refl }
lines-front (suc n) =
    record { lines = []; last = front_tokens (suc n); front = front_tokens (suc n); are_lines = tt; last_goes_on = refl; tokens_are = refl; parts_are = refl; goes = λ more. refl }
