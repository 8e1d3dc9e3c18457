-- Tokens have one list of parts.
use Rattle.std.proofs.Common.{◌≡◌, ℕ, true, not, List, [], ◌∷◌, ◌++◌, refl, sym, subst, ap, ◌∙◌, append_assoc}
use Rattle.std.specs.List.{list_all, flat_map, AllByRecursion}
use Rattle.std.proofs.lemmas.Bool.{and_parts, false≢true}
use Rattle.source_tokens.specs.declared.token.Token.{Token}
use Rattle.source_tokens.specs.Directives.{TokenLine, IsLine, InLines, Parts, of_line, line_tokens, line_parts, continues_line, ends_line}
use Rattle.source_tokens.proofs.lemmas.Unique.{tokens_once}

-- a token that goes on doesn't end a line
not_both : (token : Token) → continues_line token ≡ true → ends_line token.kind ≡ true → ⊥
not_both token on ends = false≢true (ap not (sym ends) ∙ on)

-- the end of a line doesn't stand in tokens that go on
no_end : (a : List Token) (e : Token) (x b : List Token) → list_all continues_line b ≡ true → ends_line e.kind ≡ true → a ++ e ∷ x ≡ b → ⊥
no_end [] e x [] on ends same = cc
no_end [] e x (t ∷ b) on ends same =
    let first : e ≡ t = cc in
    not_both t (and_parts (continues_line t) (list_all continues_line b) on).0 (subst (λ (u : Token). ends_line u.kind ≡ true) first ends)
no_end (s ∷ a) e x [] on ends same = cc
no_end (s ∷ a) e x (t ∷ b) on ends same =
    let rest : a ++ e ∷ x ≡ b = cc in
    no_end a e x b (and_parts (continues_line t) (list_all continues_line b) on).1 ends rest

-- a line ends at one place
line_once : (a : List Token) (e : Token) (x b : List Token) (f : Token) (y : List Token) → list_all continues_line a ≡ true → list_all continues_line b ≡ true → ends_line e.kind ≡ true → ends_line f.kind ≡ true → a ++ e ∷ x ≡ b ++ f ∷ y → (a ≡ b) × (e ≡ f) × (x ≡ y)
line_once [] e x [] f y on_a on_b end_e end_f same = (refl, cc, cc)
line_once [] e x (t ∷ b) f y on_a on_b end_e end_f same =
    let first : e ≡ t = cc in
    absurd (not_both t (and_parts (continues_line t) (list_all continues_line b) on_b).0 (subst (λ (u : Token). ends_line u.kind ≡ true) first end_e))
line_once (s ∷ a) e x [] f y on_a on_b end_e end_f same =
    let first : f ≡ s = cc in
    absurd (not_both s (and_parts (continues_line s) (list_all continues_line a) on_a).0 (subst (λ (u : Token). ends_line u.kind ≡ true) first end_f))
line_once (s ∷ a) e x (t ∷ b) f y on_a on_b end_e end_f same =
    let first : s ≡ t = cc in
    let later : a ++ e ∷ x ≡ b ++ f ∷ y = cc in
    let rest = line_once a e x b f y (and_parts (continues_line s) (list_all continues_line a) on_a).1 (and_parts (continues_line t) (list_all continues_line b) on_b).1 end_e end_f later in
    (cc (first, rest.0), rest.1, rest.2)

-- what stands behind the first line
abbrev behind : List TokenLine → List Token → List Token
behind lines last = flat_map line_tokens lines ++ last

first_line : (line : TokenLine) (lines : List TokenLine) (last : List Token) → behind (line ∷ lines) last ≡ line.tokens ++ line.ending ∷ behind lines last
first_line line lines last = append_assoc (line_tokens line) (flat_map line_tokens lines) last ∙ append_assoc line.tokens (line.ending ∷ []) (behind lines last)

line_fields : (line other : TokenLine) → line.tokens ≡ other.tokens → line.ending ≡ other.ending → line ≡ other
line_fields line other tokens ending = fields line.tokens other.tokens line.ending other.ending tokens ending
  where
    fields : (a b : List Token) (e f : Token) → a ≡ b → e ≡ f → (let x : TokenLine = record { tokens = a; ending = e } in let y : TokenLine = record { tokens = b; ending = f } in x ≡ y)
    fields a b e f same ends = cc

lines_once : (lines others : List TokenLine) (last end : List Token) → AllByRecursion IsLine lines → AllByRecursion IsLine others → list_all continues_line last ≡ true → list_all continues_line end ≡ true → behind lines last ≡ behind others end → (lines ≡ others) × (last ≡ end)
lines_once [] [] last end are ares on ons same = (refl, same)
lines_once [] (other ∷ others) last end are ares on ons same =
    absurd (no_end other.tokens other.ending (behind others end) last on ares.0.1 (sym (first_line other others end) ∙ sym same))
lines_once (line ∷ lines) [] last end are ares on ons same =
    absurd (no_end line.tokens line.ending (behind lines last) end ons are.0.1 (sym (first_line line lines last) ∙ same))
lines_once (line ∷ lines) (other ∷ others) last end are ares on ons same =
    let first = line_once line.tokens line.ending (behind lines last) other.tokens other.ending (behind others end) are.0.0 ares.0.0 are.0.1 ares.0.1 (sym (first_line line lines last) ∙ same ∙ first_line other others end) in
    let rest = lines_once lines others last end are.1 ares.1 on ons first.2 in
    let head : line ≡ other = line_fields line other first.0 first.1 in
    (cc (head, rest.0), rest.1)

in_lines_once : (tokens parts others : List Token) → InLines tokens parts → InLines tokens others → parts ≡ others
in_lines_once tokens parts others here there =
    let same = lines_once here.lines there.lines here.last there.last here.are_lines there.are_lines here.last_goes_on there.last_goes_on (sym here.tokens_are ∙ there.tokens_are) in
    here.parts_are ∙ ap (λ (lines : List TokenLine). flat_map line_parts lines ++ of_line here.last) same.0 ∙ ap (λ (last : List Token). flat_map line_parts there.lines ++ of_line last) same.1 ∙ sym there.parts_are

pub parts_once : (source : List ℕ) (parts others : List Token) → Parts source parts → Parts source others → parts ≡ others
parts_once source parts others here there =
    let same : there.tokens ≡ here.tokens = tokens_once source there.tokens here.tokens there.tokens_are here.tokens_are in
    in_lines_once here.tokens parts others here.in_lines (subst (λ (tokens : List Token). InLines tokens others) same there.in_lines)
