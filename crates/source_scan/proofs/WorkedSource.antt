-- The statements of the worked source.
use Rattle.std.proofs.Common.{◌≡◌, ℕ, zero, suc, ◌+◌, ◌<◌, lit<, lit≤, List, [], ◌∷◌, take, drop, get_or, Some, refl, ap, ◌∙◌, sym, add-zero, inl, arith}
use Rattle.std.specs.Prelude.{codes}
use Rattle.std.specs.List.{flat_map}
use Rattle.source_tokens.specs.declared.token.Token.{Token}
use Rattle.source_tokens.specs.Splices.{past_splices}
use Rattle.source_tokens.specs.Forms.{is_literal_body, has_mark, is_number_tail}
use Rattle.source_tokens.specs.Reading.{ReadsUnspliced}
use Rattle.source_tokens.specs.Tokens.{Tokens, IsToken}
use Rattle.source_tokens.specs.Directives.{TokenLine, Parts, line_tokens, line_parts}
use Rattle.source_scan.specs.declared.position.PlacedChange.{PlacedChange}
use Rattle.source_scan.specs.Texts.{unspliced, significant}
use Rattle.source_scan.specs.Escapes.{unescaped_behind}
use Rattle.source_scan.specs.Items.{items_bytes}
use Rattle.source_scan.specs.Severities.{last_name}
use Rattle.source_scan.specs.Arguments.{closing_from, parted_from}
use Rattle.source_scan.specs.Positions.{Changes, changed_to}
use Rattle.source_scan.specs.Statements.{Finds, Statements}
use Rattle.source_scan.specs.Rows.{mark_at, space_at, name_at, number_at, literal_at, raw_at, comment_at, line_end_at}
use Rattle.source_scan.specs.Rows.{worked_source, worked_good, worked_bad, worked_open, worked_found}
use Rattle.source_scan.proofs.WorkedTokens.{token_before, token_last, follow_none, follow_token, absent}
use Rattle.source_scan.proofs.WorkedCauses.{is_no_severity, spells_d}

-- ---- tokens

abbrev directive_tokens : List Token
directive_tokens = mark_at 35 0 ∷ space_at 1 2 ∷ number_at 2 3 ∷ space_at 3 4 ∷ literal_at 4 7 ∷ space_at 7 8 ∷ name_at 8 16 ∷ mark_at 40 16 ∷ name_at 17 18 ∷ mark_at 41 18 ∷ []

abbrev raw_tokens : List Token
raw_tokens = raw_at 20 34 ∷ comment_at 34 47 ∷ []

abbrev good_tokens : List Token
good_tokens = name_at 48 56 ∷ space_at 56 57 ∷ name_at 57 65 ∷ mark_at 40 65 ∷ name_at 66 71 ∷ mark_at 44 71 ∷ literal_at 72 76 ∷ mark_at 44 76 ∷ name_at 77 78 ∷ mark_at 40 78 ∷ number_at 79 80 ∷ mark_at 44 80 ∷ number_at 81 82 ∷ mark_at 41 82 ∷ mark_at 41 83 ∷ []

abbrev bad_tokens : List Token
bad_tokens = name_at 85 93 ∷ mark_at 40 93 ∷ name_at 94 95 ∷ mark_at 44 95 ∷ name_at 96 104 ∷ mark_at 40 104 ∷ name_at 105 106 ∷ mark_at 41 106 ∷ mark_at 41 107 ∷ []

abbrev open_tokens : List Token
open_tokens = name_at 109 117 ∷ mark_at 40 117 ∷ name_at 118 126 ∷ mark_at 40 126 ∷ mark_at 41 127 ∷ []

abbrev worked_lines : List TokenLine
worked_lines =
    record { tokens = directive_tokens; ending = line_end_at 19 }
    ∷ record { tokens = raw_tokens; ending = line_end_at 47 }
    ∷ record { tokens = good_tokens; ending = line_end_at 84 }
    ∷ record { tokens = bad_tokens; ending = line_end_at 108 }
    ∷ record { tokens = open_tokens; ending = line_end_at 128 }
    ∷ []

abbrev source_tokens : List Token
source_tokens = flat_map line_tokens worked_lines

abbrev source_parts : List Token
source_parts = flat_map line_parts worked_lines

-- the raw string of the second line
raw_here : IsToken 129 (drop 20 worked_source) (raw_at 20 34) (drop 34 worked_source)
unfolding past_splices ReadsUnspliced
raw_here = record {
  stands = inl (record {
    raw = drop 22 worked_source;
    begins = record { prefix = codes "R"; is_prefix = inl refl; reads = (refl, refl); opens = refl };
    ends = record {
      place = Some 9;
      first = (
        record {
          low = lit≤ tt;
          high = lit< tt;
          before = λ k low high occurs. absent (drop 23 worked_source) 9 k 41 refl high (lit≤ tt) (ap (λ (n : ℕ). get_or (drop 23 worked_source) n 0) (sym (add-zero k)) ∙ occurs.reads 0 (lit< tt));
        },
        record { fits = lit≤ tt; reads = reads },
      );
      ends = (refl, refl);
    };
  });
  start = refl;
  end = refl;
}
  where
    reads : (j : ℕ) → j < 2 → get_or (drop 23 worked_source) (9 + j) 0 ≡ get_or (codes ")\"") j 0
    reads zero within = refl
    reads (suc zero) within = refl
    reads (suc (suc j)) within = absurd (omega (arith, within))

source_read : Tokens worked_source source_tokens
unfolding past_splices is_literal_body has_mark is_number_tail
source_read = record {
  front = 0;
  others = source_tokens;
  front_is = refl;
  tokens_are = refl;
  follow =
      (follow_token 129 _ _ _ _ (token_before 129 35 [] 32 _ _ refl refl refl (λ more. refl) refl refl refl)
      (follow_token 129 _ _ _ _ (token_before 129 32 [] 55 _ _ refl refl refl (λ more. refl) refl refl refl)
      (follow_token 129 _ _ _ _ (token_before 129 55 [] 32 _ _ refl refl refl (λ more. refl) refl refl refl)
      (follow_token 129 _ _ _ _ (token_before 129 32 [] 34 _ _ refl refl refl (λ more. refl) refl refl refl)
      (follow_token 129 _ _ _ _ (token_before 129 34 (codes "h\"") 32 _ _ refl refl refl (λ more. refl) refl refl refl)
      (follow_token 129 _ _ _ _ (token_before 129 32 [] 78 _ _ refl refl refl (λ more. refl) refl refl refl)
      (follow_token 129 _ _ _ _ (token_before 129 78 (codes "ANO_LOG") 40 _ _ refl refl refl (λ more. refl) refl refl refl)
      (follow_token 129 _ _ _ _ (token_before 129 40 [] 120 _ _ refl refl refl (λ more. refl) refl refl refl)
      (follow_token 129 _ _ _ _ (token_before 129 120 [] 41 _ _ refl refl refl (λ more. refl) refl refl refl)
      (follow_token 129 _ _ _ _ (token_before 129 41 [] 10 _ _ refl refl refl (λ more. refl) refl refl refl)
      (follow_token 129 _ _ _ _ (token_before 129 10 [] 82 _ _ refl refl refl (λ more. refl) refl refl refl)
      (follow_token 129 _ _ _ _ raw_here
      (follow_token 129 _ _ _ _ (token_before 129 47 (codes "/NANO_LOG(x)") 10 _ _ refl refl refl (λ more. refl) refl refl refl)
      (follow_token 129 _ _ _ _ (token_before 129 10 [] 78 _ _ refl refl refl (λ more. refl) refl refl refl)
      (follow_token 129 _ _ _ _ (token_before 129 78 (codes "ANO_LOG") 32 _ _ refl refl refl (λ more. refl) refl refl refl)
      (follow_token 129 _ _ _ _ (token_before 129 32 [] 78 _ _ refl refl refl (λ more. refl) refl refl refl)
      (follow_token 129 _ _ _ _ (token_before 129 78 (codes "ANO_LOG") 40 _ _ refl refl refl (λ more. refl) refl refl refl)
      (follow_token 129 _ _ _ _ (token_before 129 40 [] 69 _ _ refl refl refl (λ more. refl) refl refl refl)
      (follow_token 129 _ _ _ _ (token_before 129 69 (codes "RROR") 44 _ _ refl refl refl (λ more. refl) refl refl refl)
      (follow_token 129 _ _ _ _ (token_before 129 44 [] 34 _ _ refl refl refl (λ more. refl) refl refl refl)
      (follow_token 129 _ _ _ _ (token_before 129 34 (codes "%d\"") 44 _ _ refl refl refl (λ more. refl) refl refl refl)
      (follow_token 129 _ _ _ _ (token_before 129 44 [] 102 _ _ refl refl refl (λ more. refl) refl refl refl)
      (follow_token 129 _ _ _ _ (token_before 129 102 [] 40 _ _ refl refl refl (λ more. refl) refl refl refl)
      (follow_token 129 _ _ _ _ (token_before 129 40 [] 49 _ _ refl refl refl (λ more. refl) refl refl refl)
      (follow_token 129 _ _ _ _ (token_before 129 49 [] 44 _ _ refl refl refl (λ more. refl) refl refl refl)
      (follow_token 129 _ _ _ _ (token_before 129 44 [] 50 _ _ refl refl refl (λ more. refl) refl refl refl)
      (follow_token 129 _ _ _ _ (token_before 129 50 [] 41 _ _ refl refl refl (λ more. refl) refl refl refl)
      (follow_token 129 _ _ _ _ (token_before 129 41 [] 41 _ _ refl refl refl (λ more. refl) refl refl refl)
      (follow_token 129 _ _ _ _ (token_before 129 41 [] 10 _ _ refl refl refl (λ more. refl) refl refl refl)
      (follow_token 129 _ _ _ _ (token_before 129 10 [] 78 _ _ refl refl refl (λ more. refl) refl refl refl)
      (follow_token 129 _ _ _ _ (token_before 129 78 (codes "ANO_LOG") 40 _ _ refl refl refl (λ more. refl) refl refl refl)
      (follow_token 129 _ _ _ _ (token_before 129 40 [] 120 _ _ refl refl refl (λ more. refl) refl refl refl)
      (follow_token 129 _ _ _ _ (token_before 129 120 [] 44 _ _ refl refl refl (λ more. refl) refl refl refl)
      (follow_token 129 _ _ _ _ (token_before 129 44 [] 78 _ _ refl refl refl (λ more. refl) refl refl refl)
      (follow_token 129 _ _ _ _ (token_before 129 78 (codes "ANO_LOG") 40 _ _ refl refl refl (λ more. refl) refl refl refl)
      (follow_token 129 _ _ _ _ (token_before 129 40 [] 121 _ _ refl refl refl (λ more. refl) refl refl refl)
      (follow_token 129 _ _ _ _ (token_before 129 121 [] 41 _ _ refl refl refl (λ more. refl) refl refl refl)
      (follow_token 129 _ _ _ _ (token_before 129 41 [] 41 _ _ refl refl refl (λ more. refl) refl refl refl)
      (follow_token 129 _ _ _ _ (token_before 129 41 [] 10 _ _ refl refl refl (λ more. refl) refl refl refl)
      (follow_token 129 _ _ _ _ (token_before 129 10 [] 78 _ _ refl refl refl (λ more. refl) refl refl refl)
      (follow_token 129 _ _ _ _ (token_before 129 78 (codes "ANO_LOG") 40 _ _ refl refl refl (λ more. refl) refl refl refl)
      (follow_token 129 _ _ _ _ (token_before 129 40 [] 78 _ _ refl refl refl (λ more. refl) refl refl refl)
      (follow_token 129 _ _ _ _ (token_before 129 78 (codes "ANO_LOG") 40 _ _ refl refl refl (λ more. refl) refl refl refl)
      (follow_token 129 _ _ _ _ (token_before 129 40 [] 41 _ _ refl refl refl (λ more. refl) refl refl refl)
      (follow_token 129 _ _ _ _ (token_before 129 41 [] 10 _ _ refl refl refl (λ more. refl) refl refl refl)
      (follow_token 129 _ _ _ _ (token_last 129 10 [] _ refl refl refl refl refl refl)
      (follow_none 129)))))))))))))))))))))))))))))))))))))))))))))));
}

-- the tokens of the directive by itself
directive_read : Tokens (take 19 worked_source) directive_tokens
unfolding past_splices is_literal_body has_mark is_number_tail
directive_read = record {
  front = 0;
  others = directive_tokens;
  front_is = refl;
  tokens_are = refl;
  follow =
      (follow_token 19 _ _ _ _ (token_before 19 35 [] 32 _ _ refl refl refl (λ more. refl) refl refl refl)
      (follow_token 19 _ _ _ _ (token_before 19 32 [] 55 _ _ refl refl refl (λ more. refl) refl refl refl)
      (follow_token 19 _ _ _ _ (token_before 19 55 [] 32 _ _ refl refl refl (λ more. refl) refl refl refl)
      (follow_token 19 _ _ _ _ (token_before 19 32 [] 34 _ _ refl refl refl (λ more. refl) refl refl refl)
      (follow_token 19 _ _ _ _ (token_before 19 34 (codes "h\"") 32 _ _ refl refl refl (λ more. refl) refl refl refl)
      (follow_token 19 _ _ _ _ (token_before 19 32 [] 78 _ _ refl refl refl (λ more. refl) refl refl refl)
      (follow_token 19 _ _ _ _ (token_before 19 78 (codes "ANO_LOG") 40 _ _ refl refl refl (λ more. refl) refl refl refl)
      (follow_token 19 _ _ _ _ (token_before 19 40 [] 120 _ _ refl refl refl (λ more. refl) refl refl refl)
      (follow_token 19 _ _ _ _ (token_before 19 120 [] 41 _ _ refl refl refl (λ more. refl) refl refl refl)
      (follow_token 19 _ _ _ _ (token_last 19 41 [] _ refl refl refl refl refl refl)
      (follow_none 19)))))))))));
}

parts_read : Parts worked_source source_parts
parts_read = record {
  tokens = source_tokens;
  tokens_are = source_read;
  in_lines = record {
    lines = worked_lines;
    last = [];
    are_lines = ((refl, refl), ((refl, refl), ((refl, refl), ((refl, refl), ((refl, refl), tt)))));
    last_goes_on = refl;
    tokens_are = refl;
    parts_are = refl;
  };
}

-- ---- statements

abbrev source_changes : List PlacedChange
source_changes = record { from = 20; change = record { number = 7; name = Some (codes "h") } } ∷ []

changes_read : Changes worked_source source_parts source_changes
unfolding Changes unspliced unescaped_behind
changes_read = (Some (record { number = 7; name = Some (codes "h") }), [], record { tokens = directive_tokens; tokens_are = directive_read; change_is = refl }, refl, refl)

finds : Finds (record { file = codes "t.cc"; bytes = worked_source; changes = source_changes }) 0 (significant source_parts) worked_found
unfolding Finds closing_from parted_from changed_to unspliced unescaped_behind items_bytes last_name
finds = (
  worked_good,
  worked_bad ∷ worked_open ∷ [],
  refl,
  record {
    named = (lit≤ tt, lit≤ tt);
    severity = (name_at 66 71, refl, refl);
    format = refl;
    spells = spells_d;
    enough = lit≤ tt;
    file = refl;
    line = refl;
    args = refl;
    start = refl;
    head = refl;
    end = refl;
  },
  (
    worked_bad,
    worked_open ∷ [],
    refl,
    (record { file = refl; line = refl }, ((lit≤ tt, lit≤ tt), λ has. is_no_severity worked_source 94 95 has.0 refl has.1)),
    (worked_open, [], refl, record { file = refl; line_is = refl; cause = refl }, refl),
  ),
)

pub worked : Statements (codes "t.cc") worked_source worked_found
worked = record { parts = source_parts; changes = source_changes; parts_are = parts_read; changes_are = changes_read; finds = finds }
