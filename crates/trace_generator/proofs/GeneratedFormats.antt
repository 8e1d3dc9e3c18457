-- The formats of the generated messages are spelled so.
use Rattle.std.proofs.Common.{◌≡◌, ℕ, ◌+◌, lit≤, Bool, true, false, cond, eqb, eq-eqb, List, [], ◌∷◌, length, refl, inl, inr, arith}
use Rattle.std.specs.Prelude.{codes}
use Rattle.std.specs.List.{AllByRecursion}
use Rattle.printf_grammar.specs.declared.piece.Length.TheVariants.{L, LL}
use Rattle.printf_grammar.specs.declared.piece.Conversion.TheVariants.{U, X, S, C}
use Rattle.printf_grammar.specs.Spelling.{IsLiteralByte, SpellsField, SpellsLiteral, Spells}
use Rattle.printf_grammar.specs.Narrow.{plain_d}
use Rattle.printf_grammar.proofs.lemmas.NarrowLaws.{plain_d_spelled}
use Rattle.printf_grammar.proofs.lemmas.Worked.{field_5d}
use Rattle.trace_generator.specs.Generated.{disk_format, disk_pieces, queue_format, queue_pieces, request_format, request_pieces, state_format, state_pieces}

-- ---- pieces

abbrev are_literal : List ℕ → Bool
are_literal [] = true
are_literal (byte ∷ bytes) = cond (eqb byte 37) false (cond (eqb byte 0) false (are_literal bytes))

all_literal : (bytes : List ℕ) → are_literal bytes ≡ true → AllByRecursion IsLiteralByte bytes
all_literal [] right = tt
all_literal (byte ∷ bytes) right = at_tests (eqb byte 37) refl (eqb byte 0) refl (λ others. all_literal bytes others) right
  where
    at_tests : (p : Bool) → eqb byte 37 ≡ p → (q : Bool) → eqb byte 0 ≡ q → (are_literal bytes ≡ true → AllByRecursion IsLiteralByte bytes) → cond p false (cond q false (are_literal bytes)) ≡ true → AllByRecursion IsLiteralByte (byte ∷ bytes)
    at_tests true e q f others passed = absurd cc
    at_tests false e true f others passed = absurd cc
    at_tests false e false f others right = ((λ h. let t = eq-eqb byte 37 h in absurd cc, λ h. let t = eq-eqb byte 0 h in absurd cc), others right)

literal : (at : ℕ) (byte : ℕ) (bytes : List ℕ) → are_literal (byte ∷ bytes) ≡ true → SpellsLiteral at (byte ∷ bytes) at (at + length (byte ∷ bytes))
literal at byte bytes right = record { start_is = refl; end_is = refl; nonempty = omega arith; literal = all_literal (byte ∷ bytes) right }

unsigned : SpellsField (codes "%u") (record plain_d { conversion = U })
unsigned = record {
  flags = [];
  width = [];
  precision = [];
  whole = refl;
  flags_spelled = record { flags = tt; minus = refl; plus = refl; space = refl; sharp = refl; zero = refl };
  width_spelled = refl;
  precision_spelled = refl;
  takes_length = tt;
}

sharp_hexadecimal : SpellsField (codes "%#lx") (record plain_d { sharp = true; length = L; conversion = X })
sharp_hexadecimal = record {
  flags = codes "#";
  width = [];
  precision = [];
  whole = refl;
  flags_spelled = record { flags = (inr (inr (inr (inl refl))), tt); minus = refl; plus = refl; space = refl; sharp = refl; zero = refl };
  width_spelled = refl;
  precision_spelled = refl;
  takes_length = tt;
}

text : SpellsField (codes "%s") (record plain_d { conversion = S })
text = record {
  flags = [];
  width = [];
  precision = [];
  whole = refl;
  flags_spelled = record { flags = tt; minus = refl; plus = refl; space = refl; sharp = refl; zero = refl };
  width_spelled = refl;
  precision_spelled = refl;
  takes_length = refl;
}

character : SpellsField (codes "%c") (record plain_d { conversion = C })
character = record {
  flags = [];
  width = [];
  precision = [];
  whole = refl;
  flags_spelled = record { flags = tt; minus = refl; plus = refl; space = refl; sharp = refl; zero = refl };
  width_spelled = refl;
  precision_spelled = refl;
  takes_length = refl;
}

long_unsigned : SpellsField (codes "%llu") (record plain_d { length = LL; conversion = U })
long_unsigned = record {
  flags = [];
  width = [];
  precision = [];
  whole = refl;
  flags_spelled = record { flags = tt; minus = refl; plus = refl; space = refl; sharp = refl; zero = refl };
  width_spelled = refl;
  precision_spelled = refl;
  takes_length = tt;
}

-- ---- formats

pub disk : Spells disk_format disk_pieces
disk = record {
  short = lit≤ tt;
  few = lit≤ tt;
  apart = (tt, (tt, tt));
  spelled = (codes "disk ", codes "%u failed at %#lx", refl, literal 0 _ _ refl, (codes "%u", codes " failed at %#lx", refl, unsigned, (codes " failed at ", codes "%#lx", refl, literal 7 _ _ refl, (codes "%#lx", [], refl, sharp_hexadecimal, refl))));
}

pub queue : Spells queue_format queue_pieces
queue = record {
  short = lit≤ tt;
  few = lit≤ tt;
  apart = (tt, (tt, (tt, tt)));
  spelled = (
    codes "queue ",
    codes "%s is %d%% full",
    refl,
    literal 0 _ _ refl,
    (codes "%s", codes " is %d%% full", refl, text, (codes " is ", codes "%d%% full", refl, literal 8 _ _ refl, (codes "%d", codes "%% full", refl, plain_d_spelled, (codes "%%", codes " full", refl, refl, (codes " full", [], refl, literal 16 _ _ refl, refl))))),
  );
}

pub request : Spells request_format request_pieces
request = record {
  short = lit≤ tt;
  few = lit≤ tt;
  apart = (tt, (tt, (tt, tt)));
  spelled = (
    codes "request ",
    codes "%llu took %5d us",
    refl,
    literal 0 _ _ refl,
    (codes "%llu", codes " took %5d us", refl, long_unsigned, (codes " took ", codes "%5d us", refl, literal 12 _ _ refl, (codes "%5d", codes " us", refl, field_5d, (codes " us", [], refl, literal 21 _ _ refl, refl)))),
  );
}

pub state : Spells state_format state_pieces
state = record {
  short = lit≤ tt;
  few = lit≤ tt;
  apart = (tt, tt);
  spelled = (codes "state ", codes "%c", refl, literal 0 _ _ refl, (codes "%c", [], refl, character, refl));
}
