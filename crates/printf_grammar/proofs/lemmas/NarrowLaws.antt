-- Plain `%d`.
use Rattle.std.proofs.Common.{refl, [], ◌∷◌}
use Rattle.printf_grammar.specs.Spelling.{SpellsField}
use Rattle.printf_grammar.specs.Narrow.{plain_d}

pub plain_d_spelled : SpellsField (37 ∷ 100 ∷ []) plain_d
plain_d_spelled = record {
  flags = [];
  width = [];
  precision = [];
  whole = refl;
  flags_spelled = record { flags = tt; minus = refl; plus = refl; space = refl; sharp = refl; zero = refl };
  width_spelled = refl;
  precision_spelled = refl;
  takes_length = tt;
}
