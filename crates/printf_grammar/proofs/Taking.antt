-- What pieces take, piece by piece.
use Rattle.std.proofs.Common.{◌≡◌, List, [], ◌∷◌, ◌++◌, refl, sym, ap, ◌∙◌, append_assoc}
use Rattle.printf_grammar.specs.declared.piece.Piece.{Piece}
use Rattle.printf_grammar.specs.declared.arg_type.ArgType.{ArgType}
use Rattle.printf_grammar.specs.Types.{piece_types, Types}

pub Types-append : (xs ys : List Piece) → Types (xs ++ ys) ≡ Types xs ++ Types ys
Types-append [] ys = refl
Types-append (piece ∷ xs) ys = ap (λ (types : List ArgType). piece_types piece ++ types) (Types-append xs ys) ∙ sym (append_assoc (piece_types piece) (Types xs) (Types ys))
