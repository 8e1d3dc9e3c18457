use Rattle.std.proofs.Common.{◌≡◌, [], ◌∷◌, ◌++◌, map, take}
use Rattle.code_inject.specs.Headers.{type_letter}
use Rattle.code_inject.proofs.headers.push_types.Given as goal

-- the mark and the letters so far are appended
abbrev pub invariant-loop-kind : goal.invariant-loop-kind
invariant-loop-kind l = l.out.items ≡ (l.fn.out.items ++ 34 ∷ []) ++ map type_letter (take l.kind-index l.kind-items)
