use Rattle.std.proofs.Common.{◌≡◌, ◌++◌, List, ℕ}
use Rattle.std.specs.List.{flat_map}
use Rattle.std.specs.Slice.Iter.{iter_rest}
use Rattle.code_inject.specs.Headers.{array_opening, array_line}
use Rattle.code_inject.proofs.headers.push_array.Given as goal

-- some lines are appended, and with those that are left they are all
abbrev pub invariant-loop-message : goal.invariant-loop-message
invariant-loop-message l =
    ((front : List ℕ) × (l.out.items ≡ l.fn.out.items ++ front))
    × (l.out.items ++ flat_map (array_line l.array) (iter_rest l.message-iterator) ≡ l.fn.out.items ++ array_opening l.array ++ flat_map (array_line l.array) l.dictionary)
