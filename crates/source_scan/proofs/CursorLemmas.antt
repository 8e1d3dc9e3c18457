-- Cursors that move on in a source.
use Rattle.std.proofs.Common.{◌≡◌, ℕ, ◌+◌, ◌-◌, ◌≤◌, Bool, true, false, cond, nat_le, List, [], ◌∷◌, take, drop, refl, sym, subst, ap, ◌∙◌, arith, if◌then◌else◌}
use Rattle.std.specs.Prelude.{count_by}
use Rattle.std.proofs.lemmas.List.{take-append-drop, drop-take, drop-drop, take-take}
use Rattle.std.proofs.lemmas.List.Sums.{sum_by-append}
use Rattle.source_scan.specs.declared.position.PlacedChange.{PlacedChange}
use Rattle.source_scan.specs.declared.cursor.Cursor.{Cursor}
use Rattle.source_scan.specs.Positions.{InForce, in_force_of, changed, changed_to, at_front, is_line_end, line_number_at}
use Rattle.source_scan.specs.Cursors.{SameFrom, IsMoved, CursorFollows, IsHere}

pub same-itself : (source : List ℕ) (place : ℕ) (first : InForce) (changes : List PlacedChange) → SameFrom source place first changes first changes
same-itself source place first changes = record { line = λ k later. refl; name = λ k later. refl }

pub same-then : (source : List ℕ) (place later : ℕ) (first second third : InForce) (xs ys zs : List PlacedChange) → place ≤ later → SameFrom source place first xs second ys → SameFrom source later second ys third zs → SameFrom source later first xs third zs
same-then source place later first second third xs ys zs within same more = record {
  line = λ k far. same.line k (omega (arith, within, far)) ∙ more.line k far;
  name = λ k far. same.name k (omega (arith, within, far)) ∙ more.name k far;
}

count-parts : (bytes : List ℕ) (m n : ℕ) → count_by is_line_end (take (m + n) bytes) ≡ count_by is_line_end (take m bytes) + count_by is_line_end (take n (drop m bytes))
count-parts bytes m n =
    let all : List ℕ = take (m + n) bytes in
    let front : take m all ≡ take m bytes = take-take m (m + n) bytes (omega arith) in
    let back : drop m all ≡ take n (drop m bytes) = drop-take m n bytes in
    ap (count_by is_line_end) (sym (take-append-drop m all)) ∙ sum_by-append (λ byte. cond (is_line_end byte) 1 0) (take m all) (drop m all) ∙ ap (λ (list : List ℕ). count_by is_line_end list + count_by is_line_end (drop m all)) front
    ∙ ap (λ (list : List ℕ). count_by is_line_end (take m bytes) + count_by is_line_end list) back

sum-parts : (n x a b c : ℕ) → x ≡ a + c → c ≡ b → n + x ≡ (n + a) + b
sum-parts n x a b c whole same = omega (arith, whole, same)

-- a position may be counted on from a later place
line-rebased : (source : List ℕ) (before : InForce) (place k : ℕ) → before.from ≤ place → place ≤ k → line_number_at source before k ≡ line_number_at source (record { from = place; number = line_number_at source before place; name = before.name }) k
line-rebased source before place k within far =
    let behind : List ℕ = drop before.from source in
    let m : ℕ = place - before.from in
    let n : ℕ = k - place in
    let len : k - before.from ≡ m + n = omega (arith, within, far) in
    let whole : count_by is_line_end (take (k - before.from) behind) ≡ count_by is_line_end (take m behind) + count_by is_line_end (take n (drop m behind)) = ap (λ (i : ℕ). count_by is_line_end (take i behind)) len ∙ count-parts behind m n in
    let there : before.from + m ≡ place = omega (arith, within) in
    let rest : drop m behind ≡ drop place source = drop-drop m before.from source ∙ ap (λ (i : ℕ). drop i source) there in
    sum-parts before.number (count_by is_line_end (take (k - before.from) behind)) (count_by is_line_end (take m behind)) (count_by is_line_end (take n (drop place source))) (count_by is_line_end (take n (drop m behind))) whole
    (ap (λ (list : List ℕ). count_by is_line_end (take n list)) rest)

-- and all goes on as it did
pub same-rebased : (source : List ℕ) (before : InForce) (changes : List PlacedChange) (place : ℕ) → before.from ≤ place → SameFrom source place before changes (record { from = place; number = line_number_at source before place; name = before.name }) changes
unfolding changed_to
same-rebased source before [] place within = record { line = λ k far. line-rebased source before place k within far; name = λ k far. refl }
same-rebased source before (placed ∷ changes) place within =
    let later : InForce = record { from = place; number = line_number_at source before place; name = before.name } in
    record {
      line = λ k far.
          (elim (nat_le placed.from k) as (λ (b : Bool). line_number_at source (if b then changed_to k (changed before placed) changes else before) k ≡ line_number_at source (if b then changed_to k (changed later placed) changes else later) k) [
            | true ↦ refl
            | false ↦ line-rebased source before place k within far
          ]);
      name = λ k far.
          (elim (nat_le placed.from k) as (λ (b : Bool). (if b then changed_to k (changed before placed) changes else before).name ≡ (if b then changed_to k (changed later placed) changes else later).name) [ true ↦ refl | false ↦ refl ]);
    }

-- the cursor behind the changes up to a place, set to that place
pub moved-cursor : (source : List ℕ) (before after : InForce) (changes rest : List PlacedChange) (place number : ℕ) → after.from ≤ place → ((k : ℕ) → place ≤ k → changed_to k before changes ≡ changed_to k after rest) → number ≡ line_number_at source after place
    → SameFrom source place before changes (record { from = place; number = number; name = after.name }) rest
moved-cursor source before after changes rest place number within same is =
    let rebased : SameFrom source place after rest (record { from = place; number = number; name = after.name }) rest =
    subst (λ (n : ℕ). SameFrom source place after rest (record { from = place; number = n; name = after.name }) rest) (sym is) (same-rebased source after rest place within)
    in
    record {
      line = λ k far. ap (λ (one : InForce). line_number_at source one k) (same k far) ∙ rebased.line k far;
      name = λ k far. ap (λ (one : InForce). one.name) (same k far) ∙ rebased.name k far;
    }

-- the cursor goes on from where it said what is in force
pub here-moved : (file source : List ℕ) (changes : List PlacedChange) (before moved : Cursor) (place : ℕ) → before.position.from ≤ place → CursorFollows file source changes before → IsMoved source before place moved → IsHere file source changes place moved
here-moved file source changes before moved place within follows is = record {
  from = is.from;
  follows = subst (λ (n : ℕ). SameFrom source n (at_front file) changes (in_force_of moved.position) moved.changes.now) (sym is.from)
      (same-then source before.position.from place (at_front file) (in_force_of before.position) (in_force_of moved.position) changes before.changes.now moved.changes.now within follows is.same);
  line = follows.line place within ∙ is.line;
  name = follows.name place within ∙ is.name;
}

-- the cursor at the front
pub follows-front : (file source : List ℕ) (changes : List PlacedChange) (cursor : Cursor) → in_force_of cursor.position ≡ at_front file → cursor.changes.now ≡ changes → CursorFollows file source changes cursor
follows-front file source changes cursor position same =
    subst (λ (one : InForce). SameFrom source cursor.position.from (at_front file) changes one cursor.changes.now) (sym position)
    (subst (λ (list : List PlacedChange). SameFrom source cursor.position.from (at_front file) changes (at_front file) list) (sym same) (same-itself source cursor.position.from (at_front file) changes))
