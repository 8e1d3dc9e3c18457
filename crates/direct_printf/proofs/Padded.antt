-- How a value is padded.
use Rattle.std.proofs.Common.{◌≡◌, ℕ, ◌+◌, ◌-◌, ◌≤◌, ℤ, Option, is_none, Bool, ◌&&◌, ◌||◌, true, false, List, ◌++◌, length, replicate, cond, [], refl, sym, ap, ◌∙◌, arith}
use Rattle.std.proofs.Math.Nat.{zero-sub}
use Rattle.std.proofs.lemmas.List.{append_assoc, append-nil, length-append, length-replicate, replicate-append-replicate}
use Rattle.printf_grammar.specs.declared.piece.Spec.{Spec}
use Rattle.printf_grammar.specs.declared.argument.Value.{Value}
use Rattle.direct_printf.specs.Fields.{Converted, Field, padded, converted, width_of, is_left_star, precision_of, is_integer, stars, signed_of, argument_at}

-- with nothing missing all three ways are the same
not_padded : (left zeros : Bool) (front body : List ℕ) → front ++ body ≡ cond left (front ++ body ++ []) (cond zeros (front ++ [] ++ body) (front ++ body))
not_padded true zeros front body = sym (append-nil (front ++ body))
not_padded false true front body = ap (λ text. text ++ body) (sym (append-nil front))
not_padded false false front body = refl

-- a text without a width
pub padded-no_width : (left zeros : Bool) (text : Converted) → padded left zeros 0 text ≡ text.front ++ text.body
padded-no_width left zeros text = rw zero-sub (sym (not_padded left zeros text.front text.body))

-- the zeros of the padding and those of the precision stand side by side
pub padded-zeros : (left zeros : Bool) (width missing count : ℕ) (front body : List ℕ) → left ≡ false → zeros ≡ true → missing ≡ width - length front - count - length body → front ++ replicate (missing + count) 48 ++ body ≡ padded left zeros width (record { front = front; body = replicate count 48 ++ body })
padded-zeros left zeros width missing count front body left_is zeros_is missing_is =
    let whole : length (front ++ (replicate count 48 ++ body)) ≡ length front + (count + length body) = simp (length-append, length-replicate) in
    let same : width - length (front ++ (replicate count 48 ++ body)) ≡ missing = omega (arith, whole) in
    rw (left_is, zeros_is, same, ← replicate-append-replicate {A = ℕ} missing count 48) (simp append_assoc)

-- text that is as long as the width is not padded
pub padded-none : (left zeros : Bool) (width missing more count : ℕ) (front body : List ℕ) → more ≡ 0 → missing ≡ 0 → missing ≡ width - length front - count - length body → front ++ replicate (more + count) 48 ++ body ≡ padded left zeros width (record { front = front; body = replicate count 48 ++ body })
padded-none left zeros width missing more count front body no_more none missing_is =
    let whole : length (front ++ (replicate count 48 ++ body)) ≡ length front + (count + length body) = simp (length-append, length-replicate) in
    let same : width - length (front ++ (replicate count 48 ++ body)) ≡ 0 = omega (arith, whole) in
    let all : more + count ≡ count = omega arith in
    rw all (append_assoc front (replicate count 48) body ∙ rw same (not_padded left zeros front (replicate count 48 ++ body)))

-- padded text has the width at least
padded-width : (left zeros : Bool) (width : ℕ) (text : Converted) → width ≤ length (padded left zeros width text)
padded-width true zeros width text = simp (length-append, length-replicate) (omega arith)
padded-width false true width text = simp (length-append, length-replicate) (omega arith)
padded-width false false width text = simp (length-append, length-replicate) (omega arith)

-- and so has a field
pub Field-width : (spec : Spec) (arguments : List Value) → width_of spec.width (signed_of (argument_at arguments 0)) ≤ length (Field spec arguments)
unfolding Field
Field-width spec arguments =
    let width : ℤ = signed_of (argument_at arguments 0) in
    let precision : Option ℕ = precision_of spec.precision (signed_of (argument_at arguments (stars spec.width))) in
    padded-width (spec.minus || is_left_star spec.width width) (spec.zero && is_integer spec.conversion && is_none precision) (width_of spec.width width) (converted spec.conversion spec precision (argument_at arguments (stars spec.width + stars spec.precision)))
