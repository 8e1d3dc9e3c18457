-- Where bytes are parted, and what stands behind a front.
use Rattle.std.proofs.Common.{◌≡◌, ◌≢◌, ℕ, ◌+◌, ◌<◌, Bool, true, false, cond, eqb, ltb, List, [], ◌∷◌, ◌++◌, length, get_or, take, drop, Option, Some, None, All, refl, sym, ap, subst, ◌∙◌, arith, eq-eqb}
use Rattle.std.specs.List.{position}
use Rattle.std.specs.Option.{option_map}
use Rattle.std.proofs.lemmas.Bool.{lt-ltb, eqb-true, eqb-false, ne_eqb, cond-true}
use Rattle.std.proofs.lemmas.List.{take_at, drop_at, drop-drop, take-append-drop, length-append, drop_more, get_or_at, get_or_append_left, length-take, get_or-take}
use Rattle.std.proofs.lemmas.List.Elements.{All-from_get_or}
use Rattle.std.proofs.lemmas.List.Sums.{position_or_len_is}
use Rattle.std.proofs.lemmas.List.Quantifiers.{position-Some}
use Rattle.std.proofs.lemmas.Option.{some_pair_parts}
use Rattle.std.specs.Option.{option_copied, MatchOption}
use denote.Ref.{Bor}
use Rattle.log_dictionary.specs.Fields.{IsFirstSplit, split_at_first, after, ◌>>=◌}

abbrev is_byte : ℕ → ℕ → Bool
is_byte separator byte = eqb byte separator

position_is : (p : ℕ → Bool) (xs : List ℕ) (i : ℕ) → i < length xs → ((k : ℕ) → k < i → p (get_or xs k 0) ≡ false) → p (get_or xs i 0) ≡ true → position p xs ≡ Some i
position_is p xs i within before here =
    let n = position_or_len_is p xs i 0 (omega arith) before (λ _. here) in
    subst (λ (k : ℕ). cond (ltb k (length xs)) (Some k) None ≡ Some i) (sym n) (cond-true _ _ _ (lt-ltb i (length xs) within))

-- a split is found
pub split_again : (separator : ℕ) (front back : List ℕ) → All (λ byte. byte ≢ separator) front → split_at_first separator (front ++ separator ∷ back) ≡ Some (front, back)
unfolding split_at_first
split_again separator front back none =
    let whole : List ℕ = front ++ separator ∷ back in
    let within : length front < length whole = omega (arith, length-append front (separator ∷ back)) in
    let before : (k : ℕ) → k < length front → is_byte separator (get_or whole k 0) ≡ false = λ k h. ne_eqb _ _ (subst (λ (x : ℕ). x ≢ separator) (sym (get_or_append_left front (separator ∷ back) 0 k h)) (none k 0 h)) in
    let here : is_byte separator (get_or whole (length front) 0) ≡ true = eq-eqb _ _ (get_or_at front separator back 0 (length front) refl) in
    let found = position_is (is_byte separator) whole (length front) within before here in
    let rest : drop (length front + 1) whole ≡ back = sym (drop-drop 1 (length front) whole) ∙ ap (drop 1) (drop_at front (separator ∷ back) (length front) refl) in
    let start : take (length front) whole ≡ front = take_at front (separator ∷ back) (length front) refl in
    ap (option_map (λ (at : ℕ). (take at whole, drop (at + 1) whole))) found ∙ ap (λ (x : List ℕ). Some (x, drop (length front + 1) whole)) start ∙ ap (λ (x : List ℕ). Some (front, x)) rest

takes_at : (separator : ℕ) (bytes front back : List ℕ) (o : Option ℕ) → position (is_byte separator) bytes ≡ o → option_map {U = List ℕ × List ℕ} (λ at. (take at bytes, drop (at + 1) bytes)) o ≡ Some (front, back) → IsFirstSplit separator bytes front back
takes_at separator bytes front back None e found = absurd cc
takes_at separator bytes front back (Some i) e found =
    let at = position-Some (is_byte separator) bytes i 0 e in
    let same = some_pair_parts (take i bytes) front (drop (i + 1) bytes) back found in
    let whole : bytes ≡ take i bytes ++ separator ∷ drop (i + 1) bytes = sym (take-append-drop i bytes) ∙ ap (λ (x : List ℕ). take i bytes ++ x) (drop_more bytes i 0 at.0 ∙ ap (λ (x : ℕ). x ∷ drop (i + 1) bytes) (eqb-true _ _ at.1)) in
    let none : All (λ byte. byte ≢ separator) (take i bytes) = All-from_get_or (λ byte. byte ≢ separator) (take i bytes) 0 (λ k h. let lt : k < i = omega (arith, length-take i bytes) in subst (λ (x : ℕ). x ≢ separator) (sym (get_or-take i bytes k 0 lt)) (eqb-false _ _ (at.2 k lt))) in
    record {
      parts = whole ∙ ap (λ (x : List ℕ). x ++ separator ∷ drop (i + 1) bytes) same.0 ∙ ap (λ (x : List ℕ). front ++ separator ∷ x) same.1;
      first = subst (λ (x : List ℕ). All (λ byte. byte ≢ separator) x) same.0 none;
    }

-- what is found is a split
pub split_takes : (separator : ℕ) (bytes front back : List ℕ) → split_at_first separator bytes ≡ Some (front, back) → IsFirstSplit separator bytes front back
unfolding split_at_first
split_takes separator bytes front back found = takes_at separator bytes front back (position (is_byte separator) bytes) refl found

-- a front is taken away
pub after_again : (front back : List ℕ) → after front (front ++ back) ≡ Some back
after_again [] back = refl
after_again (x ∷ front) back = cond-true _ _ _ (eq-eqb x x refl) ∙ after_again front back

taken : (b : Bool) (o : Option (List ℕ)) (back : List ℕ) → cond b o None ≡ Some back → (b ≡ true) × (o ≡ Some back)
taken true o back e = (refl, e)
taken false o back e = absurd cc

-- what is taken away is the front
pub after_takes : (front bytes back : List ℕ) → after front bytes ≡ Some back → bytes ≡ front ++ back
after_takes [] bytes back found = cc
after_takes (x ∷ front) [] back found = absurd cc
after_takes (x ∷ front) (byte ∷ bytes) back found =
    let t = taken (eqb byte x) (after front bytes) back found in
    ap (λ (b : ℕ). b ∷ bytes) (eqb-true _ _ t.0) ∙ ap (λ (r : List ℕ). x ∷ r) (after_takes front bytes back t.1)

after_at : (bytes front : List ℕ) (o : Option (List ℕ)) → after front bytes ≡ o → ((rest : List ℕ) → bytes ≢ front ++ rest) → None ≡ o
after_at bytes front None e none = refl
after_at bytes front (Some rest) e none = absurd (none rest (after_takes front bytes rest e))

-- what a reference to the bytes behind the front gives
pub after_is : (bytes front : List ℕ) (r : Option (Bor (List ℕ))) → MatchOption r ((rest : List ℕ) → bytes ≢ front ++ rest) (λ x. bytes ≡ front ++ x.now) → option_copied r ≡ after front bytes
after_is bytes front None h = after_at bytes front (after front bytes) refl h
after_is bytes front (Some rest) h = sym (after_again front rest.now) ∙ ap (after front) (sym h)

-- ---- parts one after the other

-- what came of a part that was found
pub record Found {A B : Type 0} (o : Option A) (next : A → Option B) (y : B) : Type 0 where
  pub x : A
  pub first : o ≡ Some x
  pub second : next x ≡ Some y

pub found : {A B : Type 0} (o : Option A) (next : A → Option B) (y : B) → (o >>= next) ≡ Some y → Found o next y
found None next y e = absurd cc
found (Some x) next y e = record { x = x; first = refl; second = e }
