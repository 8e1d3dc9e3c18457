-- More bytes behind change nothing of what is read from the front, unless it is cut off there.
use Rattle.std.proofs.Common.{◌≡◌, inl, inr, ℕ, ◌<◌, ◌^◌, true, false, List, [], ◌∷◌, ◌++◌, length, take, drop, Ok, Err, refl, sym, ap, subst, ◌∙◌, append_assoc, arith}
use Rattle.std.specs.Prelude.{nat_le}
use Rattle.std.specs.Hash.{le_bytes}
use Rattle.std.proofs.lemmas.Bool.{lt-leb, cases_lt}
use Rattle.std.proofs.lemmas.List.{length-append, length-take-le, take-append-drop}
use Rattle.std.specs.Int.{bytes_low_first}
use Rattle.std.proofs.lemmas.List.Elements.{All-take}
use Rattle.nibble_pack.specs.Bytes.{AreBytes, number_of_bytes, length-bytes_low_first, number_of_bytes-low_first, number_of_bytes-lt, low_first-number_of_bytes}
use Rattle.nibble_pack.specs.Parsing.{Parse, ◌>>=◌, caused_by, first_byte, so_many, low_first, IsSameBefore, IsSteady}
use Rattle.nibble_pack.proofs.lemmas.Parsing.{so_many_again, so_many_taken, found, given}

-- ---- steps

pub steady_done : {A Cause : Type 0} (cut : Cause) (x : A) → IsSteady cut (λ bytes. Ok (x, bytes))
steady_done cut x bytes more = refl

pub steady_broken : {A Cause : Type 0} (cut cause : Cause) → IsSteady {A = A} cut (λ bytes. Err cause)
steady_broken cut cause bytes more = inr refl

pub steady_then : {A B Cause : Type 0} (cut : Cause) (read : List ℕ → Parse Cause A) (next : A × List ℕ → Parse Cause B) → IsSteady cut read → ((x : A) → IsSteady cut (λ bytes. next (x, bytes))) → IsSteady cut (λ bytes. read bytes >>= next)
steady_then {A} {B} {Cause} cut read next first second bytes more = joined (read bytes) (read (bytes ++ more)) (first bytes more)
  where
    joined : (part whole : Parse Cause A) → IsSameBefore cut more part whole → IsSameBefore cut more (part >>= next) (whole >>= next)
    joined (Ok found) whole e = subst (λ (w : Parse Cause A). IsSameBefore cut more (next found) (w >>= next)) (sym e) (second found.0 found.1 more)
    joined (Err cause) whole (inl e) = inl e
    joined (Err cause) whole (inr e) = inr (ap (λ (w : Parse Cause A). w >>= next) e)

pub steady_caused : {A E Cause : Type 0} (cut : E) (as_cause : E → Cause) (read : List ℕ → Parse E A) → IsSteady cut read → IsSteady (as_cause cut) (λ bytes. caused_by as_cause (read bytes))
steady_caused {A} {E} {Cause} cut as_cause read steady bytes more = told (read bytes) (read (bytes ++ more)) (steady bytes more)
  where
    told : (part whole : Parse E A) → IsSameBefore cut more part whole → IsSameBefore (as_cause cut) more (caused_by as_cause part) (caused_by as_cause whole)
    told (Ok found) whole e = ap (caused_by as_cause) e
    told (Err cause) whole (inl e) = inl (ap as_cause e)
    told (Err cause) whole (inr e) = inr (ap (caused_by as_cause) e)

pub steady_byte : {Cause : Type 0} (cut : Cause) → IsSteady cut (first_byte cut)
steady_byte cut [] more = inl refl
steady_byte cut (byte ∷ bytes) more = refl

pub too_few : {Cause : Type 0} (count : ℕ) (cause : Cause) (bytes : List ℕ) → length bytes < count → so_many count cause bytes ≡ Err cause
too_few count cause bytes short =
    let less : nat_le count (length bytes) ≡ false = lt-leb count (length bytes) short in rw less refl

pub steady_many : {Cause : Type 0} (cut : Cause) (count : ℕ) → IsSteady cut (so_many count cut)
steady_many cut count bytes more = elim (cases_lt (length bytes) count) [
  | inl short ↦ rw (too_few count cut bytes short) (inl refl)
  | inr enough ↦
      let front : List ℕ = take count bytes in
      let rest : List ℕ = drop count bytes in
      let len : length front ≡ count = length-take-le count bytes enough in
      let parts : bytes ≡ front ++ rest = sym (take-append-drop count bytes) in
      let part : so_many count cut bytes ≡ Ok (front, rest) = ap (so_many count cut) parts ∙ so_many_again count cut front rest len in
      let whole : so_many count cut (bytes ++ more) ≡ Ok (front, rest ++ more) = ap (λ (b : List ℕ). so_many count cut (b ++ more)) parts ∙ ap (so_many count cut) (append_assoc front rest more) ∙ so_many_again count cut front (rest ++ more) len in
      rw part whole
]

pub steady_number : {Cause : Type 0} (cut : Cause) (count : ℕ) → IsSteady cut (low_first count cut)
steady_number cut count = steady_then cut (so_many count cut) (λ front. Ok (number_of_bytes front.0, front.1)) (steady_many cut count) (λ front. steady_done cut (number_of_bytes front))

-- ---- what follows for each reader whose laws these are

-- what breaks stays broken
pub stays_broken : {A Cause : Type 0} (cut cause : Cause) (read : List ℕ → Parse Cause A) (front more : List ℕ) → IsSteady cut read → ¬ (cause ≡ cut) → read front ≡ Err cause → read (front ++ more) ≡ Err cause
stays_broken {A} {Cause} cut cause read front more steady other e = elim (subst (λ (r : Parse Cause A). IsSameBefore cut more r (read (front ++ more))) e (steady front more)) [
  | inl same ↦ absurd (other same)
  | inr whole ↦ whole
]

-- a front that ends before what is read does is cut off
pub front_is_cut : {A Cause : Type 0} (cut : Cause) (read : List ℕ → Parse Cause A) (front more : List ℕ) (x : A) (rest : List ℕ) → IsSteady cut read → read (front ++ more) ≡ Ok (x, rest) → length rest < length more → read front ≡ Err cut
front_is_cut {A} {Cause} cut read front more x rest steady e less = by_part (read front) (subst (λ (w : Parse Cause A). IsSameBefore cut more (read front) w) e (steady front more))
  where
    by_part : (part : Parse Cause A) → IsSameBefore cut more part (Ok (x, rest)) → part ≡ Err cut
    by_part (Ok part) same =
        let both : (x, rest) ≡ (part.0, part.1 ++ more) = (given true cut (x, rest) (part.0, part.1 ++ more) same).1 in
        let rests : rest ≡ part.1 ++ more = ap (λ (p : A × List ℕ). p.1) both in
        absurd (omega (arith, less, ap length rests, length-append part.1 more))
    by_part (Err cause) (inl same) = ap Err same
    by_part (Err cause) (inr same) = absurd cc

-- ---- numbers

-- a number is read from its bytes
pub number_again : {Cause : Type 0} (count : ℕ) (cause : Cause) (n : ℕ) (rest : List ℕ) → n < 256 ^ count → low_first count cause (le_bytes count n ++ rest) ≡ Ok (n, rest)
unfolding le_bytes
number_again count cause n rest fits =
    rw (so_many_again count cause (le_bytes count n) rest (length-bytes_low_first 0 count n), number_of_bytes-low_first count n fits) refl

-- the number that was read, and its bytes
pub record TakenNumber (count : ℕ) (bytes : List ℕ) (n : ℕ) (rest : List ℕ) : Type 0 where
  pub parts : bytes ≡ le_bytes count n ++ rest
  pub fits : n < 256 ^ count

pub number_taken : {Cause : Type 0} (count : ℕ) (cause : Cause) (bytes : List ℕ) (n : ℕ) (rest : List ℕ) → AreBytes bytes → low_first count cause bytes ≡ Ok (n, rest) → TakenNumber count bytes n rest
unfolding le_bytes
number_taken {Cause} count cause bytes n rest small e =
    let one = found (so_many count cause bytes) (λ front. Ok (number_of_bytes front.0, front.1)) (n, rest) e in
    let taken = so_many_taken count cause bytes one.x.0 one.x.1 one.first in
    let same : (number_of_bytes one.x.0, one.x.1) ≡ (n, rest) = (given true cause (number_of_bytes one.x.0, one.x.1) (n, rest) one.second).1 in
    let number : number_of_bytes one.x.0 ≡ n = ap (λ (p : ℕ × List ℕ). p.0) same in
    let behind : one.x.1 ≡ rest = ap (λ (p : ℕ × List ℕ). p.1) same in
    let are : AreBytes one.x.0 = subst AreBytes (sym taken.is) (All-take (λ byte. byte < 256) count bytes small) in
    let spelled : bytes_low_first 0 count n ≡ one.x.0 = (λ t. bytes_low_first 0 (sym taken.len t) (sym number t)) ∙ low_first-number_of_bytes one.x.0 are in
    record {
      parts = taken.parts ∙ (λ t. sym spelled t ++ behind t);
      fits = subst (λ (k : ℕ). n < 256 ^ k) taken.len (subst (λ (m : ℕ). m < 256 ^ length one.x.0) number (number_of_bytes-lt one.x.0 are));
    }
