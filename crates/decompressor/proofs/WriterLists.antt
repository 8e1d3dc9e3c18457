-- Calls in order, and the calls of each writer among them.
use Rattle.std.proofs.Common.{◌≡◌, ◌≢◌, ℕ, zero, suc, ◌+◌, ◌<◌, ◌≤◌, ◌⊎◌, Bool, true, false, cond, List, [], ◌∷◌, ◌++◌, refl, ap, sym, subst, ◌∙◌, inl, inr, arith}
use Rattle.std.specs.Prelude.{filter}
use Rattle.std.specs.List.{AllByRecursion, flat_map, range_with_len}
use Rattle.std.specs.Cmp.{IsTotalOrder}
use Rattle.std.proofs.lemmas.Bool.{eq-eqb, ne_eqb, cases_lt}
use Rattle.std.proofs.lemmas.Bool.Decides.{eqb_tells}
use Rattle.std.proofs.lemmas.Cmp.{then_total, on_total, nat_cmp_total}
use Rattle.std.proofs.lemmas.Map.Lookups.{exact_unsigned}
use Rattle.std.proofs.lemmas.List.{append-nil}
use Rattle.std.proofs.lemmas.List.Elements.{filter-append}
use Rattle.std.specs.Ordering.{nat_cmp, ordering_then}
use Rattle.log_dictionary.specs.Calls.{LogCall}
use Rattle.stamp_merge.proofs.lemmas.Comparing.{neither, then_equal}
use Rattle.stamp_merge.proofs.lemmas.Ordering.{NoneBefore, IsRising, in_order_by-filter, in_order_from}
use Rattle.direct_printf.specs.Lines.{call_cmp, call_before, in_order}
use Rattle.direct_printf.proofs.lemmas.Sorting.{call_order, in_order-rises}
use Rattle.trace_text.proofs.lemmas.OwnCalls.{is_of}
use Rattle.decompressor.proofs.Rising.{all_kept, all_as, all_pass, none_pass, rising_from}

-- the calls of a writer among these
abbrev pub own : ℕ → List LogCall → List LogCall
own writer calls = filter (is_of writer) calls

call_total : IsTotalOrder call_cmp
call_total = then_total (on_total (λ c. c.stamp) nat_cmp_total) (then_total (on_total (λ c. c.writer) nat_cmp_total) (on_total (λ c. c.ordinal) nat_cmp_total))

-- calls of which neither comes before the other are of one writer
one_writer : (a b : LogCall) → call_before a b ≡ false → call_before b a ≡ false → a.writer ≡ b.writer
one_writer a b first second =
    let tied = neither (call_cmp a b) (call_cmp b a) (call_total.antisymm a b) first second in
    let later = (then_equal (nat_cmp a.stamp b.stamp) (ordering_then (nat_cmp a.writer b.writer) (nat_cmp a.ordinal b.ordinal)) tied).1 in
    exact_unsigned a.writer b.writer (then_equal (nat_cmp a.writer b.writer) (nat_cmp a.ordinal b.ordinal) later).0

-- of two calls of different writers one comes before the other
pub one_before : (a b : LogCall) → a.writer ≢ b.writer → call_before b a ≡ false → call_before a b ≡ true
one_before a b apart none = at (call_before a b) refl
  where
    at : (earlier : Bool) → call_before a b ≡ earlier → earlier ≡ true
    at true is = refl
    at false is = absurd (apart (one_writer a b is none))

-- ---- two lists are one

module _ (x y : LogCall) (xs ys : List LogCall) where
  -- the rest behind a call that both begin with
  rest_same : x ≡ y → ((w : ℕ) → own w (x ∷ xs) ≡ own w (y ∷ ys)) → (w : ℕ) → own w xs ≡ own w ys
  rest_same is same w = at (is_of w x) refl (same w ∙ ap (λ (c : LogCall). own w (c ∷ ys)) (sym is))
    where
      at : (b : Bool) → is_of w x ≡ b → own w (x ∷ xs) ≡ own w (x ∷ ys) → own w xs ≡ own w ys
      at true mine both =
          let e : x ∷ own w xs ≡ x ∷ own w ys = sym (ap (λ (b : Bool). cond b (x ∷ own w xs) (own w xs)) mine) ∙ both ∙ ap (λ (b : Bool). cond b (x ∷ own w ys) (own w ys)) mine in
          cc
      at false other both = sym (ap (λ (b : Bool). cond b (x ∷ own w xs) (own w xs)) other) ∙ both ∙ ap (λ (b : Bool). cond b (x ∷ own w ys) (own w ys)) other

own_first : (x : LogCall) (xs : List LogCall) → own x.writer (x ∷ xs) ≡ x ∷ own x.writer xs
own_first x xs = ap (λ (b : Bool). cond b (x ∷ own x.writer xs) (own x.writer xs)) (eq-eqb x.writer x.writer refl)

own_later : (w : ℕ) (x : LogCall) (xs : List LogCall) → x.writer ≢ w → own w (x ∷ xs) ≡ own w xs
own_later w x xs apart = ap (λ (b : Bool). cond b (x ∷ own w xs) (own w xs)) (ne_eqb x.writer w apart)

-- where the first call of a writer among calls is this one, it doesn't come before a call that none comes before
not_before : (w : ℕ) (x y : LogCall) (xs ys : List LogCall) → own w ys ≡ x ∷ xs → NoneBefore call_before y ys → call_before x y ≡ false
not_before w x y xs ys is none = (subst (NoneBefore call_before y) is (all_kept (λ z. call_before z y ≡ false) (is_of w) ys none)).0

-- calls that rise are told by those of each writer
pub same_rising : (xs ys : List LogCall) → IsRising call_before xs → IsRising call_before ys → ((w : ℕ) → own w xs ≡ own w ys) → xs ≡ ys
same_rising [] [] first second same = refl
same_rising [] (y ∷ ys) first second same = let wrong = same y.writer ∙ own_first y ys in absurd cc
same_rising (x ∷ xs) [] first second same = let wrong = sym (own_first x xs) ∙ same x.writer in absurd cc
same_rising (x ∷ xs) (y ∷ ys) first second same =
    elim (eqb_tells x.writer y.writer) [
      | inl one ↦
          let heads : x ∷ own x.writer xs ≡ y ∷ own y.writer ys = sym (own_first x xs) ∙ same x.writer ∙ ap (λ (w : ℕ). own w (y ∷ ys)) one.1 ∙ own_first y ys in
          let is : x ≡ y = cc in
          let rest = same_rising xs ys first.1 second.1 (rest_same x y xs ys is same) in
          cc
      | inr apart ↦
          let there : own x.writer ys ≡ x ∷ own x.writer xs = sym (own_later x.writer y ys (λ e. apart.1 (sym e))) ∙ sym (same x.writer) ∙ own_first x xs in
          let here : own y.writer xs ≡ y ∷ own y.writer ys = sym (own_later y.writer x xs apart.1) ∙ same y.writer ∙ own_first y ys in
          absurd (apart.1 (one_writer x y (not_before x.writer x y (own x.writer xs) ys there second.0) (not_before y.writer y x (own y.writer ys) xs here first.0)))
    ]

-- ---- lists of calls, one of each writer

abbrev pub IsOf : ℕ → LogCall → Type 0
IsOf writer call = call.writer ≡ writer

pub own_all : (w : ℕ) (calls : List LogCall) → AllByRecursion (IsOf w) calls → own w calls ≡ calls
own_all w calls all = all_pass (is_of w) calls (all_as (IsOf w) (λ c. is_of w c ≡ true) calls (λ c mine. eq-eqb c.writer w mine) all)

pub own_none : (w v : ℕ) (calls : List LogCall) → v ≢ w → AllByRecursion (IsOf v) calls → own w calls ≡ []
own_none w v calls apart all = none_pass (is_of w) calls (all_as (IsOf v) (λ c. is_of w c ≡ false) calls (λ c other. ne_eqb c.writer w (λ e. apart (sym other ∙ e))) all)

module _ (lists : ℕ → List LogCall) (each : (w : ℕ) → AllByRecursion (IsOf w) (lists w)) where
  abbrev pub joined_from : ℕ → ℕ → List LogCall
  joined_from from n = flat_map lists (range_with_len from n)

  none_there : (w from n : ℕ) → (w < from) ⊎ (from + n ≤ w) → own w (joined_from from n) ≡ []
  none_there w from zero out = refl
  none_there w from (suc n) out =
      filter-append (is_of w) (lists from) (joined_from (from + 1) n)
      ∙ ap (λ (cs : List LogCall). cs ++ own w (joined_from (from + 1) n)) (own_none w from (lists from) (λ e. elim out [ inl low ↦ omega (arith, low, e) | inr high ↦ omega (arith, high, e) ]) (each from))
      ∙ none_there w (from + 1) n (elim out [ inl low ↦ inl (omega (arith, low)) | inr high ↦ inr (omega (arith, high)) ])

  one_there : (w from n : ℕ) → from ≤ w → w < from + n → own w (joined_from from n) ≡ lists w
  one_there w from zero low high = absurd (omega (arith, low, high))
  one_there w from (suc n) low high =
      filter-append (is_of w) (lists from) (joined_from (from + 1) n)
      ∙ elim (eqb_tells from w) [
        | inl mine ↦
            let here : own w (lists from) ≡ lists w = subst (λ (v : ℕ). own w (lists v) ≡ lists w) (sym mine.1) (own_all w (lists w) (each w)) in
            (λ i. here i ++ none_there w (from + 1) n (inl (omega (arith, mine.1))) i) ∙ append-nil (lists w)
        | inr other ↦
            ap (λ (cs : List LogCall). cs ++ own w (joined_from (from + 1) n)) (own_none w from (lists from) other.1 (each from))
            ∙ one_there w (from + 1) n (omega (arith, low, other.1)) (omega (arith, high))
      ]

  module _ (n : ℕ) (outside : (w : ℕ) → n ≤ w → lists w ≡ []) where
    -- so many lists, joined
    abbrev pub joined : List LogCall
    joined = joined_from 0 n

    pub own_joined : (w : ℕ) → own w joined ≡ lists w
    own_joined w = elim (cases_lt w n) [
      | inl within ↦ one_there w 0 n (omega arith) (omega (arith, within))
      | inr past ↦ none_there w 0 n (inr (omega (arith, past))) ∙ sym (outside w past)
    ]

    module _ (rise : (w : ℕ) → IsRising call_before (lists w)) where
      pub own_in_order : (w : ℕ) → own w (in_order joined) ≡ lists w
      own_in_order w = in_order_by-filter call_before (is_of w) joined (subst (IsRising call_before) (sym (own_joined w)) (rise w)) ∙ own_joined w

      pub order_rises : IsRising call_before (in_order joined)
      order_rises = rising_from call_before call_order (in_order joined) (in_order_from call_before (in_order joined) (in_order-rises joined))

      -- calls that rise, and are these of each writer, are the joined ones in order
      pub is_in_order : (calls : List LogCall) → IsRising call_before calls → ((w : ℕ) → own w calls ≡ lists w) → calls ≡ in_order joined
      is_in_order calls up same = same_rising calls (in_order joined) up order_rises (λ w. same w ∙ sym (own_in_order w))
