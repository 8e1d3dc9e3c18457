-- Calls of a log that were printed, in order: those of each writer are a front of its calls.
use Rattle.std.proofs.Common.{◌≡◌, ◌≢◌, ℕ, ◌<◌, ◌≤◌, Bool, true, false, not, cond, List, [], ◌∷◌, ◌++◌, refl, ap, sym, subst, ◌∙◌, inl, inr, append_assoc}
use Rattle.std.specs.Prelude.{filter}
use Rattle.std.specs.List.{AllByRecursion, flat_map, range_with_len}
use Rattle.std.proofs.lemmas.Bool.Decides.{eqb_tells}
use Rattle.std.proofs.lemmas.List.{append-nil}
use Rattle.std.proofs.lemmas.List.Elements.{filter-append, All-from_recursion, recursion_from_All}
use Rattle.std.proofs.lemmas.List.Sorted.{All-permutation, IsPermutation-sym}
use Rattle.log_dictionary.specs.Calls.{LogCall}
use Rattle.checkpoint_io.specs.declared.header.Header.{Header}
use Rattle.checkpoint_io.specs.Blocks.{Block}
use Rattle.stamp_merge.proofs.lemmas.Ordering.{NoneBefore, IsRising, IsNotAfter}
use Rattle.direct_printf.specs.Lines.{call_before, in_order}
use Rattle.direct_printf.proofs.lemmas.Sorting.{call_order, in_order-permutation}
use Rattle.trace_text.proofs.lemmas.OwnCalls.{is_of}
use Rattle.decompressor.specs.Decompression.{CallsOf, all_calls}
use Rattle.decompressor.specs.Settling.{reaches, closed_by, is_settled, settled_calls}
use Rattle.decompressor.proofs.Tests.{not_true, no_parts}
use Rattle.decompressor.proofs.Rising.{passed, all_both, all_second, all_as, all_kept, all_flat, all_pass, none_pass, none_further, rising_both, rising_first, rising_second, rising_across, rising_kept, rising_between}
use Rattle.decompressor.proofs.WriterLists.{own, one_before, IsOf, joined, own_in_order, order_rises, is_in_order}
use Rattle.decompressor.proofs.Settled.{not_false, reaches_at, not_reached, IsReached, settled_if, reached_if, held_back, settled_upto}

filter-flat : {X Y : Type 0} (test : Y → Bool) (f : X → List Y) (xs : List X) → filter test (flat_map f xs) ≡ flat_map (λ x. filter test (f x)) xs
filter-flat test f [] = refl
filter-flat test f (x ∷ xs) = filter-append test (f x) (flat_map f xs) ∙ ap (λ ys. filter test (f x) ++ ys) (filter-flat test f xs)

-- A log whose calls of each writer are its own, and rise; there are calls of its writers alone.
pub record HasCalls (header : Header) (blocks : List Block) : Type 0 where
  pub mine : (w : ℕ) → AllByRecursion (IsOf w) (CallsOf blocks w)
  pub rise : (w : ℕ) → IsRising call_before (CallsOf blocks w)
  pub outside : (w : ℕ) → header.writers ≤ w → CallsOf blocks w ≡ []

-- Calls in order, behind which each writer has others: together they go on with these, in order.
module _ (writers : ℕ) (printed : List LogCall) (rest : ℕ → List LogCall) (mine : (w : ℕ) → AllByRecursion (IsOf w) (rest w)) (rises : (w : ℕ) → IsRising call_before (printed ++ rest w))
    (outside : (w : ℕ) → writers ≤ w → rest w ≡ []) where
  pub onward : List LogCall
  onward = in_order (joined rest mine writers outside)

  rest_up : (w : ℕ) → IsRising call_before (rest w)
  rest_up w = rising_second call_before call_order printed (rest w) (rises w)

  onward_apart : (ps : List LogCall) → ((w : ℕ) → AllByRecursion (λ p. NoneBefore call_before p (rest w)) ps) → AllByRecursion (λ p. NoneBefore call_before p onward) ps
  unfolding onward
  onward_apart [] none = tt
  onward_apart (p ∷ ps) none =
      let P = λ (c : LogCall). call_before c p ≡ false in
      let all = joined rest mine writers outside in (
        recursion_from_All P (in_order all) (All-permutation P all (in_order all) (IsPermutation-sym (in_order all) all (in_order-permutation all)) (All-from_recursion P all (all_flat P rest (range_with_len 0 writers) (λ w. (none w).0)))),
        onward_apart ps (λ w. (none w).1),
      )

  onward_rises : IsRising call_before (printed ++ onward)
  unfolding onward
  onward_rises =
      rising_both call_before call_order printed onward (rising_first call_before call_order printed (rest 0) (rises 0)) (order_rises rest mine writers outside rest_up)
      (onward_apart printed (λ w. rising_across call_before call_order printed (rest w) (rises w)))

  module _ (calls : ℕ → List LogCall) (its : (w : ℕ) → AllByRecursion (IsOf w) (calls w)) (up : (w : ℕ) → IsRising call_before (calls w)) (none : (w : ℕ) → writers ≤ w → calls w ≡ [])
      (whole : (w : ℕ) → calls w ≡ own w printed ++ rest w) where
    onward_own : (w : ℕ) → own w (printed ++ onward) ≡ calls w
    unfolding onward
    onward_own w =
        filter-append (is_of w) printed onward
        ∙ ap (λ (cs : List LogCall). own w printed ++ cs) (own_in_order rest mine writers outside rest_up w)
        ∙ sym (whole w)

    pub all_go_on : in_order (joined calls its writers none) ≡ printed ++ onward
    all_go_on = sym (is_in_order calls its writers none up (printed ++ onward) onward_rises onward_own)

module _ (header : Header) (blocks : List Block) where
  -- The calls were printed in order: those of each writer are a front of its calls, and nothing that is left comes before
  -- one of them. Each is reached by the writers that aren't closed.
  pub record IsPrinted (closed : ℕ → Bool) (printed : List LogCall) : Type 0 where
    pub rest : ℕ → List LogCall
    pub whole : (w : ℕ) → CallsOf blocks w ≡ own w printed ++ rest w
    pub rises : (w : ℕ) → IsRising call_before (printed ++ rest w)
    pub reached : AllByRecursion (IsReached header blocks closed) printed

module _ {header : Header} {blocks : List Block} (has : HasCalls header blocks) where
  module _ {closed : ℕ → Bool} {printed : List LogCall} (is : IsPrinted header blocks closed printed) where
    up : IsRising call_before printed
    up = rising_first call_before call_order printed (is.rest 0) (is.rises 0)

    pub rest_mine : (w : ℕ) → AllByRecursion (IsOf w) (is.rest w)
    rest_mine w = all_second (IsOf w) (own w printed) (is.rest w) (subst (AllByRecursion (IsOf w)) (is.whole w) (has.mine w))

    pub rest_outside : (w : ℕ) → header.writers ≤ w → is.rest w ≡ []
    rest_outside w out = no_parts (own w printed) (is.rest w) (sym (is.whole w) ∙ has.outside w out)

    -- ---- one call more

    module _ (w : ℕ) (call : LogCall) (others : List LogCall) (there : is.rest w ≡ call ∷ others)
        (least : (v : ℕ) → IsNotAfter call_before call (is.rest v))
        (ready : (v : ℕ) → v < header.writers → closed v ≡ false → (first : LogCall) × (later : List LogCall) × (is.rest v ≡ first ∷ later)) where
      pub its_writer : call.writer ≡ w
      its_writer = (subst (AllByRecursion (IsOf w)) there (rest_mine w)).0

      abbrev pub behind : ℕ → List LogCall
      behind v = cond (is_of v call) others (is.rest v)

      none_after : (v : ℕ) → NoneBefore call_before call (is.rest v)
      none_after v = at (is.rest v) (least v) (rising_second call_before call_order printed (is.rest v) (is.rises v))
        where
          at : (calls : List LogCall) → IsNotAfter call_before call calls → IsRising call_before calls → NoneBefore call_before call calls
          at [] first rising = tt
          at (c ∷ cs) first rising = (first, none_further call_before call_order call c cs first rising.0)

      here : IsRising call_before (printed ++ call ∷ others)
      here = subst (λ (cs : List LogCall). IsRising call_before (printed ++ cs)) there (is.rises w)

      whole_by : (v : ℕ) (mine : Bool) → (mine ≡ true → v ≡ w) → own v printed ++ is.rest v ≡ (own v printed ++ cond mine (call ∷ []) []) ++ cond mine others (is.rest v)
      whole_by v true same =
          ap (λ (cs : List LogCall). own v printed ++ cs) (ap is.rest (same refl) ∙ there) ∙ sym (append_assoc (own v printed) (call ∷ []) others)
      whole_by v false same = ap (λ (cs : List LogCall). cs ++ is.rest v) (sym (append-nil (own v printed)))

      is_writer : (v : ℕ) → is_of v call ≡ true → v ≡ w
      is_writer v mine = elim (eqb_tells call.writer v) [
        | inl same ↦ sym same.1 ∙ its_writer
        | inr apart ↦ let wrong : true ≡ false = sym mine ∙ apart.0 in absurd cc
      ]

      rises_by : (v : ℕ) (mine : Bool) → IsRising call_before (printed ++ call ∷ cond mine others (is.rest v))
      rises_by v true = here
      rises_by v false = rising_between call_before call_order printed call (is.rest v) others here (is.rises v) (none_after v)

      reached_now : IsReached header blocks closed call
      reached_now v known is_open =
          let next = ready v known is_open in
          let none = subst (NoneBefore call_before call) next.2 (none_after v) in
          subst (λ (calls : List LogCall). reaches calls call ≡ true) (sym (is.whole v ∙ ap (λ (cs : List LogCall). own v printed ++ cs) next.2))
          (reaches_at (own v printed) next.1 call next.0 none.0)

      pub one_more : IsPrinted header blocks closed (printed ++ call ∷ [])
      one_more = record {
        rest = behind;
        whole = λ v.
            is.whole v ∙ whole_by v (is_of v call) (is_writer v)
            ∙ ap (λ (cs : List LogCall). cs ++ behind v) (sym (filter-append (is_of v) printed (call ∷ [])));
        rises = λ v. subst (IsRising call_before) (sym (append_assoc printed (call ∷ []) (behind v))) (rises_by v (is_of v call));
        reached = all_both (IsReached header blocks closed) printed (call ∷ []) is.reached (reached_now, tt);
      }

    -- ---- all that is settled

    abbrev HoldsBack : ℕ → Type 0
    HoldsBack w = AllByRecursion (λ call. is_settled header blocks call ≡ false) (is.rest w)

    module _ (by : closed ≡ closed_by blocks) where
      abbrev settles : LogCall → Bool
      settles call = is_settled header blocks call

      all_settled : AllByRecursion (λ call. settles call ≡ true) printed
      all_settled =
          all_as (IsReached header blocks closed) (λ call. settles call ≡ true) printed
          (λ call so. settled_if header blocks call (subst (λ (c : ℕ → Bool). IsReached header blocks c call) by so)) is.reached

      -- of each writer the settled calls that are left
      abbrev pub settled_rest : ℕ → List LogCall
      settled_rest w = filter settles (is.rest w)

      settled_whole : (w : ℕ) → filter settles (CallsOf blocks w) ≡ own w printed ++ settled_rest w
      settled_whole w =
          ap (filter settles) (is.whole w)
          ∙ filter-append settles (own w printed) (is.rest w)
          ∙ ap (λ (cs : List LogCall). cs ++ settled_rest w) (all_pass settles (own w printed) (all_kept (λ call. settles call ≡ true) (is_of w) printed all_settled))

      settled_rises : (w : ℕ) → IsRising call_before (printed ++ settled_rest w)
      settled_rises w =
          subst (IsRising call_before) (filter-append settles printed (is.rest w) ∙ ap (λ (cs : List LogCall). cs ++ settled_rest w) (all_pass settles printed all_settled))
          (rising_kept call_before call_order settles (printed ++ is.rest w) (is.rises w))

      settled_mine : (w : ℕ) → AllByRecursion (IsOf w) (settled_rest w)
      settled_mine w = all_kept (IsOf w) settles (is.rest w) (rest_mine w)

      settled_outside : (w : ℕ) → header.writers ≤ w → settled_rest w ≡ []
      settled_outside w out = ap (filter settles) (rest_outside w out)

      pub settled_later : List LogCall
      settled_later = onward header.writers printed settled_rest settled_mine settled_rises settled_outside

      -- the settled calls in order begin with what was printed
      pub settled_go_on : in_order (settled_calls header blocks) ≡ printed ++ settled_later
      unfolding settled_later
      settled_go_on =
          ap in_order (filter-flat settles (CallsOf blocks) (range_with_len 0 header.writers))
          ∙ all_go_on header.writers printed settled_rest settled_mine settled_rises settled_outside (λ w. filter settles (CallsOf blocks w)) (λ w. all_kept (IsOf w) settles (CallsOf blocks w) (has.mine w))
          (λ w. rising_kept call_before call_order settles (CallsOf blocks w) (has.rise w)) (λ w out. ap (filter settles) (has.outside w out)) settled_whole

      -- Nothing that is left is settled. So what was printed are the settled calls, in order.
      module _ (none : (w : ℕ) → HoldsBack w) where
        settled_own : (w : ℕ) → filter settles (CallsOf blocks w) ≡ own w printed
        settled_own w = settled_whole w ∙ ap (λ (cs : List LogCall). own w printed ++ cs) (none_pass settles (is.rest w) (none w)) ∙ append-nil (own w printed)

        pub are_settled : printed ≡ in_order (settled_calls header blocks)
        are_settled =
            is_in_order (λ w. filter settles (CallsOf blocks w)) (λ w. all_kept (IsOf w) settles (CallsOf blocks w) (has.mine w)) header.writers (λ w out. ap (filter settles) (has.outside w out)) (λ w. rising_kept call_before call_order settles (CallsOf blocks w) (has.rise w))
            printed up (λ w. sym (settled_own w))
            ∙ ap in_order (sym (filter-flat settles (CallsOf blocks) (range_with_len 0 header.writers)))

    -- where a writer that isn't closed has nothing left, nothing that is left is settled
    module _ (by : closed ≡ closed_by blocks) (w : ℕ) (known : w < header.writers) (is_open : closed w ≡ false) (empty : is.rest w ≡ []) where
      calls_are : CallsOf blocks w ≡ own w printed
      calls_are = is.whole w ∙ ap (λ (cs : List LogCall). own w printed ++ cs) empty ∙ append-nil (own w printed)

      earlier : (call : LogCall) → call.writer ≢ w → (ps : List LogCall) → AllByRecursion (λ p. call_before call p ≡ false) ps → AllByRecursion (λ p. call_before p call ≡ true) (own w ps)
      earlier call apart [] later = tt
      earlier call apart (p ∷ ps) later = at (is_of w p) (λ mine. is_its p mine) (earlier call apart ps later.1)
        where
          is_its : (q : LogCall) → is_of w q ≡ true → q.writer ≡ w
          is_its q mine = elim (eqb_tells q.writer w) [ inl same ↦ same.1 | inr differs ↦ let wrong : true ≡ false = sym mine ∙ differs.0 in absurd cc ]

          at : (mine : Bool) → (mine ≡ true → p.writer ≡ w) → AllByRecursion (λ q. call_before q call ≡ true) (own w ps) → AllByRecursion (λ q. call_before q call ≡ true) (cond mine (p ∷ own w ps) (own w ps))
          at true its rest = (one_before p call (λ e. apart (sym e ∙ its refl)) later.0, rest)
          at false its rest = rest

      held : (call : LogCall) → call.writer ≢ w → AllByRecursion (λ p. call_before call p ≡ false) printed → is_settled header blocks call ≡ false
      held call apart later =
          held_back header blocks call w known (ap (λ (c : ℕ → Bool). c w) (sym by) ∙ is_open)
          (subst (λ (calls : List LogCall). reaches calls call ≡ false) (sym calls_are) (not_reached (own w printed) call (earlier call apart printed later)))

      pub none_settled : (v : ℕ) → HoldsBack v
      none_settled v = each (is.rest v) (rest_mine v) (λ e. ap is.rest e ∙ empty) (rising_across call_before call_order printed (is.rest v) (is.rises v))
        where
          each : (calls : List LogCall) → AllByRecursion (IsOf v) calls → (v ≡ w → calls ≡ []) → AllByRecursion (λ p. NoneBefore call_before p calls) printed → AllByRecursion (λ call. is_settled header blocks call ≡ false) calls
          each [] mine gone later = tt
          each (c ∷ cs) mine gone later =
              let apart : v ≢ w = λ e. let wrong = gone e in cc in (
                held c (λ e. apart (sym mine.0 ∙ e)) (all_as (λ p. NoneBefore call_before p (c ∷ cs)) (λ p. call_before c p ≡ false) printed (λ p n. n.0) later),
                each cs mine.1 (λ e. absurd (apart e)) (all_as (λ p. NoneBefore call_before p (c ∷ cs)) (λ p. NoneBefore call_before p cs) printed (λ p n. n.1) later),
              )

    -- ---- all calls

    abbrev pub later : List LogCall
    later = onward header.writers printed is.rest rest_mine is.rises rest_outside

    -- all calls in order begin with what was printed
    pub goes_on : in_order (all_calls header blocks) ≡ printed ++ later
    goes_on = all_go_on header.writers printed is.rest rest_mine is.rises rest_outside (CallsOf blocks) has.mine has.rise has.outside is.whole

    -- where nothing is left they are what was printed
    pub are_all : ((w : ℕ) → is.rest w ≡ []) → printed ≡ in_order (all_calls header blocks)
    are_all none = is_in_order (CallsOf blocks) has.mine header.writers has.outside has.rise printed up
        (λ w. sym (is.whole w ∙ ap (λ (cs : List LogCall). own w printed ++ cs) (none w) ∙ append-nil (own w printed)))

  -- ---- between the blocks

  abbrev test : LogCall → Bool
  test call = is_settled header blocks call

  abbrev unsettled : LogCall → Bool
  unsettled call = not (test call)

  abbrev kept : ℕ → List LogCall
  kept w = filter test (CallsOf blocks w)

  abbrev left : ℕ → List LogCall
  left w = filter unsettled (CallsOf blocks w)

  kept_mine : (w : ℕ) → AllByRecursion (IsOf w) (kept w)
  kept_mine w = all_kept (IsOf w) test (CallsOf blocks w) (has.mine w)

  kept_outside : (w : ℕ) → header.writers ≤ w → kept w ≡ []
  kept_outside w out = ap (filter test) (has.outside w out)

  kept_rises : (w : ℕ) → IsRising call_before (kept w)
  kept_rises w = rising_kept call_before call_order test (CallsOf blocks w) (has.rise w)

  abbrev settled : List LogCall
  settled = settled_calls header blocks

  settled_are : settled ≡ joined kept kept_mine header.writers kept_outside
  settled_are = filter-flat test (CallsOf blocks) (range_with_len 0 header.writers)

  failed : (xs : List LogCall) → AllByRecursion (λ call. test call ≡ false) (filter unsettled xs)
  failed xs = all_as (λ call. unsettled call ≡ true) (λ call. test call ≡ false) (filter unsettled xs) (λ call so. not_false (test call) so) (passed unsettled xs)

  in_front : AllByRecursion (λ call. test call ≡ true) (in_order settled)
  in_front =
      recursion_from_All (λ call. test call ≡ true) (in_order settled)
      (All-permutation (λ call. test call ≡ true) settled (in_order settled) (IsPermutation-sym (in_order settled) settled (in_order-permutation settled))
      (All-from_recursion (λ call. test call ≡ true) settled (passed test (all_calls header blocks))))

  -- what isn't settled doesn't stand before what is
  not_before : (call other : LogCall) → test call ≡ true → test other ≡ false → call_before other call ≡ false
  not_before call other so not_so = not_true (λ is. let wrong : true ≡ false = sym (settled_upto header blocks call other (call_order.one_way other call is) so) ∙ not_so in cc)

  -- the settled calls of a writer stand in front of its others
  split : (xs : List LogCall) → IsRising call_before xs → xs ≡ filter test xs ++ filter unsettled xs
  split [] rising = refl
  split (x ∷ xs) rising = at (test x) refl (split xs rising.1)
    where
      later_not : test x ≡ false → (y : LogCall) → call_before y x ≡ false → test y ≡ false
      later_not not_so y behind_x = not_true (λ is. let wrong : true ≡ false = sym (settled_upto header blocks y x behind_x is) ∙ not_so in cc)

      at : (b : Bool) → test x ≡ b → xs ≡ filter test xs ++ filter unsettled xs → x ∷ xs ≡ cond b (x ∷ filter test xs) (filter test xs) ++ cond (not b) (x ∷ filter unsettled xs) (filter unsettled xs)
      at true so rest = ap (λ (cs : List LogCall). x ∷ cs) rest
      at false not_so rest =
          let none = all_as (λ y. call_before y x ≡ false) (λ y. test y ≡ false) xs (later_not not_so) rising.0 in
          let open_ones = all_as (λ y. test y ≡ false) (λ y. unsettled y ≡ true) xs (λ y is. ap not is) none in
          λ i. sym (none_pass test xs none) i ++ x ∷ sym (all_pass unsettled xs open_ones) i

  settled_own_is : (w : ℕ) → own w (in_order settled) ≡ kept w
  settled_own_is w = ap (λ (cs : List LogCall). own w (in_order cs)) settled_are ∙ own_in_order kept kept_mine header.writers kept_outside kept_rises w

  settled_up : IsRising call_before (in_order settled)
  settled_up = subst (λ (cs : List LogCall). IsRising call_before (in_order cs)) (sym settled_are) (order_rises kept kept_mine header.writers kept_outside kept_rises)

  -- the settled calls, in order, were printed
  pub settled_printed : IsPrinted header blocks (closed_by blocks) (in_order (settled_calls header blocks))
  settled_printed = record {
    rest = left;
    whole = λ w. split (CallsOf blocks w) (has.rise w) ∙ ap (λ (cs : List LogCall). cs ++ left w) (sym (settled_own_is w));
    rises = λ w.
        rising_both call_before call_order (in_order settled) (left w) settled_up (rising_kept call_before call_order unsettled (CallsOf blocks w) (has.rise w))
        (all_as (λ p. test p ≡ true) (λ p. NoneBefore call_before p (left w)) (in_order settled)
        (λ p so. all_as (λ q. test q ≡ false) (λ q. call_before q p ≡ false) (left w) (λ q not_so. not_before p q so not_so) (failed (CallsOf blocks w))) in_front);
    reached = all_as (λ call. test call ≡ true) (IsReached header blocks (closed_by blocks)) (in_order settled) (λ call so. reached_if header blocks call so) in_front;
  }
