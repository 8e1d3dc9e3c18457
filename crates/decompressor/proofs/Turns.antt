-- One record after the other is printed, as the merger takes them.
use Rattle.std.proofs.Common.{◌≡◌, ℕ, zero, suc, ◌+◌, ◌<◌, ◌≤◌, Bool, true, false, cond, Some, None, List, [], ◌∷◌, ◌++◌, length, drop, refl, ap, sym, subst, ◌∙◌, inl, inr, arith}
use Rattle.std.specs.Prelude.{slice_get, slice_set, position, All}
use Rattle.std.specs.List.{AllByRecursion}
use Rattle.std.proofs.lemmas.Bool.{eq-eqb, ne_eqb, cases_lt}
use Rattle.std.proofs.lemmas.Bool.Decides.{eqb_tells}
use Rattle.std.proofs.lemmas.List.{length-append, drop-drop, get_or-set_same, get_or-set_other, length-set, set-set}
use Rattle.std.proofs.lemmas.List.Elements.{filter-append}
use Rattle.log_dictionary.specs.declared.message.Message.{Message}
use Rattle.log_dictionary.specs.Calls.{LogCall}
use Rattle.arg_records.specs.declared.call.Call.{Call}
use Rattle.checkpoint_io.specs.declared.header.Header.{Header}
use Rattle.checkpoint_io.specs.Blocks.{Block, messages_of}
use Rattle.checkpoint_io.specs.Validity.{records_of, Valid}
use Rattle.checkpoint_io.proofs.lemmas.ValidityLaws.{IsCall-front, slice_get-front, records_fit, stamps_rise}
use Rattle.stamp_merge.specs.declared.merger.ListState.{ListState}
use Rattle.stamp_merge.specs.declared.merger.Next.{Next}
use Rattle.stamp_merge.specs.declared.merger.Next.TheVariants.{Take, Want, Done}
use Rattle.stamp_merge.specs.Merging.{merge_order}
use Rattle.stamp_merge.specs.Mergers.{no_list, list_at, wants, NoneWants, IsSpent, heads_of, without_head}
use Rattle.stamp_merge.proofs.lemmas.Mergers.{wanting_is_there, first_wants_head}
use Rattle.stamp_merge.proofs.lemmas.Ordering.{IsNotAfter}
use Rattle.direct_printf.specs.Lines.{call_before, in_order}
use Rattle.trace_text.proofs.lemmas.OwnCalls.{is_of}
use Rattle.decompressor.specs.Decompression.{CallsOf}
use Rattle.decompressor.specs.Settling.{closed_by, is_settled}
use Rattle.decompressor.specs.Waiting.{list_of, records_at, HasHeads}
use Rattle.decompressor.specs.Decompressors.{AreWaiting, count_of, no_more_come, ready_calls}
use Rattle.decompressor.proofs.RecordCalls.{IsCallOf, AreCallsOf, calls_of_writer}
use Rattle.decompressor.proofs.WriterLists.{own, IsOf}
use Rattle.decompressor.proofs.Printed.{HasCalls, IsPrinted, one_more, rest_mine, rest_outside, are_settled, none_settled, are_all}
use Rattle.decompressor.proofs.Calls.{has_calls}
use Rattle.decompressor.proofs.Tests.{either_false}
use Rattle.decompressor.proofs.Heads.{heads_set}
use Rattle.decompressor.proofs.Ready.{IsLeast, least_head, later_call, not_itself}

-- ---- calls of records

module _ (messages : List Message) (tick : ℕ) where
  are_behind : (calls others : List LogCall) (records : List Call) → AreCallsOf messages tick (calls ++ others) records → AreCallsOf messages tick others (drop (length calls) records)
  are_behind [] others records are = are
  are_behind (call ∷ calls) others [] are = absurd are
  are_behind (call ∷ calls) others (logged ∷ records) are = are_behind calls others records are.1

  are_none : (calls : List LogCall) → AreCallsOf messages tick calls [] → calls ≡ []
  are_none [] are = refl
  are_none (call ∷ calls) are = absurd are

  as_many : (calls : List LogCall) (records : List Call) → AreCallsOf messages tick calls records → length calls ≡ length records
  as_many [] [] are = refl
  as_many [] (logged ∷ records) are = absurd are
  as_many (call ∷ calls) [] are = absurd are
  as_many (call ∷ calls) (logged ∷ records) are = ap suc (as_many calls records are.1)

  -- the call of the first record
  pub record FirstCall (calls : List LogCall) (logged : Call) (records : List Call) : Type 0 where
    pub call : LogCall
    pub others : List LogCall
    pub there : calls ≡ call ∷ others
    pub is : IsCallOf messages tick call logged

  first_call : (calls : List LogCall) (logged : Call) (records : List Call) → AreCallsOf messages tick calls (logged ∷ records) → FirstCall calls logged records
  first_call [] logged records are = absurd are
  first_call (call ∷ calls) logged records are = record { call = call; others = calls; there = refl; is = are.0 }

  pub more_is : (others : List Message) (call : LogCall) (logged : Call) → IsCallOf messages tick call logged → IsCallOf (messages ++ others) tick call logged
  more_is others call logged is = record {
    stamp = is.stamp;
    args = is.args;
    message = slice_get-front messages others logged.id call.message is.message;
    right = (IsCall-front messages others (logged ∷ []) (is.right, tt)).0;
    not_before = is.not_before;
  }

-- ---- the head of a list

head_is : (closed : Bool) (records : List Call) (stamp : ℕ) → (list_of closed records).head ≡ Some stamp → (first : Call) × (others : List Call) × (records ≡ first ∷ others) × (first.stamp ≡ stamp)
head_is closed [] stamp is = cc
head_is closed (first ∷ others) stamp is = (first, others, refl, cc)

head_there : (lists : List ListState) (n stamp : ℕ) → (list_at lists n).head ≡ Some stamp → n < length lists
head_there [] n stamp is = cc
head_there (list ∷ lists) zero stamp is = omega arith
head_there (list ∷ lists) (suc n) stamp is = omega (arith, head_there lists n stamp is)

no_wish : (closed : Bool) (records : List Call) → wants (list_of closed records) ≡ false → closed ≡ false → (first : Call) × (others : List Call) × (records ≡ first ∷ others)
no_wish true [] quiet is_open = cc
no_wish false [] quiet is_open = cc
no_wish closed (first ∷ others) quiet is_open = (first, others, refl)

a_wish : (closed : Bool) (records : List Call) → wants (list_of closed records) ≡ true → (records ≡ []) × (closed ≡ false)
a_wish true [] wish = cc
a_wish false [] wish = (refl, refl)
a_wish closed (first ∷ others) wish = cc

no_head : (closed : Bool) (records : List Call) → (list_of closed records).head ≡ None → records ≡ []
no_head closed [] is = refl
no_head closed (first ∷ others) is = cc

-- ---- the state between two records

module _ {header : Header} {all : List Block} (valid : Valid header all) where
  abbrev pub calls_there : HasCalls header all
  calls_there = has_calls valid

  -- the calls were printed, and the other records wait
  pub record IsAt (closed : ℕ → Bool) (printed : List LogCall) (waiting : List (List Call)) (lists : List ListState) : Type 0 where
    pub is : IsPrinted header all closed printed
    pub are_waiting : AreWaiting header all printed waiting
    pub heads : HasHeads closed lists waiting

  all_are : (w : ℕ) → AreCallsOf (messages_of all) header.clock.tick (CallsOf all w) (records_of w all)
  all_are w = calls_of_writer (messages_of all) header.clock.tick w 0 header.clock.tick (records_of w all) (omega arith) (records_fit header all w valid) (stamps_rise header all w valid)

  -- a writer has a call of each of its records
  pub no_more_calls : (w : ℕ) → length (CallsOf all w) ≡ length (records_of w all)
  no_more_calls w = as_many (messages_of all) header.clock.tick (CallsOf all w) (records_of w all) (all_are w)

  module _ {closed : ℕ → Bool} {printed : List LogCall} {waiting : List (List Call)} {lists : List ListState} (at : IsAt closed printed waiting lists) where
    abbrev rest : ℕ → List LogCall
    rest w = at.is.rest w

    left_are : (w : ℕ) → w < header.writers → AreCallsOf (messages_of all) header.clock.tick (rest w) (records_at waiting w)
    left_are w known =
        subst (AreCallsOf (messages_of all) header.clock.tick (rest w)) (sym (at.are_waiting.each w known))
        (are_behind (messages_of all) header.clock.tick (own w printed) (rest w) (records_of w all) (subst (λ (calls : List LogCall). AreCallsOf (messages_of all) header.clock.tick calls (records_of w all)) (at.is.whole w) (all_are w)))

    list_is : (w : ℕ) → w < header.writers → list_at lists w ≡ list_of (closed w) (records_at waiting w)
    list_is w known = at.heads.each w (omega (arith, known, at.are_waiting.count))

    -- nothing is left of writers that the log doesn't have
    left_outside : (w : ℕ) → header.writers ≤ w → rest w ≡ []
    left_outside w out = rest_outside calls_there at.is w out

    -- ---- a record is taken

    -- the record that is taken, and its call
    pub record Takes (writer : ℕ) : Type 0 where
      pub known : writer < header.writers
      pub logged : Call
      pub records : List Call
      pub there : records_at waiting writer ≡ logged ∷ records
      pub first : FirstCall (messages_of all) header.clock.tick (rest writer) logged records

    module _ (writer : ℕ) (none : NoneWants lists) (first : slice_get (merge_order (heads_of lists)) 0 ≡ Some writer) where
      abbrev top : IsLeast lists writer
      top = least_head lists writer first

      writer_known : writer < header.writers
      writer_known = omega (arith, head_there lists writer top.stamp top.head, at.heads.many, at.are_waiting.count)

      pub takes : Takes writer
      takes =
          let e = head_is (closed writer) (records_at waiting writer) top.stamp (ap (λ (l : ListState). l.head) (sym (list_is writer writer_known)) ∙ top.head) in
          record {
            known = writer_known;
            logged = e.0;
            records = e.1;
            there = e.2;
            first = first_call (messages_of all) header.clock.tick (rest writer) e.0 e.1 (subst (AreCallsOf (messages_of all) header.clock.tick (rest writer)) e.2 (left_are writer writer_known));
          }

      module _ (t : Takes writer) where
        abbrev pub call : LogCall
        call = t.first.call

        call_stamp : call.stamp ≡ top.stamp
        call_stamp =
            t.first.is.stamp
            ∙ (let e = head_is (closed writer) (records_at waiting writer) top.stamp (ap (λ (l : ListState). l.head) (sym (list_is writer writer_known)) ∙ top.head) in
            let same : t.logged ≡ e.0 = let both = sym t.there ∙ e.2 in cc in
            ap (λ (c : Call). c.stamp) same ∙ e.3)

        call_mine : call.writer ≡ writer
        call_mine = (subst (AllByRecursion (IsOf writer)) t.first.there (rest_mine calls_there at.is writer)).0

        least_by : (v : ℕ) → v < header.writers → (calls : List LogCall) → rest v ≡ calls → IsNotAfter call_before call calls
        least_by v known [] is = tt
        least_by v known (other ∷ others) is = elim (eqb_tells v writer) [
          | inl same ↦
              let one : call ≡ other = let both = sym t.first.there ∙ ap rest (sym same.1) ∙ is in cc in
              subst (λ (c : LogCall). call_before c call ≡ false) one (not_itself call)
          | inr apart ↦
              let f = some_entry v known other others is in
              later_call call other top.stamp f.0.stamp v writer call_stamp f.3 call_mine
              ((subst (AllByRecursion (IsOf v)) is (rest_mine calls_there at.is v)).0) apart.1
              (top.least v f.0.stamp (ap (λ (l : ListState). l.head) (list_is v known ∙ ap (list_of (closed v)) f.2)))
        ]
          where
            some_entry : (u : ℕ) → u < header.writers → (o : LogCall) (os : List LogCall) → rest u ≡ o ∷ os → (e : Call) × (es : List Call) × (records_at waiting u ≡ e ∷ es) × (o.stamp ≡ e.stamp)
            some_entry u below o os there_is = from (records_at waiting u) refl (subst (λ (cs : List LogCall). AreCallsOf (messages_of all) header.clock.tick cs (records_at waiting u)) there_is (left_are u below))
              where
                from : (es : List Call) → records_at waiting u ≡ es → AreCallsOf (messages_of all) header.clock.tick (o ∷ os) (records_at waiting u) → (e : Call) × (rest_es : List Call) × (records_at waiting u ≡ e ∷ rest_es) × (o.stamp ≡ e.stamp)
                from [] es_are are = absurd (subst (AreCallsOf (messages_of all) header.clock.tick (o ∷ os)) es_are are)
                from (e ∷ es) es_are are = (e, es, es_are, (subst (AreCallsOf (messages_of all) header.clock.tick (o ∷ os)) es_are are).0.stamp)

        least : (v : ℕ) → IsNotAfter call_before call (rest v)
        least v = elim (cases_lt v header.writers) [
          | inl known ↦ least_by v known (rest v) refl
          | inr out ↦ subst (IsNotAfter call_before call) (sym (left_outside v out)) tt
        ]

        ready : (v : ℕ) → v < header.writers → closed v ≡ false → (o : LogCall) × (os : List LogCall) × (rest v ≡ o ∷ os)
        ready v known is_open =
            let quiet : wants (list_at lists v) ≡ false = none v no_list (omega (arith, known, at.heads.many, at.are_waiting.count)) in
            let e = no_wish (closed v) (records_at waiting v) (ap wants (sym (list_is v known)) ∙ quiet) is_open in
            let f = first_call (messages_of all) header.clock.tick (rest v) e.0 e.1 (subst (AreCallsOf (messages_of all) header.clock.tick (rest v)) e.2 (left_are v known)) in
            (f.call, f.others, f.there)

        count_more : (v : ℕ) → count_of v (printed ++ call ∷ []) ≡ count_of v printed + length (own v (call ∷ []))
        count_more v = ap length (filter-append (is_of v) printed (call ∷ [])) ∙ length-append (own v printed) (own v (call ∷ []))

        -- behind the record
        pub taken : (changed : List (List Call)) (new : List ListState) → changed ≡ slice_set waiting writer t.records → new ≡ slice_set (without_head lists writer) writer (list_of (closed writer) t.records) → IsAt closed (printed ++ call ∷ []) changed new
        taken changed new changed_is new_is = record {
          is = one_more calls_there at.is writer call t.first.others t.first.there least ready;
          are_waiting = record {
            count = ap length changed_is ∙ length-set waiting writer t.records ∙ at.are_waiting.count;
            each = λ v known.
                ap (λ (ws : List (List Call)). records_at ws v) changed_is
                ∙ elim (eqb_tells v writer) [
                  | inl same ↦
                      let one : length (own v (call ∷ [])) ≡ 1 = ap (λ (b : Bool). length (cond b (call ∷ []) [])) (eq-eqb call.writer v (call_mine ∙ sym same.1)) in
                      let n : count_of v (printed ++ call ∷ []) ≡ count_of v printed + 1 = count_more v ∙ ap (λ (k : ℕ). count_of v printed + k) one in
                      ap (λ (u : ℕ). records_at (slice_set waiting writer t.records) u) same.1
                      ∙ get_or-set_same waiting writer t.records [] (omega (arith, t.known, at.are_waiting.count))
                      ∙ ap (drop 1) (sym t.there ∙ at.are_waiting.each writer t.known)
                      ∙ drop-drop 1 (count_of writer printed) (records_of writer all)
                      ∙ ap (λ (u : ℕ). drop (count_of u printed + 1) (records_of u all)) (sym same.1)
                      ∙ ap (λ (k : ℕ). drop k (records_of v all)) (sym n)
                  | inr apart ↦
                      let none_more : length (own v (call ∷ [])) ≡ 0 = ap (λ (b : Bool). length (cond b (call ∷ []) [])) (ne_eqb call.writer v (λ e. apart.1 (sym e ∙ call_mine))) in
                      let n : count_of v (printed ++ call ∷ []) ≡ count_of v printed = omega (arith, count_more v, none_more) in
                      get_or-set_other waiting writer v t.records [] apart.1
                      ∙ at.are_waiting.each v known
                      ∙ ap (λ (k : ℕ). drop k (records_of v all)) (sym n)
                ];
          };
          heads =
              subst (λ (ls : List ListState). HasHeads closed ls changed) (sym (new_is ∙ set-set lists writer _ (list_of (closed writer) t.records)))
              (subst (HasHeads closed (slice_set lists writer (list_of (closed writer) t.records))) (sym changed_is)
              (heads_set closed lists waiting at.heads closed writer t.records (omega (arith, t.known, at.are_waiting.count)) (λ w apart. refl)));
        }

        -- the list has no head now, and isn't closed
        pub wishes : wants (list_at (without_head lists writer) writer) ≡ true
        wishes =
            ap wants (get_or-set_same lists writer (record (list_at lists writer) { head = None }) no_list (omega (arith, t.known, at.heads.many, at.are_waiting.count))
            ∙ ap (λ (l : ListState). record l { head = None }) (list_is writer t.known ∙ ap (list_of (closed writer)) t.there))

    -- ---- no more is taken

    -- nothing is left of a writer whose records don't wait
    left_none : (w : ℕ) → w < header.writers → records_at waiting w ≡ [] → rest w ≡ []
    left_none w known none = are_none (messages_of all) header.clock.tick (rest w) (subst (AreCallsOf (messages_of all) header.clock.tick (rest w)) none (left_are w known))

    spent : All IsSpent lists → (w : ℕ) → rest w ≡ []
    spent done w = elim (cases_lt w header.writers) [
      | inl known ↦
          left_none w known
          (no_head (closed w) (records_at waiting w) (ap (λ (l : ListState). l.head) (sym (list_is w known)) ∙ (done w no_list (omega (arith, known, at.heads.many, at.are_waiting.count))).1))
      | inr out ↦ left_outside w out
    ]

  -- the calls that could be printed were
  module _ (ended : Bool) {printed : List LogCall} {waiting : List (List Call)} {lists : List ListState} (at : IsAt (no_more_come ended all) printed waiting lists) where
    by_done : (e : Bool) → e ≡ ended → All IsSpent lists → printed ≡ in_order (ready_calls e header all)
    by_done true is done = are_all calls_there at.is (spent at done)
    by_done false is done =
        are_settled calls_there at.is (ap (λ (e : Bool). no_more_come e all) (sym is))
        (λ w. subst (AllByRecursion (λ call. is_settled header all call ≡ false)) (sym (spent at done w)) tt)

    by_want : (e : Bool) → e ≡ ended → (w : ℕ) → position wants lists ≡ Some w → printed ≡ in_order (ready_calls e header all)
    by_want e is w want =
        let wish = first_wants_head lists w want in
        let known : w < header.writers = omega (arith, wanting_is_there lists w wish, at.heads.many, at.are_waiting.count) in
        let none = a_wish (no_more_come ended all w) (records_at waiting w) (ap wants (sym (list_is at w known)) ∙ wish) in
        by e is known none.0 none.1
      where
        by : (b : Bool) → b ≡ ended → w < header.writers → records_at waiting w ≡ [] → no_more_come ended all w ≡ false → printed ≡ in_order (ready_calls b header all)
        by true same known empty is_open = let wrong : true ≡ false = same ∙ (either_false ended (closed_by all w) is_open).0 in absurd cc
        by false same known empty is_open =
            let here = ap (λ (b : Bool). no_more_come b all) (sym same) in
            are_settled calls_there at.is here
            (none_settled calls_there at.is here w known is_open (left_none at w known empty))

    pub all_ready : (answer : Next) → ((w : ℕ) → ¬ (answer ≡ Take w)) → ((w : ℕ) → answer ≡ Want w → position wants lists ≡ Some w) → (answer ≡ Done → All IsSpent lists) → printed ≡ in_order (ready_calls ended header all)
    all_ready (Take w) none want done = absurd (none w refl)
    all_ready (Want w) none want done = by_want ended refl w (want w refl)
    all_ready Done none want done = by_done ended refl (done refl)
