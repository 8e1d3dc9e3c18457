-- What was printed of a log stays so when blocks are added.
use Rattle.std.proofs.Common.{◌≡◌, ℕ, true, List, [], ◌∷◌, ◌++◌, refl, ap, sym, subst, ◌∙◌, inl, inr, append_assoc}
use Rattle.std.specs.List.{AllByRecursion, flat_map, list_all}
use Rattle.std.proofs.lemmas.List.{append-nil}
use Rattle.std.proofs.lemmas.Grind.{flat_map-append}
use Rattle.log_dictionary.specs.Calls.{LogCall}
use Rattle.checkpoint_io.specs.declared.header.Header.{Header}
use Rattle.checkpoint_io.specs.Blocks.{Block, clocks_of}
use Rattle.checkpoint_io.specs.Validity.{Valid}
use Rattle.checkpoint_io.proofs.lemmas.ValidityLaws.{AreRightAfter-split}
use Rattle.stamp_merge.proofs.lemmas.Ordering.{NoneBefore, IsRising}
use Rattle.direct_printf.specs.Lines.{call_before, in_order, Line, Direct}
use Rattle.direct_printf.proofs.lemmas.Sorting.{call_order}
use Rattle.decompressor.specs.Decompression.{CallsOf, all_calls, lines_of, whole_text}
use Rattle.decompressor.specs.Settling.{open_writers, reaches, closed_by, is_settled, settled_calls, settled_text}
use Rattle.decompressor.proofs.Rising.{all_both, all_second, all_so, all_as, all_pass, rising_both, rising_second, rising_across}
use Rattle.decompressor.proofs.WriterLists.{own}
use Rattle.decompressor.proofs.Settled.{reaches_more, behind_reached, IsReached, settled_if, reached_if}
use Rattle.decompressor.proofs.Printed.{IsPrinted, settled_later, settled_go_on, later, goes_on, settled_printed}
use Rattle.decompressor.proofs.Calls.{has_calls, behind, added, calls_grow, added_open, closed_grow}
use Rattle.decompressor.proofs.LinesByClocks.{same_lines, settled_early}

-- a front of right blocks is right
pub front_valid : (header : Header) (blocks more : List Block) → Valid header (blocks ++ more) → Valid header blocks
front_valid header blocks more valid = record { header_right = valid.header_right; blocks_right = (AreRightAfter-split header [] blocks more valid.blocks_right).0 }

module _ (header : Header) (blocks : List Block) (block : Block) (valid : Valid header (blocks ++ block ∷ [])) where
  abbrev was : Valid header blocks
  was = front_valid header blocks (block ∷ []) valid

  -- what is reached stays so
  pub reached_on : (call : LogCall) → IsReached header blocks (closed_by blocks) call → IsReached header (behind header blocks block was) (closed_by (behind header blocks block was)) call
  reached_on call reached w known is_open =
      subst (λ (calls : List LogCall). reaches calls call ≡ true) (sym (calls_grow header blocks block was w))
      (reaches_more (CallsOf blocks w) (added header blocks block was w) call (reached w known (closed_grow header blocks block was w is_open)))

  module _ (printed : List LogCall) (is : IsPrinted header blocks (closed_by blocks) printed) where
    abbrev rest_on : ℕ → List LogCall
    rest_on w = is.rest w ++ added header blocks block was w

    joined_on : (w : ℕ) → CallsOf (behind header blocks block was) w ≡ (own w printed ++ is.rest w) ++ added header blocks block was w
    joined_on w = calls_grow header blocks block was w ∙ ap (λ (calls : List LogCall). calls ++ added header blocks block was w) (is.whole w)

    rises_on : (w : ℕ) → IsRising call_before ((own w printed ++ is.rest w) ++ added header blocks block was w)
    rises_on w = subst (IsRising call_before) (joined_on w) ((has_calls valid).rise w)

    across_on : (w : ℕ) → AllByRecursion (λ p. NoneBefore call_before p (added header blocks block was w)) (own w printed ++ is.rest w)
    across_on w = rising_across call_before call_order (own w printed ++ is.rest w) (added header blocks block was w) (rises_on w)

    -- what is added comes before nothing that was printed
    apart_on : (w : ℕ) → AllByRecursion (λ p. NoneBefore call_before p (added header blocks block was w)) printed
    apart_on w = elim (added_open header blocks block was (AreRightAfter-split header [] blocks (block ∷ []) valid.blocks_right).1.0 w) [
      | inl none ↦ subst (λ (calls : List LogCall). AllByRecursion (λ p. NoneBefore call_before p calls) printed) (sym none) (all_so (λ p. NoneBefore call_before p []) printed (λ p. tt))
      | inr (known, is_open) ↦
          all_as (IsReached header blocks (closed_by blocks)) (λ p. NoneBefore call_before p (added header blocks block was w)) printed
          (λ p reached. behind_reached (CallsOf blocks w) (added header blocks block was w) p (reached w known is_open)
          (subst (AllByRecursion (λ q. NoneBefore call_before q (added header blocks block was w))) (sym (is.whole w)) (across_on w))) is.reached
    ]

    pub stays : IsPrinted header (behind header blocks block was) (closed_by (behind header blocks block was)) printed
    stays = record {
      rest = rest_on;
      whole = λ w. joined_on w ∙ append_assoc (own w printed) (is.rest w) (added header blocks block was w);
      rises = λ w.
          subst (IsRising call_before) (append_assoc printed (is.rest w) (added header blocks block was w))
          (rising_both call_before call_order (printed ++ is.rest w) (added header blocks block was w) (is.rises w) (rising_second call_before call_order (own w printed ++ is.rest w) (added header blocks block was w) (rises_on w))
          (all_both (λ p. NoneBefore call_before p (added header blocks block was w)) printed (is.rest w) (apart_on w) (all_second (λ p. NoneBefore call_before p (added header blocks block was w)) (own w printed) (is.rest w) (across_on w))));
      reached = all_as (IsReached header blocks (closed_by blocks)) (IsReached header (behind header blocks block was) (closed_by (behind header blocks block was))) printed reached_on is.reached;
    }

-- ---- any blocks more

module _ (header : Header) where
  pub printed_on : (blocks more : List Block) (printed : List LogCall) → Valid header (blocks ++ more) → IsPrinted header blocks (closed_by blocks) printed → IsPrinted header (blocks ++ more) (closed_by (blocks ++ more)) printed
  printed_on blocks [] printed valid is = subst (λ (bs : List Block). IsPrinted header bs (closed_by bs) printed) (sym (append-nil blocks)) is
  printed_on blocks (block ∷ more) printed valid is =
      let long : Valid header ((blocks ++ block ∷ []) ++ more) = subst (Valid header) (sym (append_assoc blocks (block ∷ []) more)) valid in
      subst (λ (bs : List Block). IsPrinted header bs (closed_by bs) printed) (append_assoc blocks (block ∷ []) more)
      (printed_on (blocks ++ block ∷ []) more printed long (stays header blocks block (front_valid header (blocks ++ block ∷ []) more long) printed is))

  pub settled_on : (blocks more : List Block) (call : LogCall) → Valid header (blocks ++ more) → is_settled header blocks call ≡ true → is_settled header (blocks ++ more) call ≡ true
  settled_on blocks [] call valid settled = subst (λ (bs : List Block). is_settled header bs call ≡ true) (sym (append-nil blocks)) settled
  settled_on blocks (block ∷ more) call valid settled =
      let long : Valid header ((blocks ++ block ∷ []) ++ more) = subst (Valid header) (sym (append_assoc blocks (block ∷ []) more)) valid in
      let next : Valid header (blocks ++ block ∷ []) = front_valid header (blocks ++ block ∷ []) more long in
      subst (λ (bs : List Block). is_settled header bs call ≡ true) (append_assoc blocks (block ∷ []) more)
      (settled_on (blocks ++ block ∷ []) more call long (settled_if header (blocks ++ block ∷ []) call (reached_on header blocks block next call (reached_if header blocks call settled))))

  -- ---- the lines

  -- the lines of calls, one after the other
  abbrev pub in_turn : List Block → List LogCall → List ℕ
  in_turn blocks calls = flat_map (Line (clocks_of header blocks)) calls

  pub text_is : (blocks : List Block) (calls : List LogCall) → lines_of header blocks calls ≡ in_turn blocks (in_order calls)
  unfolding Direct
  text_is blocks calls = refl

  -- calls that go on in order are printed so
  pub lines_go_on : (blocks : List Block) (calls printed more : List LogCall) → in_order calls ≡ printed ++ more → lines_of header blocks calls ≡ in_turn blocks printed ++ in_turn blocks more
  lines_go_on blocks calls printed more joined = text_is blocks calls ∙ ap (in_turn blocks) joined ∙ flat_map-append (Line (clocks_of header blocks)) printed more

  -- blocks more change no line of calls that are settled without them
  pub settled_lines : (blocks more : List Block) → Valid header (blocks ++ more) → in_turn (blocks ++ more) (in_order (settled_calls header blocks)) ≡ in_turn blocks (in_order (settled_calls header blocks))
  settled_lines blocks more valid = same_lines header blocks more (in_order (settled_calls header blocks)) valid (settled_early header blocks)

  -- ---- lines that are settled stay

  module _ (blocks more : List Block) (valid : Valid header (blocks ++ more)) where
    abbrev settled : List LogCall
    settled = in_order (settled_calls header blocks)

    abbrev longer : List Block
    longer = blocks ++ more

    settled_there : IsPrinted header longer (closed_by longer) settled
    settled_there = printed_on blocks more settled valid (settled_printed (has_calls (front_valid header blocks more valid)))

    lines_first : (calls others : List LogCall) → in_order calls ≡ settled ++ others → (rest : List ℕ) × (lines_of header longer calls ≡ settled_text header blocks ++ rest)
    lines_first calls others joined =
        let rest = in_turn longer others in
        (rest, lines_go_on longer calls settled others joined ∙ ap (λ (text : List ℕ). text ++ rest) (settled_lines blocks more valid ∙ sym (text_is blocks (settled_calls header blocks))))

    -- the lines of any longer log begin with theirs
    pub settled_first : (rest : List ℕ) × (whole_text header (blocks ++ more) ≡ settled_text header blocks ++ rest)
    settled_first =
        let has = has_calls valid in
        lines_first (all_calls header longer) (later has settled_there) (goes_on has settled_there)

    -- so do those that are settled by it
    pub settled_more : (rest : List ℕ) × (settled_text header (blocks ++ more) ≡ settled_text header blocks ++ rest)
    settled_more =
        let has = has_calls valid in
        lines_first (settled_calls header longer) (settled_later has settled_there refl) (settled_go_on has settled_there refl)

-- where all writers are closed all calls are settled
pub all_are_settled : (header : Header) (blocks : List Block) → open_writers header blocks ≡ [] → settled_calls header blocks ≡ all_calls header blocks
all_are_settled header blocks none =
    all_pass (is_settled header blocks) (all_calls header blocks)
    (all_so (λ call. is_settled header blocks call ≡ true) (all_calls header blocks) (λ call. ap (list_all (λ writer. reaches (CallsOf blocks writer) call)) none))
