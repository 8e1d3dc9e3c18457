-- What a merger has of the records that wait.
use Rattle.std.proofs.Common.{◌≡◌, ◌≢◌, ℕ, ◌<◌, Bool, true, false, ◌||◌, eqb, cond, Some, None, List, [], ◌∷◌, ◌++◌, length, refl, ap, sym, subst, ◌∙◌, inl, inr, arith}
use Rattle.std.specs.Prelude.{slice_set}
use Rattle.std.proofs.lemmas.Bool.{eq-eqb, ne_eqb}
use Rattle.std.proofs.lemmas.Bool.Decides.{eqb_tells}
use Rattle.std.proofs.lemmas.Option.{same_Some}
use Rattle.std.proofs.lemmas.List.{append-nil, get_or-set_same, get_or-set_other, set-get_or, length-set}
use Rattle.log_dictionary.specs.declared.message.Message.{Message}
use Rattle.arg_records.specs.declared.call.Call.{Call}
use Rattle.buffer_extent.specs.declared.take.RecordHeader.{RecordHeader}
use Rattle.checkpoint_io.specs.declared.block.Block.{Block as ReadBlock}
use Rattle.checkpoint_io.specs.declared.block.Block.TheVariants as read
use Rattle.checkpoint_io.specs.Blocks.{Block, Fragment, Extent, NewClock, Close}
use Rattle.checkpoint_io.specs.Validity.{block_records}
use Rattle.checkpoint_io.specs.NextBlocks.{Describes}
use Rattle.stamp_merge.specs.declared.merger.ListState.{ListState}
use Rattle.stamp_merge.specs.Mergers.{no_list, list_at, wants, with_head, with_close}
use Rattle.stamp_merge.proofs.lemmas.Mergers.{wanting_is}
use Rattle.decompressor.specs.Waiting.{QueueState, first_of, HoldsRecords, list_of, records_at, HasHeads, MayStillCome, closed_behind, TakesRecords}
use Rattle.decompressor.proofs.Tests.{or_true, or_false}

-- ---- one list

wanting_state : (list : ListState) → wants list ≡ true → list ≡ record { head = None; closed = false }
wanting_state list want =
    let is = wanting_is list.head list.closed want in
    λ i. record { head = is.0 i; closed = is.1 i }

-- what is there where a list has no first record, or has one
none_first : (records : List Call) → records ≡ [] → (closed : Bool) → list_of closed records ≡ record { head = None; closed = closed }
none_first records none closed = ap (list_of closed) none

first_shown : (closed : Bool) (records : List Call) (messages : List Message) (tick : ℕ) (queue : QueueState) (stamp : ℕ) → HoldsRecords messages tick queue records → first_of queue.bodies queue.head ≡ Some stamp → list_of closed records ≡ record { head = Some stamp; closed = false }
first_shown closed [] messages tick queue stamp none is = let wrong = sym (ap (λ (bodies : List (List ℕ)). first_of bodies queue.head) none) ∙ is in absurd cc
first_shown closed (first ∷ others) messages tick queue stamp holds is =
    let shown = sym (ap (λ (bodies : List (List ℕ)). first_of bodies queue.head) holds.bodies_are) ∙ is in
    let same : first.stamp ≡ stamp = ap (λ (h : RecordHeader). h.stamp) (sym holds.head_is) ∙ same_Some queue.head.stamp stamp shown in
    ap (λ (s : ℕ). record { head = Some s; closed = false }) same

module _ (lists : List ListState) (writer : ℕ) where
  pub shown_some : (closed : Bool) (records : List Call) (messages : List Message) (tick : ℕ) (queue : QueueState) (stamp : ℕ) → wants (list_at lists writer) ≡ true → HoldsRecords messages tick queue records → first_of queue.bodies queue.head ≡ Some stamp
      → with_head lists writer stamp ≡ slice_set lists writer (list_of closed records)
  shown_some closed records messages tick queue stamp want holds is =
      ap (slice_set lists writer) (ap (λ (s : ListState). record s { head = Some stamp }) (wanting_state (list_at lists writer) want) ∙ sym (first_shown closed records messages tick queue stamp holds is))

  pub shown_closed : (closed : Bool) (records : List Call) → closed ≡ true → wants (list_at lists writer) ≡ true → records ≡ [] → with_close lists writer ≡ slice_set lists writer (list_of closed records)
  shown_closed closed records is_closed want none =
      ap (slice_set lists writer) (ap (λ (s : ListState). record s { closed = true }) (wanting_state (list_at lists writer) want) ∙ sym (none_first records none closed ∙ ap (λ (c : Bool). record { head = None; closed = c }) is_closed))

  same_list : (list : ListState) → list_at lists writer ≡ list → lists ≡ slice_set lists writer list
  same_list list is = sym (set-get_or lists writer no_list) ∙ ap (slice_set lists writer) is

  pub shown_open : (closed : Bool) (records : List Call) → closed ≡ false → wants (list_at lists writer) ≡ true → records ≡ [] → lists ≡ slice_set lists writer (list_of closed records)
  shown_open closed records is_open want none =
      same_list (list_of closed records) (wanting_state (list_at lists writer) want ∙ sym (none_first records none closed ∙ ap (λ (c : Bool). record { head = None; closed = c }) is_open))

  -- ---- a writer is closed

  pub close_none : (closed : Bool) (records : List Call) → list_at lists writer ≡ list_of closed records → records ≡ [] → with_close lists writer ≡ slice_set lists writer (list_of true records)
  close_none closed records is none =
      ap (slice_set lists writer) (ap (λ (s : ListState). record s { closed = true }) (is ∙ none_first records none closed) ∙ sym (none_first records none true))

  some_same : (one other : Bool) (records : List Call) → records ≢ [] → list_of one records ≡ list_of other records
  some_same one other [] some = absurd (some refl)
  some_same one other (logged ∷ records) some = refl

  pub close_some : (closed : Bool) (records : List Call) → list_at lists writer ≡ list_of closed records → records ≢ [] → lists ≡ slice_set lists writer (list_of true records)
  close_some closed records is some = same_list (list_of true records) (is ∙ some_same closed true records some)

  -- ---- records are added

  pub add_wants : (records : List Call) → list_at lists writer ≡ list_of false records → records ≡ [] → wants (list_at lists writer) ≡ true
  add_wants records is none = ap wants (is ∙ none_first records none false)

  more_same : (records more : List Call) → records ≢ [] → list_of false records ≡ list_of false (records ++ more)
  more_same [] more some = absurd (some refl)
  more_same (logged ∷ records) more some = refl

  pub add_some : (records more all : List Call) → list_at lists writer ≡ list_of false records → records ≢ [] → all ≡ records ++ more → lists ≡ slice_set lists writer (list_of false all)
  add_some records more all is some joined = same_list (list_of false all) (is ∙ more_same records more some ∙ ap (list_of false) (sym joined))

-- ---- all lists

module _ (closed : ℕ → Bool) (lists : List ListState) (waiting : List (List Call)) (heads : HasHeads closed lists waiting) where
  -- another function that tells the same of the writers
  pub heads_by : (other : ℕ → Bool) → ((w : ℕ) → w < length waiting → closed w ≡ other w) → HasHeads other lists waiting
  heads_by other same = record { many = heads.many; each = λ w known. heads.each w known ∙ ap (λ (c : Bool). list_of c (records_at waiting w)) (same w known) }

  -- the list of one writer, and its records, change
  pub heads_set : (other : ℕ → Bool) (writer : ℕ) (records : List Call) → writer < length waiting → ((w : ℕ) → w ≢ writer → closed w ≡ other w) → HasHeads other (slice_set lists writer (list_of (other writer) records)) (slice_set waiting writer records)
  heads_set other writer records within same = record {
    many = length-set lists writer (list_of (other writer) records) ∙ heads.many ∙ sym (length-set waiting writer records);
    each = λ w known. elim (eqb_tells w writer) [
      | inl one ↦
          subst (λ (v : ℕ). list_at (slice_set lists writer (list_of (other writer) records)) v ≡ list_of (other v) (records_at (slice_set waiting writer records) v)) (sym one.1)
          (get_or-set_same lists writer (list_of (other writer) records) no_list (omega (arith, within, heads.many))
          ∙ ap (list_of (other writer)) (sym (get_or-set_same waiting writer records [] within)))
      | inr apart ↦
          get_or-set_other lists writer w (list_of (other writer) records) no_list apart.1
          ∙ heads.each w (omega (arith, known, length-set waiting writer records))
          ∙ (λ i. list_of (same w apart.1 i) (sym (get_or-set_other waiting writer w records [] apart.1) i))
    ];
  }

-- ---- a block

pub is_close : (writer : ℕ) (block : Block) → Describes (read.Closed writer) block → block ≡ Close writer
is_close writer (Fragment first messages) tells = cc
is_close writer (Extent w records) tells = cc
is_close writer (NewClock clock) tells = cc
is_close writer (Close w) tells = cc

other_test : (v w : ℕ) → w ≢ v → eqb v w ≡ false
other_test v w apart = ne_eqb v w (λ e. apart (sym e))

module _ (closed : ℕ → Bool) (lists : List ListState) (waiting : List (List Call)) (heads : HasHeads closed lists waiting) where
  pub takes_extent : (writer : ℕ) (records all : List Call) (changed : List (List Call)) (new : List ListState) → writer < length waiting → closed writer ≡ false → all ≡ records_at waiting writer ++ records
      → changed ≡ slice_set waiting writer all → new ≡ slice_set lists writer (list_of false all) → TakesRecords closed (Extent writer records) waiting changed new
  takes_extent writer records all changed new within is_open joined changed_is new_is = record {
    count = ap length changed_is ∙ length-set waiting writer all;
    waiting = λ w.
        ap (λ (lists : List (List Call)). records_at lists w) changed_is
        ∙ elim (eqb_tells w writer) [
          | inl one ↦
              subst (λ (v : ℕ). records_at (slice_set waiting writer all) v ≡ records_at waiting v ++ block_records v (Extent writer records)) (sym one.1)
              (get_or-set_same waiting writer all [] within ∙ joined ∙ ap (λ (b : Bool). records_at waiting writer ++ cond b records []) (sym (eq-eqb writer writer refl)))
          | inr apart ↦
              get_or-set_other waiting writer w all [] apart.1
              ∙ sym (append-nil (records_at waiting w))
              ∙ ap (λ (b : Bool). records_at waiting w ++ cond b records []) (sym (other_test writer w apart.1))
        ];
    heads =
        subst (λ (ls : List ListState). HasHeads (closed_behind closed (Extent writer records)) ls changed) (sym (new_is ∙ ap (λ (b : Bool). slice_set lists writer (list_of b all)) (sym is_open ∙ or_false (closed writer) refl)))
        (subst (HasHeads (closed_behind closed (Extent writer records)) (slice_set lists writer (list_of (closed writer || false) all))) (sym changed_is)
        (heads_set closed lists waiting heads (closed_behind closed (Extent writer records)) writer all within (λ w apart. or_false (closed w) refl)));
  }

  pub takes_close : (writer : ℕ) (new : List ListState) → writer < length waiting → new ≡ slice_set lists writer (list_of true (records_at waiting writer)) → TakesRecords closed (Close writer) waiting waiting new
  takes_close writer new within new_is = record {
    count = refl;
    waiting = λ w. sym (append-nil (records_at waiting w));
    heads =
        let other = closed_behind closed (Close writer) in
        let changed = heads_set closed lists waiting heads other writer (records_at waiting writer) within (λ w apart. or_false (closed w) (other_test writer w apart)) in
        subst (λ (ls : List ListState). HasHeads other ls waiting) (sym (new_is ∙ ap (λ (b : Bool). slice_set lists writer (list_of b (records_at waiting writer))) (sym (or_true (closed writer) (eq-eqb writer writer refl)))))
        (subst (HasHeads other (slice_set lists writer (list_of (other writer) (records_at waiting writer)))) (set-get_or waiting writer []) changed);
  }

  -- ---- no more records come

  -- the first lists are closed, and one more
  pub close_one : (done : ℕ) (new : List ListState) → done < length waiting → new ≡ slice_set lists done (list_of true (records_at waiting done)) → HasHeads (λ w. eqb w done || closed w) new waiting
  close_one done new within new_is =
      let other : ℕ → Bool = λ w. eqb w done || closed w in
      let is_closed : other done ≡ true = ap (λ (b : Bool). b || closed done) (eq-eqb done done refl) in
      let changed = heads_set closed lists waiting heads other done (records_at waiting done) within (λ w apart. ap (λ (b : Bool). b || closed w) (sym (other_test w done (λ e. apart (sym e))))) in
      subst (λ (ls : List ListState). HasHeads other ls waiting) (sym (new_is ∙ ap (λ (b : Bool). slice_set lists done (list_of b (records_at waiting done))) (sym is_closed)))
      (subst (HasHeads other (slice_set lists done (list_of (other done) (records_at waiting done)))) (set-get_or waiting done []) changed)

-- ---- the writer of a block

is_extent : (writer : ℕ) (block : Block) → Describes (read.Extent writer) block → (records : List Call) × (block ≡ Extent writer records)
is_extent writer (Fragment first messages) tells = cc
is_extent writer (Extent w records) tells = (records, let same : w ≡ writer = cc in ap (λ (v : ℕ). Extent v records) same)
is_extent writer (NewClock clock) tells = cc
is_extent writer (Close w) tells = cc

pub record MayAdd (block : Block) (closed : ℕ → Bool) (count writer : ℕ) : Type 0 where
  pub records : List Call
  pub known : writer < count
  pub is_open : closed writer ≡ false
  pub is : block ≡ Extent writer records

pub extent_may : (told : ReadBlock) (block : Block) (closed : ℕ → Bool) (count writer : ℕ) → told ≡ read.Extent writer → Describes told block → MayStillCome closed count block → MayAdd block closed count writer
extent_may told block closed count writer named tells may =
    let (records, is) = is_extent writer block (subst (λ (t : ReadBlock). Describes t block) named tells) in
    let both = subst (MayStillCome closed count) is may writer refl in
    record { records = records; known = both.0; is_open = both.1; is = is }

pub close_may : (told : ReadBlock) (block : Block) (closed : ℕ → Bool) (count writer : ℕ) → told ≡ read.Closed writer → Describes told block → MayStillCome closed count block → (writer < count) × (block ≡ Close writer)
close_may told block closed count writer named tells may =
    let is = is_close writer block (subst (λ (t : ReadBlock). Describes t block) named tells) in
    ((subst (MayStillCome closed count) is may writer refl).0, is)
