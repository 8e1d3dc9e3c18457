-- What the rules over a log say of it as a whole.
use Rattle.std.proofs.Common.{◌≡◌, ◌≢◌, ℕ, zero, suc, ◌<◌, ◌≤◌, lit≤, Bool, true, false, ◌||◌, List, [], ◌∷◌, ◌++◌, length, refl, sym, ap, subst, ◌∙◌, append_assoc, inl, inr, arith, eqb, cond}
use Rattle.std.specs.Prelude.{Some, slice_get, nat_lt}
use Rattle.std.specs.List.{AllByRecursion, list_any}
use Rattle.std.proofs.lemmas.Bool.{eq-eqb, or_right, lt-ltb, ltb-true, and_parts, and_from}
use Rattle.std.proofs.lemmas.Bool.Decides.{eqb_tells}
use Rattle.std.proofs.lemmas.List.{append-nil}
use Rattle.std.proofs.lemmas.List.Elements.{All-nil, All-cons}
use Rattle.std.proofs.lemmas.List.Folds.{list_any-append}
use Rattle.std.proofs.lemmas.Grind.{flat_map-append}
use Rattle.log_dictionary.specs.declared.clock.Clock.{Clock}
use Rattle.log_dictionary.specs.declared.message.Message.{Message}
use Rattle.log_dictionary.specs.Clocks.{AreClocks}
use Rattle.log_dictionary.specs.Messages.{AreDistinct}
use Rattle.log_dictionary.proofs.lemmas.ClockLists.{AreClocks-push}
use Rattle.arg_records.specs.declared.call.Call.{Call}
use Rattle.arg_records.specs.Calls.{IsCall, NeverFalls}
use Rattle.checkpoint_io.specs.declared.header.Header.{Header}
use Rattle.checkpoint_io.specs.Blocks.{Block, Fragment, Extent, NewClock, Close, block_messages, messages_of, block_clocks, clocks_in, clocks_of, block_calls, all_records}
use Rattle.checkpoint_io.specs.Validity.{block_records, records_of, last_stamp, closes, IsClosed, IsOf, IsRightAfter, AreRightAfter, Valid}
use Rattle.checkpoint_io.specs.Reading.{are_early}

-- ---- one block more

pub messages-push : (before : List Block) (block : Block) → messages_of (before ++ block ∷ []) ≡ messages_of before ++ block_messages block
messages-push before block = flat_map-append block_messages before (block ∷ []) ∙ ap (λ (l : List Message). messages_of before ++ l) (append-nil (block_messages block))

pub records-push : (writer : ℕ) (before : List Block) (block : Block) → records_of writer (before ++ block ∷ []) ≡ records_of writer before ++ block_records writer block
records-push writer before block =
    flat_map-append (block_records writer) before (block ∷ []) ∙ ap (λ (l : List Call). records_of writer before ++ l) (append-nil (block_records writer block))

-- two runs, one behind the other
pub AreRightAfter-split : (header : Header) (before blocks others : List Block) → AreRightAfter header before (blocks ++ others) → AreRightAfter header before blocks × AreRightAfter header (before ++ blocks) others
AreRightAfter-split header before [] others all = (tt, subst (λ (b : List Block). AreRightAfter header b others) (sym (append-nil before)) all)
AreRightAfter-split header before (block ∷ blocks) others all =
    let rest = AreRightAfter-split header (before ++ block ∷ []) blocks others all.1 in
    ((all.0, rest.0), subst (λ (b : List Block). AreRightAfter header b others) (append_assoc before (block ∷ []) blocks) rest.1)

pub AreRightAfter-append : (header : Header) (before blocks others : List Block) → AreRightAfter header before blocks → AreRightAfter header (before ++ blocks) others → AreRightAfter header before (blocks ++ others)
AreRightAfter-append header before [] others p q = subst (λ (b : List Block). AreRightAfter header b others) (append-nil before) q
AreRightAfter-append header before (block ∷ blocks) others p q =
    (p.0, AreRightAfter-append header (before ++ block ∷ []) blocks others p.1 (subst (λ (b : List Block). AreRightAfter header b others) (sym (append_assoc before (block ∷ []) blocks)) q))

-- a log goes on with a right block
pub goes_on : (header : Header) (blocks : List Block) (block : Block) → Valid header blocks → IsRightAfter header blocks block → Valid header (blocks ++ block ∷ [])
goes_on header blocks block valid right = record { header_right = valid.header_right; blocks_right = AreRightAfter-append header [] blocks (block ∷ []) valid.blocks_right (right, tt) }

-- ---- messages

-- no two messages are equal, and there are at most 65,536
pub record FewDistinct (messages : List Message) : Type 0 where
  pub distinct : AreDistinct messages
  pub few : length messages ≤ 65536

distinct_push : (header : Header) (before : List Block) (block : Block) → IsRightAfter header before block → FewDistinct (messages_of before) → FewDistinct (messages_of before ++ block_messages block)
distinct_push header before (Fragment first messages) right old = record { distinct = right.distinct; few = right.few }
distinct_push header before (Extent writer records) right old = subst FewDistinct (sym (append-nil (messages_of before))) old
distinct_push header before (NewClock clock) right old = subst FewDistinct (sym (append-nil (messages_of before))) old
distinct_push header before (Close writer) right old = subst FewDistinct (sym (append-nil (messages_of before))) old

distinct_after : (header : Header) (before blocks : List Block) → AreRightAfter header before blocks → FewDistinct (messages_of before) → FewDistinct (messages_of (before ++ blocks))
distinct_after header before [] all old = subst (λ (b : List Block). FewDistinct (messages_of b)) (sym (append-nil before)) old
distinct_after header before (block ∷ blocks) all old =
    let here = subst FewDistinct (sym (messages-push before block)) (distinct_push header before block all.0 old) in
    subst (λ (b : List Block). FewDistinct (messages_of b)) (append_assoc before (block ∷ []) blocks) (distinct_after header (before ++ block ∷ []) blocks all.1 here)

pub messages_differ : (header : Header) (blocks : List Block) → Valid header blocks → FewDistinct (messages_of blocks)
messages_differ header blocks valid = distinct_after header [] blocks valid.blocks_right (record { distinct = λ i j d earlier within. absurd (omega (arith, earlier, within)); few = omega arith })

-- ---- stamps

NeverFalls-append : (least : ℕ) (xs ys : List Call) → NeverFalls least xs → NeverFalls (last_stamp least xs) ys → NeverFalls least (xs ++ ys)
NeverFalls-append least [] ys p q = q
NeverFalls-append least (x ∷ xs) ys p q = (p.0, NeverFalls-append x.stamp xs ys p.1 q)

rising_records : (tick writer w : ℕ) (old records : List Call) → (w ≡ writer → NeverFalls (last_stamp tick old) records) → NeverFalls tick old → NeverFalls tick (old ++ (cond (eqb w writer) records []))
rising_records tick writer w old records rising p =
    elim (eqb_tells w writer) [
      | inl own ↦ subst (λ (b : Bool). NeverFalls tick (old ++ (cond b records []))) (sym own.0) (NeverFalls-append tick old records p (rising own.1))
      | inr other ↦ subst (λ (b : Bool). NeverFalls tick (old ++ (cond b records []))) (sym other.0) (subst (NeverFalls tick) (sym (append-nil old)) p)
    ]

rising_push : (header : Header) (writer : ℕ) (before : List Block) (block : Block) → IsRightAfter header before block → NeverFalls header.clock.tick (records_of writer before) → NeverFalls header.clock.tick (records_of writer before ++ block_records writer block)
rising_push header writer before (Fragment first messages) right old = subst (NeverFalls header.clock.tick) (sym (append-nil (records_of writer before))) old
rising_push header writer before (Extent w records) right old =
    rising_records header.clock.tick writer w (records_of writer before) records (λ own. subst (λ (n : ℕ). NeverFalls (last_stamp header.clock.tick (records_of n before)) records) own right.rising) old
rising_push header writer before (NewClock clock) right old = subst (NeverFalls header.clock.tick) (sym (append-nil (records_of writer before))) old
rising_push header writer before (Close w) right old = subst (NeverFalls header.clock.tick) (sym (append-nil (records_of writer before))) old

rising_after : (header : Header) (writer : ℕ) (before blocks : List Block) → AreRightAfter header before blocks → NeverFalls header.clock.tick (records_of writer before) → NeverFalls header.clock.tick (records_of writer (before ++ blocks))
rising_after header writer before [] all old = subst (λ (b : List Block). NeverFalls header.clock.tick (records_of writer b)) (sym (append-nil before)) old
rising_after header writer before (block ∷ blocks) all old =
    let here = subst (NeverFalls header.clock.tick) (sym (records-push writer before block)) (rising_push header writer before block all.0 old) in
    subst (λ (b : List Block). NeverFalls header.clock.tick (records_of writer b)) (append_assoc before (block ∷ []) blocks) (rising_after header writer (before ++ block ∷ []) blocks all.1 here)

-- no writer's stamps fall, and none is below the tick
pub stamps_rise : (header : Header) (blocks : List Block) (writer : ℕ) → Valid header blocks → NeverFalls header.clock.tick (records_of writer blocks)
stamps_rise header blocks writer valid = rising_after header writer [] blocks valid.blocks_right tt

-- ---- records

pub slice_get-front : (messages more : List Message) (id : ℕ) (message : Message) → slice_get messages id ≡ Some message → slice_get (messages ++ more) id ≡ Some message
slice_get-front [] more id message e = cc
slice_get-front (m ∷ messages) more zero message e = e
slice_get-front (m ∷ messages) more (suc id) message e = slice_get-front messages more id message e

pub IsCall-front : (messages more : List Message) (records : List Call) → AllByRecursion (IsCall messages) records → AllByRecursion (IsCall (messages ++ more)) records
IsCall-front messages more [] all = tt
IsCall-front messages more (call ∷ records) all =
    let is = all.0 in
    (record { message = is.message; known = slice_get-front messages more call.id is.message is.known; fits = is.fits; short = is.short }, IsCall-front messages more records all.1)

pub all_both : {A : Type 0} (P : A → Type 0) (xs ys : List A) → AllByRecursion P xs → AllByRecursion P ys → AllByRecursion P (xs ++ ys)
all_both P [] ys p q = q
all_both P (x ∷ xs) ys p q = (p.0, all_both P xs ys p.1 q)

pub all_parts : {A : Type 0} (P : A → Type 0) (xs ys : List A) → AllByRecursion P (xs ++ ys) → AllByRecursion P xs × AllByRecursion P ys
all_parts P [] ys all = (tt, all)
all_parts P (x ∷ xs) ys all =
    let rest = all_parts P xs ys all.1 in
    ((all.0, rest.0), rest.1)

right_block : (header : Header) (writer : ℕ) (before : List Block) (block : Block) → IsRightAfter header before block → AllByRecursion (IsCall (messages_of before)) (block_records writer block)
right_block header writer before (Fragment first messages) right = tt
right_block header writer before (Extent w records) right =
    elim (eqb_tells w writer) [
      | inl own ↦ subst (λ (b : Bool). AllByRecursion (IsCall (messages_of before)) (cond b records [])) (sym own.0) right.right
      | inr other ↦ subst (λ (b : Bool). AllByRecursion (IsCall (messages_of before)) (cond b records [])) (sym other.0) tt
    ]
right_block header writer before (NewClock clock) right = tt
right_block header writer before (Close w) right = tt

right_after : (header : Header) (writer : ℕ) (before blocks : List Block) → AreRightAfter header before blocks → AllByRecursion (IsCall (messages_of before)) (records_of writer before) → AllByRecursion (IsCall (messages_of (before ++ blocks))) (records_of writer (before ++ blocks))
right_after header writer before [] all old = subst (λ (b : List Block). AllByRecursion (IsCall (messages_of b)) (records_of writer b)) (sym (append-nil before)) old
right_after header writer before (block ∷ blocks) all old =
    let own = all_both (IsCall (messages_of before)) (records_of writer before) (block_records writer block) old (right_block header writer before block all.0) in
    let more = IsCall-front (messages_of before) (block_messages block) (records_of writer before ++ block_records writer block) own in
    let named = subst (λ (m : List Message). AllByRecursion (IsCall m) (records_of writer before ++ block_records writer block)) (sym (messages-push before block)) more in
    let here = subst (AllByRecursion (IsCall (messages_of (before ++ block ∷ [])))) (sym (records-push writer before block)) named in
    subst (λ (b : List Block). AllByRecursion (IsCall (messages_of b)) (records_of writer b)) (append_assoc before (block ∷ []) blocks) (right_after header writer (before ++ block ∷ []) blocks all.1 here)

-- the records of an extent, and of others
pub own_records : (writer : ℕ) (before : List Block) (records : List Call) (others : List Block) → records_of writer (before ++ Extent writer records ∷ others) ≡ records_of writer before ++ (records ++ records_of writer others)
own_records writer before records others =
    flat_map-append (block_records writer) before (Extent writer records ∷ others)
    ∙ ap (λ (b : Bool). records_of writer before ++ (cond b records [] ++ records_of writer others)) (eq-eqb writer writer refl)

pub other_records : (writer another : ℕ) (before : List Block) (records : List Call) (others : List Block) → another ≢ writer → records_of writer (before ++ Extent another records ∷ others) ≡ records_of writer before ++ records_of writer others
other_records writer another before records others differs =
    flat_map-append (block_records writer) before (Extent another records ∷ others)
    ∙ elim (eqb_tells another writer) [
      | inl own ↦ absurd (differs own.1)
      | inr other ↦ ap (λ (b : Bool). records_of writer before ++ (cond b records [] ++ records_of writer others)) other.0
    ]

-- each record names a message of the log and fits it
pub records_fit : (header : Header) (blocks : List Block) (writer : ℕ) → Valid header blocks → AllByRecursion (IsCall (messages_of blocks)) (records_of writer blocks)
records_fit header blocks writer valid = right_after header writer [] blocks valid.blocks_right tt

-- ---- places

right_at : (header : Header) (before : List Block) (block : Block) (others : List Block) → Valid header (before ++ block ∷ others) → IsRightAfter header before block
right_at header before block others valid = (AreRightAfter-split header [] before (block ∷ others) valid.blocks_right).1.0

-- each record names a message that was defined before it
pub records_defined : (header : Header) (before : List Block) (writer : ℕ) (records : List Call) (others : List Block) → Valid header (before ++ Extent writer records ∷ others) → AllByRecursion (IsCall (messages_of before)) records
records_defined header before writer records others valid = (right_at header before (Extent writer records) others valid).right

-- a close mark closes its writer, and nothing else does
pub closed_among : (writer : ℕ) (before between : List Block) → IsClosed writer (before ++ Close writer ∷ between)
closed_among writer before between =
    let own : list_any (closes writer) (Close writer ∷ between) ≡ true = ap (λ (b : Bool). b || list_any (closes writer) between) (eq-eqb writer writer refl) in
    list_any-append (closes writer) before (Close writer ∷ between) ∙ or_right (list_any (closes writer) before) (list_any (closes writer) (Close writer ∷ between)) own

no_mark : (writer : ℕ) (block : Block) → block ≢ Close writer → closes writer block ≡ false
no_mark writer (Fragment first messages) other = refl
no_mark writer (Extent w records) other = refl
no_mark writer (NewClock clock) other = refl
no_mark writer (Close w) other =
    elim (eqb_tells w writer) [
      | inl own ↦ absurd (other (ap Close own.1))
      | inr differs ↦ differs.0
    ]

pub open_without_mark : (writer : ℕ) (blocks : List Block) → AllByRecursion (λ block. block ≢ Close writer) blocks → ¬ (IsClosed writer blocks)
open_without_mark writer [] others closed = cc
open_without_mark writer (block ∷ blocks) others closed =
    let here = no_mark writer block others.0 in
    open_without_mark writer blocks others.1 (ap (λ (b : Bool). b || list_any (closes writer) blocks) (sym here) ∙ closed)

open_after : (header : Header) (writer : ℕ) (before : List Block) (block : Block) → IsRightAfter header before block → IsOf writer block → IsClosed writer before → ⊥
open_after header writer before (Fragment first messages) right of closed = of
open_after header writer before (Extent w records) right of closed = right.writer_open.unclosed (subst (λ (n : ℕ). IsClosed n before) (sym of) closed)
open_after header writer before (NewClock clock) right of closed = of
open_after header writer before (Close w) right of closed = right.unclosed (subst (λ (n : ℕ). IsClosed n before) (sym of) closed)

-- nothing of a writer follows its close mark
pub closed_for_good : (header : Header) (writer : ℕ) (before between : List Block) (block : Block) (others : List Block) → Valid header (before ++ Close writer ∷ between ++ block ∷ others) → IsOf writer block → ⊥
closed_for_good header writer before between block others valid of =
    open_after header writer (before ++ Close writer ∷ between) block (right_at header (before ++ Close writer ∷ between) block others valid) of (closed_among writer before between)

known_after : (header : Header) (writer : ℕ) (before : List Block) (block : Block) → IsRightAfter header before block → IsOf writer block → writer < header.writers
known_after header writer before (Fragment first messages) right of = absurd of
known_after header writer before (Extent w records) right of = subst (λ (n : ℕ). n < header.writers) of right.writer_open.known
known_after header writer before (NewClock clock) right of = absurd of
known_after header writer before (Close w) right of = subst (λ (n : ℕ). n < header.writers) of right.known

-- each writer is one of the log's
pub writers_known : (header : Header) (writer : ℕ) (before : List Block) (block : Block) (others : List Block) → Valid header (before ++ block ∷ others) → IsOf writer block → writer < header.writers
writers_known header writer before block others valid of = known_after header writer before block (right_at header before block others valid) of

-- a fragment's ids go on where those before end
pub ids_go_on : (header : Header) (before : List Block) (first : ℕ) (messages : List Message) (others : List Block) → Valid header (before ++ Fragment first messages ∷ others) → first ≡ length (messages_of before)
ids_go_on header before first messages others valid = (right_at header before (Fragment first messages) others valid).next

-- ---- clocks

pub clocks-push : (header : Header) (before : List Block) (block : Block) → clocks_of header (before ++ block ∷ []) ≡ clocks_of header before ++ block_clocks block
clocks-push header before block =
    ap (λ (l : List Clock). header.clock ∷ l) (flat_map-append block_clocks before (block ∷ []) ∙ ap (λ (l : List Clock). clocks_in before ++ l) (append-nil (block_clocks block)))

pub all_records-push : (before : List Block) (block : Block) → all_records (before ++ block ∷ []) ≡ all_records before ++ block_calls block
all_records-push before block = flat_map-append block_calls before (block ∷ []) ∙ ap (λ (l : List Call). all_records before ++ l) (append-nil (block_calls block))

rise_push : (header : Header) (before : List Block) (block : Block) → IsRightAfter header before block → AreClocks (clocks_of header before) → AreClocks (clocks_of header before ++ block_clocks block)
rise_push header before (Fragment first messages) right old = subst AreClocks (sym (append-nil (clocks_of header before))) old
rise_push header before (Extent writer records) right old = subst AreClocks (sym (append-nil (clocks_of header before))) old
rise_push header before (NewClock clock) right old = AreClocks-push (clocks_of header before) clock old right.few right.rising right.rate
rise_push header before (Close writer) right old = subst AreClocks (sym (append-nil (clocks_of header before))) old

rise_after : (header : Header) (before blocks : List Block) → AreRightAfter header before blocks → AreClocks (clocks_of header before) → AreClocks (clocks_of header (before ++ blocks))
rise_after header before [] all old = subst (λ (b : List Block). AreClocks (clocks_of header b)) (sym (append-nil before)) old
rise_after header before (block ∷ blocks) all old =
    let here = subst AreClocks (sym (clocks-push header before block)) (rise_push header before block all.0 old) in
    subst (λ (b : List Block). AreClocks (clocks_of header b)) (append_assoc before (block ∷ []) blocks) (rise_after header (before ++ block ∷ []) blocks all.1 here)

-- the clocks of a log are those of a run
pub clocks_rise : (header : Header) (blocks : List Block) → Valid header blocks → AreClocks (clocks_of header blocks)
clocks_rise header blocks valid =
    rise_after header [] blocks valid.blocks_right (record {
      some = lit≤ tt;
      few = lit≤ tt;
      rising = λ i j d earlier within. absurd (omega (arith, earlier, within));
      rates = All-cons (λ (clock : Clock). 1 ≤ clock.rate) header.clock [] valid.header_right.rate (All-nil (λ (clock : Clock). 1 ≤ clock.rate));
    })

-- no record in front of a clock has reached its tick
pub early_before : (header : Header) (before : List Block) (clock : Clock) (others : List Block) → Valid header (before ++ NewClock clock ∷ others) → AllByRecursion (λ call. call.stamp < clock.tick) (all_records before)
early_before header before clock others valid = (right_at header before (NewClock clock) others valid).early

-- what holds of all records holds of those of a writer
pub all_own : (P : Call → Type 0) (writer : ℕ) (blocks : List Block) → AllByRecursion P (all_records blocks) → AllByRecursion P (records_of writer blocks)
all_own P writer [] all = tt
all_own P writer (block ∷ blocks) all =
    let parts = all_parts P (block_calls block) (all_records blocks) all in
    all_both P (block_records writer block) (records_of writer blocks) (own block parts.0) (all_own P writer blocks parts.1)
  where
    own : (block : Block) → AllByRecursion P (block_calls block) → AllByRecursion P (block_records writer block)
    own (Fragment first messages) here = tt
    own (Extent w records) here =
        elim (eqb_tells w writer) [
          | inl same ↦ subst (λ (b : Bool). AllByRecursion P (cond b records [])) (sym same.0) here
          | inr other ↦ subst (λ (b : Bool). AllByRecursion P (cond b records [])) (sym other.0) tt
        ]
    own (NewClock clock) here = tt
    own (Close w) here = tt

-- the test of a tick tells
pub early_test : (tick : ℕ) (records : List Call) → AllByRecursion (λ call. call.stamp < tick) records → are_early tick records ≡ true
early_test tick [] all = refl
early_test tick (call ∷ records) all = and_from _ _ (lt-ltb call.stamp tick all.0) (early_test tick records all.1)

pub early_from_test : (tick : ℕ) (records : List Call) → are_early tick records ≡ true → AllByRecursion (λ call. call.stamp < tick) records
early_from_test tick [] e = tt
early_from_test tick (call ∷ records) e =
    let both = and_parts (nat_lt call.stamp tick) (are_early tick records) e in
    (ltb-true call.stamp tick both.0, early_from_test tick records both.1)
