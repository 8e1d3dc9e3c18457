-- The clocks of a log that grows, and the stamps that reach them.
use Rattle.std.proofs.Common.{◌≡◌, ℕ, suc, ◌+◌, ◌-◌, ◌<◌, ◌≤◌, Bool, true, false, cond, ◌||◌, List, [], ◌∷◌, ◌++◌, length, map, get_or, drop, filter, refl, sym, ap, subst, ◌∙◌, append_assoc, inl, inr, arith}
use Rattle.std.specs.Prelude.{nat_le, max, AllPairs}
use Rattle.std.specs.List.{AllByRecursion, list_any}
use Rattle.std.proofs.Math.Bool.{or-false}
use Rattle.std.proofs.lemmas.Bool.{cases_lt, le-leb, lt-leb, eq-eqb}
use Rattle.std.proofs.lemmas.List.{append-nil, length-append, drop-append-le, get_or_append_left, get_or-append-add}
use Rattle.std.proofs.lemmas.List.Elements.{filter-append}
use Rattle.std.proofs.lemmas.List.Folds.{list_any-append}
use Rattle.std.proofs.lemmas.Grind.{flat_map-append}
use Rattle.log_dictionary.specs.declared.clock.Clock.{Clock}
use Rattle.log_dictionary.specs.declared.message.Message.{Message}
use Rattle.log_dictionary.specs.Clocks.{AreClocks, FitsClock, last_tick}
use Rattle.log_dictionary.proofs.lemmas.ClockLists.{last_tick-place}
use Rattle.arg_records.specs.declared.call.Call.{Call}
use Rattle.arg_records.specs.Calls.{NeverFalls, last_stamp}
use Rattle.checkpoint_io.specs.declared.header.Header.{Header}
use Rattle.checkpoint_io.specs.Versions.{has_clocks}
use Rattle.checkpoint_io.specs.Blocks.{Block, Fragment, Extent, NewClock, Close, block_messages, messages_of, block_clocks, clocks_in, clocks_of, block_calls, all_records, SpellsClock, SpellsBlocks}
use Rattle.checkpoint_io.specs.Validity.{block_records, records_of, closes, AreRightAfter, ContinuesClocks}
use Rattle.checkpoint_io.specs.Logs.{greatest_stamp, new_clocks, StandsInFront, IsLaidOut, ends, extent, close}
use Rattle.checkpoint_io.proofs.lemmas.ValidityLaws.{all_both, all_parts, clocks-push, all_records-push}
use Rattle.roaming_consumer.specs.Growth.{clocks_bytes}

-- ---- the greatest stamp

-- where no stamp falls the last is the greatest
pub last_is_greatest : (least : ℕ) (records : List Call) → NeverFalls least records → 1 ≤ length records → greatest_stamp records ≡ last_stamp least records
last_is_greatest least [] rising some = absurd (omega (arith, some))
last_is_greatest least (call ∷ []) rising some = omega arith
last_is_greatest least (call ∷ next ∷ records) rising some =
    let behind = last_is_greatest call.stamp (next ∷ records) rising.1 (omega arith) in
    let here : call.stamp ≤ next.stamp = rising.1.0 in
    omega (arith, behind, here)

pub greatest_append : (front back : List Call) → greatest_stamp (front ++ back) ≡ max (greatest_stamp front) (greatest_stamp back)
greatest_append [] back = omega arith
greatest_append (call ∷ front) back = omega (arith, greatest_append front back)

-- ---- what holds of each

pub all_as : {A : Type 0} (P Q : A → Type 0) (xs : List A) → ((x : A) → P x → Q x) → AllByRecursion P xs → AllByRecursion Q xs
all_as P Q [] each all = tt
all_as P Q (x ∷ xs) each all = (each x all.0, all_as P Q xs each all.1)

pub all_two : {A : Type 0} (P Q R : A → Type 0) (xs : List A) → ((x : A) → P x → Q x → R x) → AllByRecursion P xs → AllByRecursion Q xs → AllByRecursion R xs
all_two P Q R [] each p q = tt
all_two P Q R (x ∷ xs) each p q = (each x p.0 q.0, all_two P Q R xs each p.1 q.1)

-- ---- clocks whose ticks rise

abbrev pub Rising : List Clock → Type 0
Rising clocks = AllPairs (λ a b. a.tick < b.tick) clocks

rising_behind : (clock : Clock) (clocks : List Clock) → Rising (clock ∷ clocks) → Rising clocks
rising_behind clock clocks rising = λ i j d earlier within. rising (suc i) (suc j) d (omega (arith, earlier)) (omega (arith, within))

pub rising_back : (front back : List Clock) → Rising (front ++ back) → Rising back
rising_back [] back rising = rising
rising_back (clock ∷ front) back rising = rising_back front back (rising_behind clock (front ++ back) rising)

all_above : (tick : ℕ) (clocks : List Clock) → ((k : ℕ) (d : Clock) → k < length clocks → tick < (get_or clocks k d).tick) → AllByRecursion (λ clock. tick < clock.tick) clocks
all_above tick [] each = tt
all_above tick (clock ∷ clocks) each = (each 0 clock (omega arith), all_above tick clocks (λ k d within. each (suc k) d (omega (arith, within))))

-- the later ticks are above the first
pub first_below : (clock : Clock) (clocks : List Clock) → Rising (clock ∷ clocks) → AllByRecursion (λ later. clock.tick < later.tick) clocks
first_below clock clocks rising = all_above clock.tick clocks (λ k d within. rising 0 (suc k) d (omega arith) (omega (arith, within)))

-- a clock whose tick the stamp has reached
abbrev reached : ℕ → Clock → Bool
reached stamp clock = nat_le clock.tick stamp

pub none_reached : (stamp : ℕ) (clocks : List Clock) → AllByRecursion (λ clock. stamp < clock.tick) clocks → filter (λ clock. nat_le clock.tick stamp) clocks ≡ []
none_reached stamp [] above = refl
none_reached stamp (clock ∷ clocks) above =
    ap (λ (b : Bool). cond b (clock ∷ filter (reached stamp) clocks) (filter (reached stamp) clocks)) (lt-leb clock.tick stamp above.0) ∙ none_reached stamp clocks above.1

-- those that a stamp has reached stand in front
pub record Parted (stamp : ℕ) (clocks : List Clock) : Type 0 where
  pub rest : List Clock
  pub joined : clocks ≡ filter (λ clock. nat_le clock.tick stamp) clocks ++ rest
  pub above : AllByRecursion (λ clock. stamp < clock.tick) rest

pub parted : (stamp : ℕ) (clocks : List Clock) → Rising clocks → Parted stamp clocks
parted stamp [] rising = record { rest = []; joined = refl; above = tt }
parted stamp (clock ∷ clocks) rising =
    elim (cases_lt stamp clock.tick) [
      | inl less ↦
          let all : AllByRecursion (λ (c : Clock). stamp < c.tick) (clock ∷ clocks) =
          (less, all_as (λ (c : Clock). clock.tick < c.tick) (λ (c : Clock). stamp < c.tick) clocks (λ c above. omega (arith, above, less)) (first_below clock clocks rising)) in
          record { rest = clock ∷ clocks; joined = ap (λ (l : List Clock). l ++ clock ∷ clocks) (sym (none_reached stamp (clock ∷ clocks) all)); above = all }
      | inr more ↦
          let others = parted stamp clocks (rising_behind clock clocks rising) in
          record {
            rest = others.rest;
            joined =
                ap (λ (l : List Clock). clock ∷ l) others.joined
                ∙ ap (λ (b : Bool). cond b (clock ∷ filter (reached stamp) clocks) (filter (reached stamp) clocks) ++ others.rest) (sym (le-leb clock.tick stamp more));
            above = others.above;
          }
    ]

-- ---- clocks that are put behind blocks

-- the blocks of clocks say nothing but their clocks
pub record Alone (clocks : List Clock) : Type 0 where
  pub messages : messages_of (map NewClock clocks) ≡ []
  pub clocks_are : clocks_in (map NewClock clocks) ≡ clocks
  pub calls : all_records (map NewClock clocks) ≡ []
  pub own : (writer : ℕ) → records_of writer (map NewClock clocks) ≡ []
  pub marks : (writer : ℕ) → list_any (closes writer) (map NewClock clocks) ≡ false

pub alone : (clocks : List Clock) → Alone clocks
alone [] = record { messages = refl; clocks_are = refl; calls = refl; own = λ writer. refl; marks = λ writer. refl }
alone (clock ∷ clocks) =
    let others = alone clocks in
    record {
      messages = others.messages;
      clocks_are = ap (λ (l : List Clock). clock ∷ l) others.clocks_are;
      calls = others.calls;
      own = others.own;
      marks = others.marks;
    }

-- behind blocks
pub record Behind (header : Header) (blocks : List Block) (due : List Clock) : Type 0 where
  pub messages : messages_of (blocks ++ map NewClock due) ≡ messages_of blocks
  pub clocks_are : clocks_of header (blocks ++ map NewClock due) ≡ clocks_of header blocks ++ due
  pub calls : all_records (blocks ++ map NewClock due) ≡ all_records blocks
  pub own : (writer : ℕ) → records_of writer (blocks ++ map NewClock due) ≡ records_of writer blocks
  pub marks : (writer : ℕ) → list_any (closes writer) (blocks ++ map NewClock due) ≡ list_any (closes writer) blocks

pub behind : (header : Header) (blocks : List Block) (due : List Clock) → Behind header blocks due
behind header blocks due =
    let here = alone due in
    record {
      messages = flat_map-append block_messages blocks (map NewClock due) ∙ ap (λ (l : List Message). messages_of blocks ++ l) here.messages ∙ append-nil (messages_of blocks);
      clocks_are = ap (λ (l : List Clock). header.clock ∷ l) (flat_map-append block_clocks blocks (map NewClock due) ∙ ap (λ (l : List Clock). clocks_in blocks ++ l) here.clocks_are);
      calls = flat_map-append block_calls blocks (map NewClock due) ∙ ap (λ (l : List Call). all_records blocks ++ l) here.calls ∙ append-nil (all_records blocks);
      own = λ w. flat_map-append (block_records w) blocks (map NewClock due) ∙ ap (λ (l : List Call). records_of w blocks ++ l) (here.own w) ∙ append-nil (records_of w blocks);
      marks = λ w.
          list_any-append (closes w) blocks (map NewClock due) ∙ ap (λ (b : Bool). list_any (closes w) blocks || b) (here.marks w)
          ∙ or-false (list_any (closes w) blocks);
    }

-- no record of the calls has reached the clock
abbrev pub IsUnreached : List Call → Clock → Type 0
IsUnreached records clock = AllByRecursion (λ call. call.stamp < clock.tick) records

-- the clock that stands behind others in a list of clocks of a run has a tick above the last of these
above_last : (front rest : List Clock) (clock : Clock) → Rising (front ++ clock ∷ rest) → 1 ≤ length front → last_tick front < clock.tick
above_last front rest clock rising some =
    let place = length front - 1 in
    let here : get_or (front ++ clock ∷ rest) place clock ≡ get_or front place clock = get_or_append_left front (clock ∷ rest) clock place (omega (arith, some)) in
    let there : get_or (front ++ clock ∷ rest) (length front + 0) clock ≡ clock = get_or-append-add front (clock ∷ rest) 0 clock in
    let rises = rising place (length front + 0) clock (omega (arith, some)) (omega (arith, length-append front (clock ∷ rest))) in
    let last = last_tick-place front place clock (omega (arith, some)) in
    omega (arith, rises, last, ap (λ (c : Clock). c.tick) here, ap (λ (c : Clock). c.tick) there)

-- the next clocks of a run are right behind blocks whose records have reached none of them
pub clocks_right : (header : Header) (clocks due rest : List Clock) (before : List Block) → AreClocks clocks → clocks ≡ clocks_of header before ++ (due ++ rest) → AllByRecursion (IsUnreached (all_records before)) due → AreRightAfter header before (map NewClock due)
clocks_right header clocks [] rest before formed are unreached = tt
clocks_right header clocks (clock ∷ due) rest before formed are unreached =
    let front = clocks_of header before in
    let rising : Rising (front ++ clock ∷ (due ++ rest)) = subst Rising are formed.rising in
    let size = length-append front (clock ∷ (due ++ rest)) in
    let whole = ap length are in
    let there : get_or clocks (length front + 0) clock ≡ clock = ap (λ (l : List Clock). get_or l (length front + 0) clock) are ∙ get_or-append-add front (clock ∷ (due ++ rest)) 0 clock in
    let rates = formed.rates (length front + 0) clock (omega (arith, whole, size)) in
    let now : clocks_of header (before ++ NewClock clock ∷ []) ≡ front ++ clock ∷ [] = clocks-push header before (NewClock clock) in
    let calls : all_records (before ++ NewClock clock ∷ []) ≡ all_records before = all_records-push before (NewClock clock) ∙ append-nil (all_records before) in
    let right : ContinuesClocks header before clock = record {
      few = omega (arith, formed.few, whole, size);
      rising = above_last front (due ++ rest) clock rising (omega arith);
      early = unreached.0;
      rate = omega (arith, rates, ap (λ (c : Clock). c.rate) there);
    } in (
      right,
      clocks_right header clocks due rest (before ++ NewClock clock ∷ []) formed
          (are ∙ sym (append_assoc front (clock ∷ []) (due ++ rest)) ∙ ap (λ (l : List Clock). l ++ (due ++ rest)) (sym now))
          (subst (λ (l : List Call). AllByRecursion (IsUnreached l) due) (sym calls) unreached.1),
    )

pub clocks_spelled : (header : Header) (due : List Clock) (before : List Block) → (1 ≤ length due → has_clocks header.version ≡ true) → AllByRecursion FitsClock due → SpellsBlocks header before (map NewClock due) (clocks_bytes due)
clocks_spelled header [] before version_has fit = refl
clocks_spelled header (clock ∷ due) before version_has (fits, others) =
    let is : SpellsClock header clock _ = record { version_has = version_has (omega arith); tick_fits = fits.tick; nanos_fits = fits.nanos; rate_fits = fits.rate; joined = refl } in
    (_, clocks_bytes due, refl, is, clocks_spelled header due (before ++ NewClock clock ∷ []) (λ some. version_has (omega arith)) others)

-- ---- a clock more

-- what stands in front of an extent whose records haven't reached a later clock stands there with that clock too
pub front_with_clock : (clocks : List Clock) (clock : Clock) (dictionary : List Message) (before : List Block) (records : List Call) (front : List Block) → 1 + length (clocks_in before) ≤ length clocks → greatest_stamp records < clock.tick → StandsInFront clocks dictionary before records front → StandsInFront (clocks ++ clock ∷ []) dictionary before records front
front_with_clock clocks clock dictionary before records front within above stands =
    let written = 1 + length (clocks_in before) in
    let test = reached (greatest_stamp records) in
    let same : new_clocks (clocks ++ clock ∷ []) written records ≡ new_clocks clocks written records =
    ap (filter test) (drop-append-le written clocks (clock ∷ []) within) ∙ filter-append test (drop written clocks) (clock ∷ [])
    ∙ ap (λ (l : List Clock). filter test (drop written clocks) ++ l) (none_reached (greatest_stamp records) (clock ∷ []) (above, tt))
    ∙ append-nil (filter test (drop written clocks)) in
    record {
      fragments = stands.fragments;
      are = stands.are;
      joined = stands.joined ∙ ap (λ (l : List Clock). map NewClock l ++ stands.fragments) (sym same);
    }

pub later_laid : (clocks : List Clock) (clock : Clock) (dictionary : List Message) (batch : ℕ) (before blocks : List Block) → IsLaidOut clocks dictionary batch before blocks → 1 + length (clocks_in (before ++ blocks)) ≤ length clocks → greatest_stamp (all_records blocks) < clock.tick → IsLaidOut (clocks ++ clock ∷ []) dictionary batch before blocks
later_laid clocks clock dictionary batch _ _ (ends before) within above = ends before
later_laid clocks clock dictionary batch _ _ (extent before front writer records others stands few rest) within above =
    let block : Block = Extent writer records in
    let place : before ++ (front ++ block ∷ others) ≡ before ++ front ++ block ∷ [] ++ others =
    sym (append_assoc (before ++ front) (block ∷ []) others ∙ append_assoc before front (block ∷ others)) in
    let calls : all_records (front ++ block ∷ others) ≡ all_records front ++ (records ++ all_records others) = flat_map-append block_calls front (block ∷ others) in
    let parts = greatest_append (all_records front) (records ++ all_records others) in
    let behind_parts = greatest_append records (all_records others) in
    let all = ap greatest_stamp calls in
    let size = ap length (flat_map-append block_clocks before (front ++ block ∷ others)) in
    let sizes = length-append (clocks_in before) (clocks_in (front ++ block ∷ others)) in
    extent before front writer records others
    (front_with_clock clocks clock dictionary before records front (omega (arith, within, size, sizes)) (omega (arith, above, all, parts, behind_parts)) stands)
    few
    (later_laid clocks clock dictionary batch (before ++ front ++ block ∷ []) others rest (subst (λ (b : List Block). 1 + length (clocks_in b) ≤ length clocks) place within) (omega (arith, above, all, parts, behind_parts)))
later_laid clocks clock dictionary batch _ _ (close before writer others rest) within above =
    let place : before ++ (Close writer ∷ others) ≡ before ++ Close writer ∷ [] ++ others = sym (append_assoc before (Close writer ∷ []) others) in
    close before writer others (later_laid clocks clock dictionary batch (before ++ Close writer ∷ []) others rest (subst (λ (b : List Block). 1 + length (clocks_in b) ≤ length clocks) place within) above)

-- ---- the records of all writers

-- what holds of the records of each writer holds of all records of right blocks
pub all_of_each : (P : Call → Type 0) (header : Header) (before blocks : List Block) → AreRightAfter header before blocks → ((w : ℕ) → w < header.writers → AllByRecursion P (records_of w blocks)) → AllByRecursion P (all_records blocks)
all_of_each P header before [] right each = tt
all_of_each P header before (Fragment first messages ∷ blocks) right each = all_of_each P header (before ++ Fragment first messages ∷ []) blocks right.1 each
all_of_each P header before (NewClock clock ∷ blocks) right each = all_of_each P header (before ++ NewClock clock ∷ []) blocks right.1 each
all_of_each P header before (Close writer ∷ blocks) right each = all_of_each P header (before ++ Close writer ∷ []) blocks right.1 each
all_of_each P header before (Extent writer records ∷ blocks) right each =
    let own : AllByRecursion P (records ++ records_of writer blocks) =
    subst (λ (b : Bool). AllByRecursion P (cond b records [] ++ records_of writer blocks)) (eq-eqb writer writer refl) (each writer right.0.writer_open.known) in
    let others = all_of_each P header (before ++ Extent writer records ∷ []) blocks right.1 (λ w known. (all_parts P (block_records w (Extent writer records)) (records_of w blocks) (each w known)).1) in
    all_both P records (all_records blocks) (all_parts P records (records_of writer blocks) own).0 others
