-- What the layout of a log says of each of its blocks, and what a log says of its run.
use Rattle.std.proofs.Common.{◌≡◌, ℕ, ◌+◌, ◌<◌, ◌≤◌, List, [], ◌∷◌, ◌++◌, length, map, take, drop, filter, nat_le, refl, sym, ap, subst, ◌∙◌, append_assoc, inl, inr, arith}
use Rattle.std.specs.List.{AllByRecursion}
use Rattle.std.proofs.lemmas.List.{append-nil, length-append, take_at, drop_at, drop_all, length-take}
use Rattle.log_dictionary.specs.declared.clock.Clock.{Clock}
use Rattle.log_dictionary.specs.declared.message.Message.{Message}
use Rattle.arg_records.specs.declared.call.Call.{Call}
use Rattle.checkpoint_io.specs.declared.header.Header.{Header}
use Rattle.checkpoint_io.specs.Blocks.{Block, Fragment, Extent, NewClock, Close, IsPreface, messages_of, clocks_in}
use Rattle.checkpoint_io.specs.Fronts.{Front}
use Rattle.checkpoint_io.specs.Logs.{ids_used, AreFragments, new_messages, HasAtMost, greatest_stamp, new_clocks, StandsInFront, IsLaidOut, ends, extent, close, LogOf}
use Rattle.checkpoint_io.proofs.lemmas.FrontLaws.{one_front, whole_is_front}

-- ---- fragments

-- fragments define the messages that they are of
pub messages_of-AreFragments : (first : ℕ) (messages : List Message) (blocks : List Block) → AreFragments first messages blocks → messages_of blocks ≡ messages
messages_of-AreFragments first messages [] are = sym are
messages_of-AreFragments first messages (Fragment id front ∷ blocks) (back, next, joined, full, rest) =
    ap (λ (l : List Message). front ++ l) (messages_of-AreFragments (first + length front) back blocks rest) ∙ sym joined
messages_of-AreFragments first messages (Extent writer records ∷ blocks) are = absurd are
messages_of-AreFragments first messages (NewClock clock ∷ blocks) are = absurd are
messages_of-AreFragments first messages (Close writer ∷ blocks) are = absurd are

pub fragments_alone : (first : ℕ) (messages : List Message) (blocks : List Block) → AreFragments first messages blocks → AllByRecursion IsPreface blocks
fragments_alone first messages [] are = tt
fragments_alone first messages (Fragment id front ∷ blocks) (back, next, joined, full, rest) = (tt, fragments_alone (first + length front) back blocks rest)
fragments_alone first messages (Extent writer records ∷ blocks) are = absurd are
fragments_alone first messages (NewClock clock ∷ blocks) are = absurd are
fragments_alone first messages (Close writer ∷ blocks) are = absurd are

-- their ids go on
pub fragment_ids : (first id : ℕ) (messages front : List Message) (before others : List Block) → AreFragments first messages (before ++ Fragment id front ∷ others) → id ≡ first + length (messages_of before)
fragment_ids first id messages front [] others (back, next, joined, full, rest) = omega (arith, next)
fragment_ids first id messages front (Fragment id2 front2 ∷ before) others (back, next, joined, full, rest) =
    omega (arith, fragment_ids (first + length front2) id back front before others rest, length-append front2 (messages_of before))
fragment_ids first id messages front (Extent writer records ∷ before) others are = absurd are
fragment_ids first id messages front (NewClock clock ∷ before) others are = absurd are
fragment_ids first id messages front (Close writer ∷ before) others are = absurd are

-- one with messages behind it has 16
pub fragment_full : (first id next : ℕ) (messages front : List Message) (message : Message) (more : List Message) (before others : List Block) → AreFragments first messages (before ++ Fragment id front ∷ Fragment next (message ∷ more) ∷ others) → length front ≡ 16
fragment_full first id next messages front message more [] others (back, is_next, joined, inl none, rest) = absurd (omega (arith, ap length (sym none ∙ rest.2), length-append (message ∷ more) rest.0))
fragment_full first id next messages front message more [] others (back, is_next, joined, inr full, rest) = full
fragment_full first id next messages front message more (Fragment id2 front2 ∷ before) others (back, is_next, joined, full, rest) =
    fragment_full (first + length front2) id next back front message more before others rest
fragment_full first id next messages front message more (Extent writer records ∷ before) others are = absurd are
fragment_full first id next messages front message more (NewClock clock ∷ before) others are = absurd are
fragment_full first id next messages front message more (Close writer ∷ before) others are = absurd are

pub last_fragment : (first : ℕ) (messages : List Message) → AreFragments first messages (Fragment first messages ∷ [])
last_fragment first messages = ([], refl, sym (append-nil messages), inl refl, refl)

pub full_fragment : (first : ℕ) (front back : List Message) (blocks : List Block) → length front ≡ 16 → AreFragments (first + 16) back blocks → AreFragments first (front ++ back) (Fragment first front ∷ blocks)
full_fragment first front back blocks full rest = (back, refl, refl, inr full, subst (λ (n : ℕ). AreFragments (first + n) back blocks) (sym full) rest)

-- ---- ids

all_more : (P Q : Call → Type 0) (records : List Call) → ((call : Call) → P call → Q call) → AllByRecursion P records → AllByRecursion Q records
all_more P Q [] more all = tt
all_more P Q (call ∷ records) more all = (more call all.0, all_more P Q records more all.1)

pub ids_below : (records : List Call) → AllByRecursion (λ call. call.id < ids_used records) records
ids_below [] = tt
ids_below (call ∷ records) = (omega arith, all_more (λ e. e.id < ids_used records) (λ e. e.id < ids_used (call ∷ records)) records (λ e below. omega (arith, below)) (ids_below records))

pub ids_least : (records : List Call) (count : ℕ) → AllByRecursion (λ call. call.id < count) records → ids_used records ≤ count
ids_least [] count all = omega arith
ids_least (call ∷ records) count all = let here = all.0 in omega (arith, here, ids_least records count all.1)

-- the messages that are wanted and not defined
pub new_between : (defined wanted others : List Message) (records : List Call) → ids_used records ≡ length (defined ++ wanted) → new_messages (defined ++ wanted ++ others) (length defined) records ≡ wanted
new_between defined wanted others records used =
    ap (drop (length defined)) (take_at (defined ++ wanted) others (ids_used records) (sym used)) ∙ drop_at defined wanted (length defined) refl

pub nothing_new : (dictionary : List Message) (defined : ℕ) (records : List Call) → ids_used records ≤ defined → new_messages dictionary defined records ≡ []
nothing_new dictionary defined records known = drop_all defined (take (ids_used records) dictionary) (omega (arith, known, length-take (ids_used records) dictionary))

-- ---- stamps and clocks

pub stamps_within : (records : List Call) → AllByRecursion (λ call. call.stamp ≤ greatest_stamp records) records
stamps_within [] = tt
stamps_within (call ∷ records) =
    (omega arith, all_more (λ e. e.stamp ≤ greatest_stamp records) (λ e. e.stamp ≤ greatest_stamp (call ∷ records)) records (λ e within. omega (arith, within)) (stamps_within records))

pub stamp_least : (records : List Call) (stamp : ℕ) → AllByRecursion (λ call. call.stamp ≤ stamp) records → greatest_stamp records ≤ stamp
stamp_least [] stamp all = omega arith
stamp_least (call ∷ records) stamp all = let here = all.0 in omega (arith, here, stamp_least records stamp all.1)

-- where all clocks are written none is new
pub no_clocks : (clocks : List Clock) (written : ℕ) (records : List Call) → length clocks ≤ written → new_clocks clocks written records ≡ []
no_clocks clocks written records all = ap (filter (λ clock. nat_le clock.tick (greatest_stamp records))) (drop_all written clocks all)

-- ---- extents with what stands in front of them

-- fragments alone, where all clocks are written
pub fragments_stand : (clocks : List Clock) (dictionary : List Message) (before : List Block) (records : List Call) (fragments : List Block) → length clocks ≤ 1 + length (clocks_in before) → AreFragments (length (messages_of before)) (new_messages dictionary (length (messages_of before)) records) fragments → StandsInFront clocks dictionary before records fragments
fragments_stand clocks dictionary before records fragments written are = record {
  fragments = fragments;
  are = are;
  joined = ap (λ (l : List Clock). map NewClock l ++ fragments) (sym (no_clocks clocks (1 + length (clocks_in before)) records written));
}

clocks_alone : (clocks : List Clock) (blocks : List Block) → AllByRecursion IsPreface blocks → AllByRecursion IsPreface (map NewClock clocks ++ blocks)
clocks_alone [] blocks all = all
clocks_alone (clock ∷ clocks) blocks all = (tt, clocks_alone clocks blocks all)

pub front_alone : (clocks : List Clock) (dictionary : List Message) (before : List Block) (records : List Call) (front : List Block) → StandsInFront clocks dictionary before records front → AllByRecursion IsPreface front
front_alone clocks dictionary before records front stands =
    let fragments = fragments_alone (length (messages_of before)) (new_messages dictionary (length (messages_of before)) records) stands.fragments stands.are in
    subst (AllByRecursion IsPreface) (sym stands.joined) (clocks_alone (new_clocks clocks (1 + length (clocks_in before)) records) stands.fragments fragments)

front_has : (batch : ℕ) (front others : List Block) → AllByRecursion IsPreface front → AllByRecursion (HasAtMost batch) others → AllByRecursion (HasAtMost batch) (front ++ others)
front_has batch [] others alone all = all
front_has batch (Fragment first messages ∷ front) others alone all = (tt, front_has batch front others alone.1 all)
front_has batch (NewClock clock ∷ front) others alone all = (tt, front_has batch front others alone.1 all)
front_has batch (Extent writer records ∷ front) others alone all = absurd alone.0
front_has batch (Close writer ∷ front) others alone all = absurd alone.0

-- no extent has more records than a batch
pub extents_within : (clocks : List Clock) (dictionary : List Message) (batch : ℕ) (before blocks : List Block) → IsLaidOut clocks dictionary batch before blocks → AllByRecursion (HasAtMost batch) blocks
extents_within clocks dictionary batch _ _ (ends before) = tt
extents_within clocks dictionary batch _ _ (extent before front writer records others stands few rest) =
    front_has batch front (Extent writer records ∷ others) (front_alone clocks dictionary before records front stands)
    (few, extents_within clocks dictionary batch (before ++ front ++ Extent writer records ∷ []) others rest)
extents_within clocks dictionary batch _ _ (close before writer others rest) = (tt, extents_within clocks dictionary batch (before ++ Close writer ∷ []) others rest)

-- what stands in front of an extent ends where the extent stands
same_place : (front others : List Block) (writer writer2 : ℕ) (records records2 : List Call) (behind behind2 : List Block) → AllByRecursion IsPreface front → AllByRecursion IsPreface others
    → front ++ Extent writer records ∷ behind ≡ others ++ Extent writer2 records2 ∷ behind2
    → (front ≡ others) × (Extent writer records ∷ behind ≡ Extent writer2 records2 ∷ behind2)
same_place [] [] writer writer2 records records2 behind behind2 p q e = (refl, e)
same_place [] (block ∷ others) writer writer2 records records2 behind behind2 p q e =
    let heads : Extent writer records ≡ block = cc in
    absurd (subst IsPreface (sym heads) q.0)
same_place (block ∷ front) [] writer writer2 records records2 behind behind2 p q e =
    let heads : block ≡ Extent writer2 records2 = cc in
    absurd (subst IsPreface heads p.0)
same_place (block ∷ front) (other ∷ others) writer writer2 records records2 behind behind2 p q e =
    let heads : block ≡ other = cc in
    let tails : front ++ Extent writer records ∷ behind ≡ others ++ Extent writer2 records2 ∷ behind2 = cc in
    let same = same_place front others writer writer2 records records2 behind behind2 p.1 q.1 tails in
    ((λ i. heads i ∷ same.0 i), same.1)

no_close : (front : List Block) (writer writer2 : ℕ) (records : List Call) (behind behind2 : List Block) → AllByRecursion IsPreface front → Close writer ∷ behind ≡ front ++ Extent writer2 records ∷ behind2 → ⊥
no_close [] writer writer2 records behind behind2 all e = cc
no_close (block ∷ front) writer writer2 records behind behind2 all e =
    let heads : Close writer ≡ block = cc in
    subst IsPreface (sym heads) all.0

-- an extent, with what stands in front of it, and what is laid out behind it
abbrev AtExtent : List Clock → List Message → ℕ → List Block → List Block → ℕ → List Call → List Block → Type 0
AtExtent clocks dictionary batch before front writer records others =
    StandsInFront clocks dictionary before records front × IsLaidOut clocks dictionary batch (before ++ front ++ Extent writer records ∷ []) others

at_extent : (clocks : List Clock) (dictionary : List Message) (batch : ℕ) (before blocks front : List Block) (writer : ℕ) (records : List Call) (others : List Block) → IsLaidOut clocks dictionary batch before blocks → blocks ≡ front ++ Extent writer records ∷ others → AllByRecursion IsPreface front → AtExtent clocks dictionary batch before front writer records others
at_extent clocks dictionary batch _ _ front writer records others (ends before) e all = absurd (omega (arith, ap length e, length-append front (Extent writer records ∷ others)))
at_extent clocks dictionary batch _ _ front writer records others (extent before front2 writer2 records2 others2 stands few rest) e all =
    let alone = front_alone clocks dictionary before records2 front2 stands in
    let same = same_place front2 front writer2 writer records2 records others2 others alone all e in
    let here = same.1 in
    let writers : writer2 ≡ writer = cc in
    let same_records : records2 ≡ records = cc in
    let behind : others2 ≡ others = cc in
    subst (λ (f : List Block). AtExtent clocks dictionary batch before f writer records others) same.0
    (subst (AtExtent clocks dictionary batch before front2 writer records) behind
    (subst (λ (l : List Call). AtExtent clocks dictionary batch before front2 writer l others2) same_records
    (subst (λ (n : ℕ). AtExtent clocks dictionary batch before front2 n records2 others2) writers (stands, rest))))
at_extent clocks dictionary batch _ _ front writer records others (close before writer2 others2 rest) e all = absurd (no_close front writer2 writer records others2 others all e)

pub wanted_front : (clocks : List Clock) (dictionary : List Message) (batch : ℕ) (before front : List Block) (writer : ℕ) (records : List Call) (others : List Block) → IsLaidOut clocks dictionary batch before (front ++ Extent writer records ∷ others) → AllByRecursion IsPreface front → StandsInFront clocks dictionary before records front
wanted_front clocks dictionary batch before front writer records others laid all = (at_extent clocks dictionary batch before (front ++ Extent writer records ∷ others) front writer records others laid refl all).0

pub laid_out_behind : (clocks : List Clock) (dictionary : List Message) (batch : ℕ) (before front : List Block) (writer : ℕ) (records : List Call) (others : List Block) → IsLaidOut clocks dictionary batch before (front ++ Extent writer records ∷ others) → AllByRecursion IsPreface front → IsLaidOut clocks dictionary batch (before ++ front ++ Extent writer records ∷ []) others
laid_out_behind clocks dictionary batch before front writer records others laid all = (at_extent clocks dictionary batch before (front ++ Extent writer records ∷ others) front writer records others laid refl all).1

extent_among : (front : List Block) (writer : ℕ) (records : List Call) (others : List Block) → ¬ (AllByRecursion IsPreface (front ++ Extent writer records ∷ others))
extent_among [] writer records others all = all.0
extent_among (block ∷ front) writer records others all = extent_among front writer records others all.1

-- clocks and fragments stand in front of an extent
pub no_front : (clocks : List Clock) (dictionary : List Message) (batch : ℕ) (before front : List Block) → IsLaidOut clocks dictionary batch before front → AllByRecursion IsPreface front → front ≡ []
no_front clocks dictionary batch _ _ (ends before) all = refl
no_front clocks dictionary batch _ _ (extent before front writer records others stands few rest) all = absurd (extent_among front writer records others all)
no_front clocks dictionary batch _ _ (close before writer others rest) all = absurd all.0

-- ---- runs, one behind the other

-- what is laid out goes on with what is laid out behind it
pub laid_out_join : (clocks : List Clock) (dictionary : List Message) (batch : ℕ) (before blocks more : List Block) → IsLaidOut clocks dictionary batch before blocks → IsLaidOut clocks dictionary batch (before ++ blocks) more → IsLaidOut clocks dictionary batch before (blocks ++ more)
laid_out_join clocks dictionary batch _ _ more (ends before) q = subst (λ (b : List Block). IsLaidOut clocks dictionary batch b more) (append-nil before) q
laid_out_join clocks dictionary batch _ _ more (extent before front writer records others stands few rest) q =
    let place : before ++ (front ++ Extent writer records ∷ others) ≡ before ++ front ++ Extent writer records ∷ [] ++ others =
    sym (append_assoc (before ++ front) (Extent writer records ∷ []) others ∙ append_assoc before front (Extent writer records ∷ others)) in
    let joined = laid_out_join clocks dictionary batch (before ++ front ++ Extent writer records ∷ []) others more rest (subst (λ (b : List Block). IsLaidOut clocks dictionary batch b more) place q) in
    subst (IsLaidOut clocks dictionary batch before) (sym (append_assoc front (Extent writer records ∷ others) more)) (extent before front writer records (others ++ more) stands few joined)
laid_out_join clocks dictionary batch _ _ more (close before writer others rest) q =
    let place : before ++ (Close writer ∷ others) ≡ before ++ Close writer ∷ [] ++ others = sym (append_assoc before (Close writer ∷ []) others) in
    close before writer (others ++ more) (laid_out_join clocks dictionary batch (before ++ Close writer ∷ []) others more rest (subst (λ (b : List Block). IsLaidOut clocks dictionary batch b more) place q))

-- ---- the run

-- the front of a log of a run is the log
pub front_of_run : (bytes : List ℕ) (taken : List (List Call)) (dictionary : List Message) (version : ℕ) (clocks : List Clock) (batch : ℕ) (header : Header) (blocks : List Block) (count : ℕ) → (log : LogOf bytes taken dictionary version clocks batch) → Front bytes header blocks count → (header ≡ log.header) × (blocks ≡ log.blocks) × (count ≡ length bytes)
front_of_run bytes taken dictionary version clocks batch header blocks count log front = one_front bytes header log.header blocks log.blocks count (length bytes) front (whole_is_front log.header log.blocks bytes log.file log.valid)
