-- What is kept of clocks and stamps goes on with the blocks, and clocks that are read from a source.
use Rattle.std.proofs.Common.{◌≡◌, ℕ, ◌<◌, ◌≤◌, Bool, true, false, List, [], ◌∷◌, ◌++◌, length, max, refl, sym, ap, subst, ◌∙◌, arith}
use Rattle.std.specs.Prelude.{Result, Err, nat_lt, if◌then◌else◌}
use Rattle.std.specs.List.{AllByRecursion}
use Rattle.std.proofs.lemmas.Bool.{lt-ltb, ltb-true, false_from_ne_true}
use Rattle.std.proofs.lemmas.List.{append-nil, get_or_push, length_push}
use Rattle.nibble_pack.specs.Parsing.{Parse, ◌>>=◌, low_first}
use Rattle.nl_io.specs.Content.{Told}
use Rattle.log_dictionary.specs.declared.clock.Clock.{Clock}
use Rattle.log_dictionary.specs.declared.clocks.TheConstants.{MAX_CLOCKS}
use Rattle.log_dictionary.specs.Clocks.{last_tick}
use Rattle.log_dictionary.proofs.lemmas.ClockLists.{last_tick-place}
use Rattle.arg_records.specs.declared.call.Call.{Call}
use Rattle.arg_records.specs.Calls.{NeverFalls, last_stamp}
use Rattle.checkpoint_io.specs.declared.cause.Cause.{Cause}
use Rattle.checkpoint_io.specs.declared.cause.Cause.TheVariants as causes
use Rattle.checkpoint_io.specs.declared.fault.BlockFault.{BlockFault}
use Rattle.checkpoint_io.specs.declared.fault.BlockFault.TheVariants.{Damaged}
use Rattle.checkpoint_io.specs.declared.header.Header.{Header}
use Rattle.checkpoint_io.specs.Blocks.{Block, Extent, NewClock, block_clocks, clocks_of, block_calls, all_records}
use Rattle.checkpoint_io.specs.Reading.{are_early, next_tick_at, clock_nanos_at, next_clock_at}
use Rattle.checkpoint_io.specs.Places.{LogPlace, StandsBetween, Refuses, ReadsAs}
use Rattle.checkpoint_io.specs.Times.{TimeState, with_clock, AreTimesOf}
use Rattle.checkpoint_io.proofs.lemmas.ValidityLaws.{all_both, all_parts, clocks-push, all_records-push, early_test, early_from_test}
use Rattle.checkpoint_io.proofs.StepLaws.{of_all, stands_last, refused_then, refused_first, answers_then}

-- ---- what is kept

-- of a header alone
pub times_at_start : (clock : Clock) (header : Header) → clock ≡ header.clock → AreTimesOf (record { clocks = clock ∷ []; greatest = clock.tick }) header []
times_at_start clock header is = record { clocks_are = ap (λ (c : Clock). c ∷ []) is; early = λ tick above. (λ all. above, λ below. tt) }

early_in : (tick : ℕ) (a b : List Call) → a ≡ b → AllByRecursion (λ call. call.stamp < tick) a → AllByRecursion (λ call. call.stamp < tick) b
early_in tick a b is all = subst (AllByRecursion (λ (call : Call). call.stamp < tick)) is all

-- behind a block that has no clock and no records
pub times_kept : (times : TimeState) (header : Header) (before : List Block) (block : Block) → block_clocks block ≡ [] → block_calls block ≡ [] → AreTimesOf times header before → AreTimesOf times header (before ++ block ∷ [])
times_kept times header before block no_clock no_calls are =
    let records : all_records (before ++ block ∷ []) ≡ all_records before = all_records-push before block ∙ ap (λ (l : List Call). all_records before ++ l) no_calls ∙ append-nil (all_records before) in
    record {
      clocks_are = are.clocks_are ∙ sym (clocks-push header before block ∙ ap (λ (l : List Clock). clocks_of header before ++ l) no_clock ∙ append-nil (clocks_of header before));
      early = λ tick above.
          let had = are.early tick above in
          (λ all. had.0 (early_in tick (all_records (before ++ block ∷ [])) (all_records before) records all), λ below. early_in tick (all_records before) (all_records (before ++ block ∷ [])) (sym records) (had.1 below));
    }

-- the last stamp of records stands for all
last_early : (tick least : ℕ) (records : List Call) → least < tick → AllByRecursion (λ call. call.stamp < tick) records → last_stamp least records < tick
last_early tick least [] below all = below
last_early tick least (call ∷ records) below all = last_early tick call.stamp records all.0 all.1

not_above_last : (least : ℕ) (records : List Call) → NeverFalls least records → least ≤ last_stamp least records
not_above_last least [] rising = omega arith
not_above_last least (call ∷ records) rising =
    let here = rising.0 in
    omega (arith, here, not_above_last call.stamp records rising.1)

early_by_last : (tick least : ℕ) (records : List Call) → NeverFalls least records → last_stamp least records < tick → AllByRecursion (λ call. call.stamp < tick) records
early_by_last tick least [] rising below = tt
early_by_last tick least (call ∷ records) rising below =
    (omega (arith, below, not_above_last call.stamp records rising.1), early_by_last tick call.stamp records rising.1 below)

-- behind an extent
pub times_go_on : (old new : TimeState) (header : Header) (before : List Block) (writer least stamp : ℕ) (records : List Call) → new.clocks ≡ old.clocks → new.greatest ≡ max old.greatest stamp → ((before : ℕ) → stamp ≡ last_stamp before records) → NeverFalls least records → AreTimesOf old header before → AreTimesOf new header (before ++ Extent writer records ∷ [])
times_go_on old new header before writer least stamp records same greatest ends rising are =
    let block : Block = Extent writer records in
    let all_are : all_records (before ++ block ∷ []) ≡ all_records before ++ records = all_records-push before block in
    record {
      clocks_are = same ∙ are.clocks_are ∙ sym (clocks-push header before block ∙ append-nil (clocks_of header before));
      early = λ tick above.
          let above_old : last_tick old.clocks < tick = subst (λ (l : List Clock). last_tick l < tick) same above in
          let had = are.early tick above_old in (
            λ all.
                let parts = all_parts (λ (call : Call). call.stamp < tick) (all_records before) records (early_in tick (all_records (before ++ block ∷ [])) (all_records before ++ records) all_are all) in
                omega (arith, greatest, ends 0, had.0 parts.0, last_early tick 0 records (omega (arith, above)) parts.1),
            λ below.
                early_in tick (all_records before ++ records) (all_records (before ++ block ∷ [])) (sym all_are)
                (all_both (λ (call : Call). call.stamp < tick) (all_records before) records (had.1 (omega (arith, greatest, below))) (early_by_last tick least records rising (omega (arith, greatest, ends least, below)))),
          );
    }

last_tick-push : (clocks : List Clock) (clock : Clock) → last_tick (clocks ++ clock ∷ []) ≡ clock.tick
last_tick-push clocks clock =
    last_tick-place (clocks ++ clock ∷ []) (length clocks) clock (length_push clocks clock) ∙ ap (λ (c : Clock). c.tick) (get_or_push clocks clock clock (length clocks) refl)

-- behind a clock
pub times_with_clock : (times : TimeState) (header : Header) (before : List Block) (clock : Clock) → last_tick times.clocks < clock.tick → AreTimesOf times header before → AreTimesOf (with_clock clock times) header (before ++ NewClock clock ∷ [])
times_with_clock times header before clock rising are =
    let block : Block = NewClock clock in
    let records : all_records (before ++ block ∷ []) ≡ all_records before = all_records-push before block ∙ append-nil (all_records before) in
    record {
      clocks_are = ap (λ (l : List Clock). l ++ clock ∷ []) are.clocks_are ∙ sym (clocks-push header before block);
      early = λ tick above.
          let had = are.early tick (omega (arith, rising, above, last_tick-push times.clocks clock)) in
          (λ all. had.0 (early_in tick (all_records (before ++ block ∷ [])) (all_records before) records all), λ below. early_in tick (all_records before) (all_records (before ++ block ∷ [])) (sym records) (had.1 below));
    }

-- ---- the tick

pub tick_stands : (times : TimeState) (header : Header) (before : List Block) (tick : ℕ) (from to : LogPlace) → AreTimesOf times header before → last_tick times.clocks < tick → times.greatest < tick → StandsBetween (low_first 8 causes.Cut) tick from to → StandsBetween (next_tick_at header before) tick from to
tick_stands times header before tick from to are rising early stands =
    let above : last_tick (clocks_of header before) < tick = subst (λ (l : List Clock). last_tick l < tick) are.clocks_are rising in
    stands_last (low_first 8 causes.Cut) _ tick tick from to stands
    (λ rest. rw (lt-ltb (last_tick (clocks_of header before)) tick above, early_test tick (all_records before) ((are.early tick rising).1 early)) refl)

pub tick_cut : (header : Header) (before : List Block) (from : LogPlace) (left : Told) (fault : BlockFault) → Refuses (low_first 8 causes.Cut) from left fault → Refuses (next_tick_at header before) from left fault
tick_cut header before from left fault refused = refused_first (low_first 8 causes.Cut) _ from left fault refused

pub tick_out_of_order : (times : TimeState) (header : Header) (before : List Block) (tick : ℕ) (from mid : LogPlace) (left : Told) → AreTimesOf times header before → tick ≤ last_tick times.clocks → StandsBetween (low_first 8 causes.Cut) tick from mid → Refuses (next_tick_at header before) from left (Damaged causes.ClockOrder)
tick_out_of_order times header before tick from mid left are low stands =
    let not_above : nat_lt (last_tick (clocks_of header before)) tick ≡ false =
    false_from_ne_true (nat_lt (last_tick (clocks_of header before)) tick) (λ e. let above = ltb-true (last_tick (clocks_of header before)) tick e in omega (arith, low, above, ap last_tick are.clocks_are)) in
    refused_then (low_first 8 causes.Cut) _ tick from mid left (Damaged causes.ClockOrder) stands (of_all mid.ahead _ (λ rest. rw not_above refl))

pub tick_late : (times : TimeState) (header : Header) (before : List Block) (tick : ℕ) (from mid : LogPlace) (left : Told) → AreTimesOf times header before → last_tick times.clocks < tick → tick ≤ times.greatest → StandsBetween (low_first 8 causes.Cut) tick from mid → Refuses (next_tick_at header before) from left (Damaged causes.ClockLate)
tick_late times header before tick from mid left are rising late stands =
    let above : last_tick (clocks_of header before) < tick = subst (λ (l : List Clock). last_tick l < tick) are.clocks_are rising in
    let reached : are_early tick (all_records before) ≡ false =
    false_from_ne_true (are_early tick (all_records before)) (λ e. let below = (are.early tick rising).0 (early_from_test tick (all_records before) e) in omega (arith, below, late)) in
    refused_then (low_first 8 causes.Cut) _ tick from mid left (Damaged causes.ClockLate) stands (of_all mid.ahead _ (λ rest. rw (lt-ltb (last_tick (clocks_of header before)) tick above, reached) refl))

-- ---- a clock

-- a clock, if there is room for one more
abbrev if_room : Bool → Header → List Block → List ℕ → Parse Cause Clock
if_room room header before bytes = if room then (next_tick_at header before bytes >>= (λ tick. clock_nanos_at tick.0 tick.1)) else Err causes.ClockCount

room_left : (times : TimeState) (header : Header) (before : List Block) → AreTimesOf times header before → length times.clocks < MAX_CLOCKS → nat_lt (length (clocks_of header before)) MAX_CLOCKS ≡ true
room_left times header before are room = lt-ltb (length (clocks_of header before)) MAX_CLOCKS (omega (arith, room, ap length are.clocks_are))

-- behind the tick
pub clock_answer : (r : Result Clock BlockFault) (times : TimeState) (header : Header) (before : List Block) (tick : ℕ) (from mid to : LogPlace) (left : Told) → AreTimesOf times header before → length times.clocks < MAX_CLOCKS → StandsBetween (next_tick_at header before) tick from mid → ReadsAs (clock_nanos_at tick) mid to left r → ReadsAs (next_clock_at header before) from to left r
clock_answer r times header before tick from mid to left are room stands answers =
    subst (λ (b : Bool). ReadsAs (if_room b header before) from to left r) (sym (room_left times header before are room))
    (answers_then r (next_tick_at header before) (λ tick. clock_nanos_at tick.0 tick.1) (clock_nanos_at tick) tick from mid to left stands (λ rest. refl) answers)

pub clock_cut : (times : TimeState) (header : Header) (before : List Block) (from : LogPlace) (left : Told) (fault : BlockFault) → AreTimesOf times header before → length times.clocks < MAX_CLOCKS → Refuses (next_tick_at header before) from left fault → Refuses (next_clock_at header before) from left fault
clock_cut times header before from left fault are room refused =
    subst (λ (b : Bool). Refuses (if_room b header before) from left fault) (sym (room_left times header before are room))
    (refused_first (next_tick_at header before) (λ tick. clock_nanos_at tick.0 tick.1) from left fault refused)

pub too_many_clocks : (times : TimeState) (header : Header) (before : List Block) (from : LogPlace) (left : Told) → AreTimesOf times header before → MAX_CLOCKS ≤ length times.clocks → Refuses (next_clock_at header before) from left (Damaged causes.ClockCount)
too_many_clocks times header before from left are full =
    let closed : nat_lt (length (clocks_of header before)) MAX_CLOCKS ≡ false =
    false_from_ne_true (nat_lt (length (clocks_of header before)) MAX_CLOCKS) (λ e. let below = ltb-true (length (clocks_of header before)) MAX_CLOCKS e in omega (arith, full, below, ap length are.clocks_are)) in
    of_all from.ahead _ (λ bytes. rw closed refl)
