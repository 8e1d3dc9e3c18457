-- The records of a log of a run have reached no clock of the run that the log doesn't have.
use Rattle.std.proofs.Common.{◌≡◌, ℕ, ◌+◌, ◌<◌, ◌≤◌, Bool, true, false, cond, List, [], ◌∷◌, ◌++◌, length, inl, inr, refl, sym, ap, subst, ◌∙◌, append_assoc, append-nil, arith}
use Rattle.std.specs.Prelude.{nat_le, drop, filter, map}
use Rattle.std.specs.List.{AllByRecursion}
use Rattle.std.proofs.lemmas.Bool.{le-leb, cases_lt}
use Rattle.std.proofs.lemmas.List.{length-append, drop_at}
use Rattle.std.proofs.lemmas.List.Elements.{filter-append}
use Rattle.std.proofs.lemmas.Grind.{flat_map-append}
use Rattle.log_dictionary.specs.declared.clock.Clock.{Clock}
use Rattle.log_dictionary.specs.declared.message.Message.{Message}
use Rattle.arg_records.specs.declared.call.Call.{Call}
use Rattle.checkpoint_io.specs.declared.header.Header.{Header}
use Rattle.checkpoint_io.specs.Blocks.{Block, Fragment, Extent, NewClock, Close, block_clocks, clocks_in, clocks_of, block_calls, all_records}
use Rattle.checkpoint_io.specs.Logs.{AreFragments, greatest_stamp, new_clocks, StandsInFront, IsLaidOut, ends, extent, close}
use Rattle.checkpoint_io.proofs.lemmas.LogLaws.{stamps_within}
use Rattle.checkpoint_io.proofs.lemmas.ValidityLaws.{all_both}
use Rattle.decompressor.proofs.Rising.{all_second, all_so, all_as, passed, all_pass}

-- ---- what stands in front of an extent

fragments_without_clocks : (first : ℕ) (messages : List Message) (blocks : List Block) → AreFragments first messages blocks → (clocks_in blocks ≡ []) × (all_records blocks ≡ [])
fragments_without_clocks first messages [] are = (refl, refl)
fragments_without_clocks first messages (Fragment id front ∷ blocks) (back, next, joined, full, rest) = fragments_without_clocks (first + length front) back blocks rest
fragments_without_clocks first messages (Extent writer records ∷ blocks) are = absurd are
fragments_without_clocks first messages (NewClock clock ∷ blocks) are = absurd are
fragments_without_clocks first messages (Close writer ∷ blocks) are = absurd are

clocks_alone : (clocks : List Clock) → (clocks_in (map NewClock clocks) ≡ clocks) × (all_records (map NewClock clocks) ≡ [])
clocks_alone [] = (refl, refl)
clocks_alone (clock ∷ clocks) = let rest = clocks_alone clocks in (ap (λ (l : List Clock). clock ∷ l) rest.0, rest.1)

-- the clocks in front are those that are due, and there are no records
in_front : (clocks : List Clock) (dictionary : List Message) (before : List Block) (records : List Call) (front : List Block) → StandsInFront clocks dictionary before records front
    → (clocks_in front ≡ new_clocks clocks (1 + length (clocks_in before)) records) × (all_records front ≡ [])
in_front clocks dictionary before records front stands =
    let due = new_clocks clocks (1 + length (clocks_in before)) records in
    let fragments = fragments_without_clocks _ _ stands.fragments stands.are in
    let alone = clocks_alone due in (
      ap clocks_in stands.joined ∙ flat_map-append block_clocks (map NewClock due) stands.fragments ∙ (λ i. alone.0 i ++ fragments.0 i) ∙ append-nil due,
      ap all_records stands.joined ∙ flat_map-append block_calls (map NewClock due) stands.fragments ∙ (λ i. alone.1 i ++ fragments.1 i),
    )

-- ---- what is due, and what isn't

-- a clock whose tick the records haven't reached
abbrev not_due : ℕ → Clock → Bool
not_due stamp clock = nat_le clock.tick stamp

no_longer : (a b : List Clock) → length a ≡ length a + length b → b ≡ []
no_longer a [] e = refl
no_longer a (clock ∷ b) e = absurd (omega (arith, e))

none_left : (test : Clock → Bool) (clocks : List Clock) → filter test clocks ≡ [] → AllByRecursion (λ clock. test clock ≡ false) clocks
none_left test [] none = tt
none_left test (clock ∷ clocks) none = at (test clock) refl none (λ e. none_left test clocks e)
  where
    at : (b : Bool) → test clock ≡ b → cond b (clock ∷ filter test clocks) (filter test clocks) ≡ [] → (filter test clocks ≡ [] → AllByRecursion (λ c. test c ≡ false) clocks) → AllByRecursion (λ c. test c ≡ false) (clock ∷ clocks)
    at true is e rest = absurd cc
    at false is e rest = (is, rest e)

-- where all that pass a test stand first, none that follows passes
later_fail : (test : Clock → Bool) (first rest : List Clock) → first ≡ filter test (first ++ rest) → AllByRecursion (λ clock. test clock ≡ false) rest
later_fail test first rest is =
    let all_first : AllByRecursion (λ (clock : Clock). test clock ≡ true) first = subst (AllByRecursion (λ (clock : Clock). test clock ≡ true)) (sym is) (passed test (first ++ rest)) in
    let parts : first ≡ first ++ filter test rest = is ∙ filter-append test first rest ∙ ap (λ (l : List Clock). l ++ filter test rest) (all_pass test first all_first) in
    none_left test rest (no_longer first (filter test rest) (ap length parts ∙ length-append first (filter test rest)))

-- ---- a log of a run

all_two : (P Q R : Clock → Type 0) (xs : List Clock) → ((x : Clock) → P x → Q x → R x) → AllByRecursion P xs → AllByRecursion Q xs → AllByRecursion R xs
all_two P Q R [] each p q = tt
all_two P Q R (x ∷ xs) each p q = (each x p.0 q.0, all_two P Q R xs each p.1 q.1)

-- no record has reached the tick of the clock
abbrev pub IsUnreached : List Call → Clock → Type 0
IsUnreached records clock = AllByRecursion (λ call. call.stamp < clock.tick) records

below : (stamp tick : ℕ) → nat_le tick stamp ≡ false → stamp < tick
below stamp tick above = elim (cases_lt stamp tick) [
  | inl less ↦ less
  | inr more ↦ let wrong : true ≡ false = sym (le-leb tick stamp more) ∙ above in absurd cc
]

-- the records of an extent haven't reached the clocks that aren't written by then
extent_unreached : (clocks : List Clock) (header : Header) (before : List Block) (records : List Call) (rest : List Clock)
    → clocks ≡ header.clock ∷ (clocks_in before ++ (new_clocks clocks (1 + length (clocks_in before)) records ++ rest)) → AllByRecursion (IsUnreached records) rest
extent_unreached clocks header before records rest are =
    let due = new_clocks clocks (1 + length (clocks_in before)) records in
    let left : drop (1 + length (clocks_in before)) clocks ≡ due ++ rest = ap (drop (1 + length (clocks_in before))) are ∙ drop_at (header.clock ∷ clocks_in before) (due ++ rest) (1 + length (clocks_in before)) (omega arith) in
    let fails = later_fail (not_due (greatest_stamp records)) due rest (ap (filter (not_due (greatest_stamp records))) left) in
    all_as (λ (clock : Clock). not_due (greatest_stamp records) clock ≡ false) (IsUnreached records) rest
    (λ clock above.
    let less = below (greatest_stamp records) clock.tick above in
    all_as (λ (call : Call). call.stamp ≤ greatest_stamp records) (λ (call : Call). call.stamp < clock.tick) records (λ call within. omega (arith, within, less)) (stamps_within records))
    fails

pub not_reached : (header : Header) (clocks : List Clock) (dictionary : List Message) (batch : ℕ) (before blocks : List Block) (unwritten : List Clock) → IsLaidOut clocks dictionary batch before blocks
    → clocks ≡ clocks_of header (before ++ blocks) ++ unwritten → AllByRecursion (IsUnreached (all_records blocks)) unwritten
not_reached header clocks dictionary batch _ _ unwritten (ends before) are = all_so (IsUnreached []) unwritten (λ clock. tt)
not_reached header clocks dictionary batch _ _ unwritten (extent before front writer records others stands few rest) are =
    let block : Block = Extent writer records in
    let parts = in_front clocks dictionary before records front stands in
    let due = new_clocks clocks (1 + length (clocks_in before)) records in
    let place : before ++ (front ++ block ∷ others) ≡ before ++ front ++ block ∷ [] ++ others =
    sym (append_assoc (before ++ front) (block ∷ []) others ∙ append_assoc before front (block ∷ others)) in
    let behind = not_reached header clocks dictionary batch (before ++ front ++ block ∷ []) others unwritten rest (are ∙ ap (λ (b : List Block). clocks_of header b ++ unwritten) place) in
    let all : clocks_in (before ++ (front ++ block ∷ others)) ≡ clocks_in before ++ (due ++ clocks_in others) =
    flat_map-append block_clocks before (front ++ block ∷ others) ∙ ap (λ (l : List Clock). clocks_in before ++ l) (flat_map-append block_clocks front (block ∷ others) ∙ ap (λ (l : List Clock). l ++ clocks_in others) parts.0) in
    let whole : clocks ≡ header.clock ∷ (clocks_in before ++ (due ++ (clocks_in others ++ unwritten))) =
    are ∙ ap (λ (l : List Clock). header.clock ∷ l) (ap (λ (l : List Clock). l ++ unwritten) all ∙ append_assoc (clocks_in before) (due ++ clocks_in others) unwritten ∙ ap (λ (l : List Clock). clocks_in before ++ l) (append_assoc due (clocks_in others) unwritten)) in
    let here = all_second (IsUnreached records) (clocks_in others) unwritten (extent_unreached clocks header before records (clocks_in others ++ unwritten) whole) in
    let calls : all_records (front ++ block ∷ others) ≡ records ++ all_records others =
    flat_map-append block_calls front (block ∷ others) ∙ ap (λ (l : List Call). l ++ (records ++ all_records others)) parts.1 in
    all_two (IsUnreached records) (IsUnreached (all_records others)) (IsUnreached (all_records (front ++ block ∷ others))) unwritten
    (λ clock own others_are. subst (λ (l : List Call). IsUnreached l clock) (sym calls) (all_both (λ (call : Call). call.stamp < clock.tick) records (all_records others) own others_are))
    here behind
not_reached header clocks dictionary batch _ _ unwritten (close before writer others rest) are =
    let place : before ++ (Close writer ∷ others) ≡ before ++ Close writer ∷ [] ++ others = sym (append_assoc before (Close writer ∷ []) others) in
    not_reached header clocks dictionary batch (before ++ Close writer ∷ []) others unwritten rest (are ∙ ap (λ (b : List Block). clocks_of header b ++ unwritten) place)
