-- Each step of a seat is a step of the machine, and where no step is made, the ring stays.
use Rattle.std.proofs.Common.{◌≡◌, ◌≢◌, ℕ, zero, suc, ◌+◌, ◌*◌, ◌%◌, ◌/◌, ◌<◌, ◌≤◌, Bool, true, false, true≢false, List, [], ◌∷◌, ◌++◌, length, get_or, set, replicate, sym, refl, ap, ◌∙◌, subst, ⊎_elim, arith}
use Rattle.std.specs.Prelude.{if◌then◌else◌, ◌==◌, None}
use mathlib.Core.Option.{some, some-ne-none}
use lib.ListN.{get_elem?}
use Rattle.std.proofs.lemmas.Bool.{cond-true, cond-false}
use Rattle.std.proofs.lemmas.List.{set-get_or, length-replicate, get_or-replicate}
use Rattle.std.proofs.Math.Nat.{mod-lt}
use Rattle.atomic_table.specs.Table.{opening}
use Rattle.atomic_table.proofs.Lists.{at_set, at_snoc, set_again}
use Rattle.nl_io.specs.Count.{counted}
use Rattle.ring_core.specs.Plans.{Plan, Lawful}
use Rattle.ring_core.proofs.lemmas.Frames.{AreFramesOf-nil}
use Rattle.ring_machine.specs.declared.records.WriterRecord.{WriterRecord}
use Rattle.ring_machine.specs.declared.records.RoamerRecord.{RoamerRecord}
use Rattle.ring_machine.specs.declared.steps.StepKind.{StepKind}
use Rattle.ring_machine.specs.declared.steps.StepKind.TheVariants as steps
use Rattle.ring_machine.specs.Streams.{walk}
use Rattle.ring_machine.specs.RingStates.{RingState, new_ring, new_writer, new_roamer, written, taken, RingOk, RingLawful}
use Rattle.ring_machine.specs.Steps.{writer_bar, roamer_bar, is_writers, barred, stored, after_step, next_word}
use Rattle.ring_machine.proofs.lemmas.Bars.{publish_open, close_open}
use Rattle.ring_machine.proofs.lemmas.StepLaws.{RingOk-new}
use Rattle.ring_machine.proofs.lemmas.Schedules.{RingOk-after, lawful_read}
use Rattle.word_ring.specs.declared.known.Known.{Known}
use Rattle.word_ring.specs.declared.places.TheConstants.{PRODUCER, CONSUMER, DATA}
use Rattle.word_ring.specs.Rule.{plan_in, no_plan, newcomer, writer_of, roamer_of, both_of, spent, LaysOut, IsEnd, SeatKnows, RingTable, IsRingTable}
use Rattle.word_ring.specs.Plays.{written_by, read_by, writer_barred, roamer_barred, put_step, having_looked, having_put, having_published, having_closed, having_loaded, having_read, having_released}
use Rattle.word_ring.specs.Events.{StepsRing, MakesStep, StaysRing}
use Rattle.word_ring.proofs.Laying.{produced, consumed, data_stored}
use Rattle.word_ring.proofs.Puts.{put_stores, put_writes}

-- what an end is told: the number of data words, its record and the plan
abbrev pub WriterTold : Type 0
WriterTold = ℕ × WriterRecord × Plan

abbrev pub RoamerTold : Type 0
RoamerTold = ℕ × RoamerRecord × Plan

-- ---- seats

-- what holds of each seat
abbrev Each : (ℕ → Known → Type 0) → List Known → Type 0
Each F views = (seat : ℕ) (v : Known) → get_elem? views seat ≡ some v → F seat v

Each-set : (F : ℕ → Known → Type 0) (views : List Known) (seat : ℕ) (w : Known) → F seat w
    → ((j : ℕ) (u : Known) → j ≢ seat → get_elem? views j ≡ some u → F j u) → Each F (set views seat w)
Each-set F views seat w mine others j u e =
    ⊎_elim (λ (x : (j ≡ seat) × (w ≡ u)). subst (λ (y : ℕ × Known). F y.0 y.1) (λ i. (sym x.0 i, x.1 i)) mine)
    (λ (x : (j ≢ seat) × (get_elem? views j ≡ some u)). others j u x.0 x.1) (at_set views seat j w u e)

-- the last seat is the new one
at_end : (l : List Known) (a b : Known) (j : ℕ) → get_elem? l j ≢ some b → get_elem? (l ++ a ∷ []) j ≡ some b → j ≡ length l
at_end [] a b zero n e = refl
at_end [] a b (suc j) n e = absurd (some-ne-none b (sym e))
at_end (x ∷ xs) a b zero n e = absurd (n e)
at_end (x ∷ xs) a b (suc j) n e = ap suc (at_end xs a b j n e)

no_true : {P : Type 0} → false ≡ true → P
no_true e = absurd (true≢false (sym e))

module _ (size : ℕ) (table : RingTable) (h : IsRingTable size table) (id : ℕ) (v : Known) (at : get_elem? table.views id ≡ some v) where
  -- what the writer's seat knows of the ring
  pub writer_told : v.writes ≡ true → ◌≡◌ {A = WriterTold} (v.size, v.writer, plan_in v) (h.ring.size, h.ring.writer, h.plan)
  writer_told may =
      let mine = (h.each id v at).writes may in
      λ i. ((mine.0.2 ∙ sym h.laid.size_is) i, mine.1 i, mine.0.1 i)

  -- what the roamer's seat knows of the ring
  pub roamer_told : v.reads ≡ true → ◌≡◌ {A = RoamerTold} (v.size, v.roamer, plan_in v) (h.ring.size, h.ring.roamer, h.plan)
  roamer_told may =
      let mine = (h.each id v at).reads may in
      λ i. ((mine.0.2 ∙ sym h.laid.size_is) i, mine.1 i, mine.0.1 i)

  -- what isn't barred by what the seat knows isn't barred in the ring
  writer_open : v.writes ≡ true → (kind : StepKind) → is_writers kind ≡ true → writer_barred v kind ≡ None → barred h.ring kind ≡ None
  writer_open may kind writers free =
      cond-true (is_writers kind) (writer_bar h.ring.size h.ring.writer kind) (roamer_bar h.ring.size h.ring.roamer kind) writers
      ∙ sym (ap (λ (x : WriterTold). writer_bar x.0 x.1 kind) (writer_told may)) ∙ free

  roamer_open : v.reads ≡ true → (kind : StepKind) → is_writers kind ≡ false → roamer_barred v kind ≡ None → barred h.ring kind ≡ None
  roamer_open may kind roamers free =
      cond-false (is_writers kind) (writer_bar h.ring.size h.ring.writer kind) (roamer_bar h.ring.size h.ring.roamer kind) roamers
      ∙ sym (ap (λ (x : RoamerTold). roamer_bar x.0 x.1 kind) (roamer_told may)) ∙ free

  -- the writer made a step, which left the roamer's record
  writer_moves : (kind : StepKind) (words : List ℕ) (next : RingState) (record_now : WriterRecord) → v.writes ≡ true → barred h.ring kind ≡ None → next ≡ after_step h.ring kind
      → record_now ≡ next.writer → next.roamer ≡ h.ring.roamer → LaysOut size words next → RingLawful h.plan next
      → StepsRing size table h kind (record { words = words; homes = table.homes; views = set table.views id (record v { writer = record_now }) })
  writer_moves kind words next record_now may free next_is is same laid lawful =
      let mine = (h.each id v at).writes may in
      let now : Known = record v { writer = record_now } in
      record {
        after = record {
          plan = h.plan;
          ring = next;
          writer = h.writer;
          roamer = h.roamer;
          laid = laid;
          ok = subst RingOk (sym next_is) (RingOk-after h.ring kind h.ok free);
          lawful = lawful;
          each = Each-set (SeatKnows size h.plan next h.writer h.roamer) table.views id now
              (record { writes = λ _. (mine.0, is); reads = λ p. let theirs = (h.each id v at).reads p in (theirs.0, theirs.1 ∙ sym same) })
              (λ j u other e. record {
                writes = λ p. absurd (other (((h.each j u e).writes p).0.0 ∙ sym mine.0.0));
                reads = λ p. let theirs = (h.each j u e).reads p in (theirs.0, theirs.1 ∙ sym same);
              });
        };
        event = record { not_barred = free; next_is = next_is };
        plan = refl;
        ends = (refl, refl);
      }

  -- the roamer made a step, which left the writer's record
  roamer_moves : (kind : StepKind) (words : List ℕ) (next : RingState) (record_now : RoamerRecord) → v.reads ≡ true → barred h.ring kind ≡ None → next ≡ after_step h.ring kind
      → record_now ≡ next.roamer → next.writer ≡ h.ring.writer → LaysOut size words next → RingLawful h.plan next
      → StepsRing size table h kind (record { words = words; homes = table.homes; views = set table.views id (record v { roamer = record_now }) })
  roamer_moves kind words next record_now may free next_is is same laid lawful =
      let mine = (h.each id v at).reads may in
      let now : Known = record v { roamer = record_now } in
      record {
        after = record {
          plan = h.plan;
          ring = next;
          writer = h.writer;
          roamer = h.roamer;
          laid = laid;
          ok = subst RingOk (sym next_is) (RingOk-after h.ring kind h.ok free);
          lawful = lawful;
          each = Each-set (SeatKnows size h.plan next h.writer h.roamer) table.views id now
              (record { writes = λ p. let theirs = (h.each id v at).writes p in (theirs.0, theirs.1 ∙ sym same); reads = λ _. (mine.0, is) })
              (λ j u other e. record {
                writes = λ p. let theirs = (h.each j u e).writes p in (theirs.0, theirs.1 ∙ sym same);
                reads = λ p. absurd (other (((h.each j u e).reads p).0.0 ∙ sym mine.0.0));
              });
        };
        event = record { not_barred = free; next_is = next_is };
        plan = refl;
        ends = (refl, refl);
      }

-- ---- the writer's steps

pub looks : (size id : ℕ) (v : Known) → v.writes ≡ true → writer_barred v steps.Look ≡ None → MakesStep size id v CONSUMER (λ n. n) (having_looked v) steps.Look
looks size id v may free table h at =
    let ring = h.ring in
    let mine = (h.each id v at).writes may in
    let found : ℕ = get_or table.words CONSUMER 0 in
    let is = h.laid.consumer in
    let words : set table.words CONSUMER found ≡ table.words = set-get_or table.words CONSUMER 0 in
    subst (λ (ws : List ℕ). StepsRing size table h steps.Look (record { words = ws; homes = table.homes; views = set table.views id (having_looked v found) })) (sym words)
    (writer_moves size table h id v at steps.Look table.words (after_step ring steps.Look) (having_looked v found).writer may
    (writer_open size table h id v at may steps.Look refl free)
    refl
    (λ i. record (mine.1 i) { seen = is i; looks = counted (mine.1 i).looks; steps = counted (mine.1 i).steps })
    refl
    (record { size_is = h.laid.size_is; long = h.laid.long; producer = h.laid.producer; consumer = h.laid.consumer; stored = h.laid.stored })
    (record { stored = h.lawful.stored; read = h.lawful.read }))

pub puts : (size id word : ℕ) (v : Known) → v.writes ≡ true → writer_barred v (put_step v word) ≡ None → Lawful (plan_in v) (written_by (having_put v word)).frames
    → MakesStep size id v (DATA + (written_by v).at % v.size) (λ _. word) (λ _. having_put v word) (put_step v word)
puts size id word v may free lawful table h at =
    let ring = h.ring in
    let told = writer_told size table h id v at may in
    let mine = (h.each id v at).writes may in
    let long : v.size ≡ size = mine.0.2 in
    let next : RingState = stored ring word in
    let place : ℕ = (written_by v).at % v.size in
    let place_is : place ≡ (written ring).at % ring.size = ap (λ (x : WriterTold). (walk x.0 x.1.stream).at % x.0) told in
    let some : 1 ≤ v.size = omega (arith, h.ok.size, long, h.laid.size_is) in
    let in_ring : place < size = omega (arith, long, mod-lt (written_by v).at {m = v.size} (omega (arith, some))) in
    let now = subst (λ (x : WriterTold). Lawful x.2 (walk x.0 (x.1.stream ++ word ∷ [])).frames) told lawful in
    writer_moves size table h id v at (put_step v word) (set table.words (DATA + place) word) next (having_put v word).writer may
    (writer_open size table h id v at may (put_step v word) (put_writes (written_by v).part word) free)
    (put_stores ring (written_by v).part word)
    (λ i. record (mine.1 i) { stream = (mine.1 i).stream ++ word ∷ []; steps = counted (mine.1 i).steps })
    refl
    (data_stored size table.words ring next place word h.laid in_ring h.ok.words refl refl refl (ap (λ (k : ℕ). set ring.words k word) (sym place_is)))
    (record { stored = now; read = h.lawful.read })

pub publishes : (size id : ℕ) (v : Known) → v.writes ≡ true → writer_barred v steps.Publish ≡ None
    → MakesStep size id v PRODUCER (λ _. 2 * (written_by v).at) (λ _. having_published v) steps.Publish
publishes size id v may free table h at =
    let ring = h.ring in
    let told = writer_told size table h id v at may in
    let mine = (h.each id v at).writes may in
    let next : RingState = after_step ring steps.Publish in
    let word : ℕ = 2 * (written_by v).at in
    let unclosed : ring.writer.closed ≡ false = sym (ap (λ (x : WriterTold). x.1.closed) told) ∙ (publish_open v.size v.writer free).0 in
    let position : (written_by v).at ≡ (written ring).at = ap (λ (x : WriterTold). (walk x.0 x.1.stream).at) told in
    let bit : ◌≡◌ {A = ℕ} (if ring.closed then 1 else 0) 0 = ap {B = ℕ} (λ (b : Bool). if b then 1 else 0) (sym h.ok.producer_bit ∙ unclosed) in
    writer_moves size table h id v at steps.Publish (set table.words PRODUCER word) next (having_published v).writer may
    (writer_open size table h id v at may steps.Publish refl free)
    refl
    (λ i. record (mine.1 i) { published = position i; steps = counted (mine.1 i).steps })
    refl
    (produced size table.words ring next word h.laid refl refl refl (omega (arith, position, bit)))
    (record { stored = h.lawful.stored; read = h.lawful.read })

pub closes : (size id : ℕ) (v : Known) → v.writes ≡ true → writer_barred v steps.Close ≡ None
    → MakesStep size id v PRODUCER (λ _. 2 * (written_by v).at + 1) (λ _. having_closed v) steps.Close
closes size id v may free table h at =
    let ring = h.ring in
    let told = writer_told size table h id v at may in
    let mine = (h.each id v at).writes may in
    let next : RingState = after_step ring steps.Close in
    let word : ℕ = 2 * (written_by v).at + 1 in
    let position : (written_by v).at ≡ (written ring).at = ap (λ (x : WriterTold). (walk x.0 x.1.stream).at) told in
    let published : ring.writer.published ≡ (written ring).at = sym (ap (λ (x : WriterTold). x.1.published) told) ∙ (close_open v.size v.writer free).1 ∙ position in
    writer_moves size table h id v at steps.Close (set table.words PRODUCER word) next (having_closed v).writer may
    (writer_open size table h id v at may steps.Close refl free)
    refl
    (λ i. record (mine.1 i) { closed = true; steps = counted (mine.1 i).steps })
    refl
    (produced size table.words ring next word h.laid refl refl refl (omega (arith, position, published, h.ok.producer)))
    (record { stored = h.lawful.stored; read = h.lawful.read })

-- ---- the roamer's steps

-- the parts of a producer word
half : (published : ℕ) (closed : Bool) → (2 * published + (if closed then 1 else 0)) / 2 ≡ published
half published true = omega arith
half published false = omega arith

odd : (n : ℕ) → (2 * n + 1) % 2 ≡ 1
odd n = omega arith

even : (n : ℕ) → (2 * n + 0) % 2 ≡ 0
even n = omega arith

parity : (published : ℕ) (closed : Bool) → ((2 * published + (if closed then 1 else 0)) % 2 == 1) ≡ closed
parity published true = ap (λ (n : ℕ). n == 1) (odd published)
parity published false = ap (λ (n : ℕ). n == 1) (even published)

-- the published position, and the closed bit, as the producer word tells them
pub found_published : (size : ℕ) (words : List ℕ) (ring : RingState) → LaysOut size words ring → get_or words PRODUCER 0 / 2 ≡ ring.published
found_published size words ring laid = ap (λ (n : ℕ). n / 2) laid.producer ∙ half ring.published ring.closed

found_closed : (size : ℕ) (words : List ℕ) (ring : RingState) → LaysOut size words ring → (get_or words PRODUCER 0 % 2 == 1) ≡ ring.closed
found_closed size words ring laid = ap (λ (n : ℕ). n % 2 == 1) laid.producer ∙ parity ring.published ring.closed

pub loads : (size id : ℕ) (v : Known) → v.reads ≡ true → MakesStep size id v PRODUCER (λ n. n) (having_loaded v) steps.Load
loads size id v may table h at =
    let ring = h.ring in
    let mine = (h.each id v at).reads may in
    let found : ℕ = get_or table.words PRODUCER 0 in
    let position = found_published size table.words ring h.laid in
    let bit = found_closed size table.words ring h.laid in
    let words : set table.words PRODUCER found ≡ table.words = set-get_or table.words PRODUCER 0 in
    subst (λ (ws : List ℕ). StepsRing size table h steps.Load (record { words = ws; homes = table.homes; views = set table.views id (having_loaded v found) })) (sym words)
    (roamer_moves size table h id v at steps.Load table.words (after_step ring steps.Load) (having_loaded v found).roamer may
    refl
    refl
    (λ i. record (mine.1 i) { loaded = position i; learnt = bit i; loads = counted (mine.1 i).loads; steps = counted (mine.1 i).steps })
    refl
    (record { size_is = h.laid.size_is; long = h.laid.long; producer = h.laid.producer; consumer = h.laid.consumer; stored = h.laid.stored })
    (record { stored = h.lawful.stored; read = h.lawful.read }))

-- the word at the roamer's place is the next one of the stream
pub found_next : (size id : ℕ) (v : Known) (table : RingTable) (h : IsRingTable size table) → get_elem? table.views id ≡ some v → v.reads ≡ true
    → get_or table.words (DATA + (read_by v).at % v.size) 0 ≡ next_word h.ring
found_next size id v table h at may =
    let long : v.size ≡ size = ((h.each id v at).reads may).0.2 in
    let place : ℕ = (read_by v).at % v.size in
    let place_is : place ≡ (taken h.ring).at % h.ring.size = ap (λ (x : RoamerTold). (walk x.0 x.1.stream).at % x.0) (roamer_told size table h id v at may) in
    let some : 1 ≤ v.size = omega (arith, h.ok.size, long, h.laid.size_is) in
    let in_ring : place < size = omega (arith, long, mod-lt (read_by v).at {m = v.size} (omega (arith, some))) in
    h.laid.stored place in_ring ∙ ap (λ (k : ℕ). get_or h.ring.words k 0) place_is

pub reads : (size id : ℕ) (v : Known) → v.reads ≡ true → roamer_barred v steps.Read ≡ None
    → MakesStep size id v (DATA + (read_by v).at % v.size) (λ n. n) (having_read v) steps.Read
reads size id v may free table h at =
    let ring = h.ring in
    let mine = (h.each id v at).reads may in
    let place : ℕ = DATA + (read_by v).at % v.size in
    let found : ℕ = get_or table.words place 0 in
    let is = found_next size id v table h at may in
    let words : set table.words place found ≡ table.words = set-get_or table.words place 0 in
    let unbarred = roamer_open size table h id v at may steps.Read refl free in
    subst (λ (ws : List ℕ). StepsRing size table h steps.Read (record { words = ws; homes = table.homes; views = set table.views id (having_read v found) })) (sym words)
    (roamer_moves size table h id v at steps.Read table.words (after_step ring steps.Read) (having_read v found).roamer may
    unbarred
    refl
    (λ i. record (mine.1 i) { stream = (mine.1 i).stream ++ is i ∷ []; steps = counted (mine.1 i).steps })
    refl
    (record { size_is = h.laid.size_is; long = h.laid.long; producer = h.laid.producer; consumer = h.laid.consumer; stored = h.laid.stored })
    (lawful_read h.plan (after_step ring steps.Read) (RingOk-after ring steps.Read h.ok unbarred) h.lawful.stored))

pub releases : (size id : ℕ) (v : Known) → v.reads ≡ true → roamer_barred v steps.Release ≡ None
    → MakesStep size id v CONSUMER (λ _. (read_by v).at) (λ _. having_released v) steps.Release
releases size id v may free table h at =
    let ring = h.ring in
    let mine = (h.each id v at).reads may in
    let next : RingState = after_step ring steps.Release in
    let position : (read_by v).at ≡ (taken ring).at = ap (λ (x : RoamerTold). (walk x.0 x.1.stream).at) (roamer_told size table h id v at may) in
    roamer_moves size table h id v at steps.Release (set table.words CONSUMER (read_by v).at) next (having_released v).roamer may
    (roamer_open size table h id v at may steps.Release refl free)
    refl
    (λ i. record (mine.1 i) { released = position i; steps = counted (mine.1 i).steps })
    refl
    (consumed size table.words ring next (read_by v).at h.laid refl refl refl position)
    (record { stored = h.lawful.stored; read = h.lawful.read })

-- ---- no step of the machine

Lawful-none : (plan : Plan) → Lawful plan []
Lawful-none plan = ([], AreFramesOf-nil plan)

-- the first seat of a new table
pub begins : (size : ℕ) → 1 ≤ size → (ring : IsRingTable size (opening (replicate (DATA + size) 0) [] (newcomer size))) × (ring.ring ≡ new_ring size)
begins size enough = (
  record {
    plan = no_plan;
    ring = new_ring size;
    writer = 0;
    roamer = 0;
    laid = record {
      size_is = refl;
      long = length-replicate (DATA + size) 0;
      producer = get_or-replicate (DATA + size) PRODUCER 0 0 (omega arith);
      consumer = get_or-replicate (DATA + size) CONSUMER 0 0 (omega arith);
      stored = λ place inside. get_or-replicate (DATA + size) (DATA + place) 0 0 (omega (arith, inside)) ∙ sym (get_or-replicate size place 0 0 inside);
    };
    ok = RingOk-new size enough;
    lawful = record { stored = Lawful-none no_plan; read = Lawful-none no_plan };
    each = Each-set (SeatKnows size no_plan (new_ring size) 0 0) (newcomer size ∷ []) 0 (newcomer size)
        (record { writes = λ _. ((refl, refl, refl), refl); reads = λ _. ((refl, refl, refl), refl) })
        (λ j u other e. absurd (other (at_end [] (newcomer size) u j (λ x. some-ne-none u (sym x)) e)));
  },
  refl,
)

-- the two roles are parted before anything is stored
pub parts : (size : ℕ) (plan : Plan) (id : ℕ) (v : Known) → v ≡ newcomer v.size → (table : RingTable) (h : IsRingTable size table) → get_elem? table.views id ≡ some v
    → StaysRing size table h (record { words = table.words; homes = table.homes; views = set table.views id (writer_of plan v) ++ roamer_of plan v ∷ [] })
parts size plan id v new table h at =
    let writes : v.writes ≡ true = ap (λ (k : Known). k.writes) new in
    let reads : v.reads ≡ true = ap (λ (k : Known). k.reads) new in
    let put = (h.each id v at).writes writes in
    let taken_end = (h.each id v at).reads reads in
    let writer : Known = writer_of plan v in
    let roamer : Known = roamer_of plan v in
    let vs : List Known = set table.views id writer in
    let stored_none : h.ring.writer ≡ new_writer = sym put.1 ∙ ap (λ (k : Known). k.writer) new in
    let read_none : h.ring.roamer ≡ new_roamer = sym taken_end.1 ∙ ap (λ (k : Known). k.roamer) new in
    let Old : ℕ → Known → Type 0 = λ j u. (u.writes ≡ true → IsEnd size plan h.writer j u × (u.writer ≡ h.ring.writer)) × (u.reads ≢ true) in
    let old : Each Old vs =
    Each-set Old table.views id writer ((λ _. ((put.0.0, refl, put.0.2), put.1)), λ p. true≢false (sym p))
    (λ j u other e. (
      (λ p. absurd (other (((h.each j u e).writes p).0.0 ∙ sym put.0.0))),
      λ p. other (((h.each j u e).reads p).0.0 ∙ sym taken_end.0.0),
    ))
    in
    record {
      after = record {
        plan = plan;
        ring = h.ring;
        writer = h.writer;
        roamer = length vs;
        laid = h.laid;
        ok = h.ok;
        lawful = record {
          stored = subst (λ (r : WriterRecord). Lawful plan (walk h.ring.size r.stream).frames) (sym stored_none) (Lawful-none plan);
          read = subst (λ (r : RoamerRecord). Lawful plan (walk h.ring.size r.stream).frames) (sym read_none) (Lawful-none plan);
        };
        each = λ j u e. record {
          writes = λ p. ⊎_elim (λ x. (old j u x).0 p) (λ (is : roamer ≡ u). no_true (ap (λ (y : Known). y.writes) is ∙ p)) (at_snoc vs roamer u j e);
          reads = λ p. ⊎_elim (λ x. absurd ((old j u x).1 p))
              (λ (is : roamer ≡ u).
              ((at_end vs roamer u j (λ x. (old j u x).1 p) e, ap plan_in (sym is), ap (λ (y : Known). y.size) (sym is) ∙ put.0.2), ap (λ (y : Known). y.roamer) (sym is) ∙ taken_end.1))
              (at_snoc vs roamer u j e);
        };
      };
      same = refl;
    }

-- the two roles come together again
pub joins : (size id : ℕ) (v : Known) (other : ℕ) (u : Known) → v.writes ≡ true → u.reads ≡ true → (table : RingTable) (h : IsRingTable size table)
    → get_elem? table.views id ≡ some v → ¬ (other ≡ id) → get_elem? (set table.views id (both_of v u)) other ≡ some u
    → StaysRing size table h (record { words = table.words; homes = table.homes; views = set (set table.views id (both_of v u)) other spent })
joins size id v other u a b table h at two at' =
    let both : Known = both_of v u in
    let put = (h.each id v at).writes a in
    let vs : List Known = set table.views id both in
    let was : get_elem? table.views other ≡ some u = ⊎_elim (λ x. absurd (two x.0)) (λ x. x.1) (at_set table.views id other both u at') in
    let taken_end = (h.each other u was).reads b in
    let Now : ℕ → Known → Type 0 = λ j y. j ≢ other → SeatKnows size h.plan h.ring h.writer id j y in
    let now : Each Now vs =
    Each-set Now table.views id both (λ _. record { writes = λ _. put; reads = λ _. ((refl, put.0.1, put.0.2), taken_end.1) })
    (λ j y _ e apart. record { writes = (h.each j y e).writes; reads = λ p. absurd (apart (((h.each j y e).reads p).0.0 ∙ sym taken_end.0.0)) })
    in
    record {
      after = record {
        plan = h.plan;
        ring = h.ring;
        writer = h.writer;
        roamer = id;
        laid = h.laid;
        ok = h.ok;
        lawful = h.lawful;
        each = Each-set (SeatKnows size h.plan h.ring h.writer id) vs other spent (record { writes = λ p. no_true p; reads = λ p. no_true p }) (λ j y apart e. now j y e apart);
      };
      same = refl;
    }

-- a seat loads the producer word, and knows what it knew
pub settles : (size id : ℕ) (v : Known) (table : RingTable) (h : IsRingTable size table) → get_elem? table.views id ≡ some v
    → StaysRing size table h (record { words = set table.words PRODUCER (get_or table.words PRODUCER 0); homes = table.homes; views = set table.views id v })
settles size id v table h at =
    let words : set table.words PRODUCER (get_or table.words PRODUCER 0) ≡ table.words = set-get_or table.words PRODUCER 0 in
    let views : set table.views id v ≡ table.views = set_again table.views id v at in
    subst (λ (t : List ℕ × List Known). StaysRing size table h (record { words = t.0; homes = table.homes; views = t.1 })) (λ i. (sym words i, sym views i)) (record { after = h; same = refl })
