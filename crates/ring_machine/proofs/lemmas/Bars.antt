-- What is known where a step isn't barred, and where none is.
use Rattle.std.proofs.Common.{◌≡◌, ◌≢◌, ℕ, ◌+◌, ◌%◌, ◌/◌, ◌<◌, ◌≤◌, Bool, true, false, List, [], ◌∷◌, refl, sym, ap, ◌∙◌, inl, inr, ⊎_elim, true≢false, eq-eqb, ne_eqb, arith}
use Rattle.std.specs.Prelude.{◌==◌, ◌||◌, not, nat_lt, if◌then◌else◌, Option, None, Some}
use Rattle.std.proofs.lemmas.Bool.{or_parts, or_from, not-false, not_from_true, ltb-true, ltb-false, lt-ltb, le-ltb, eqb-true, eqb-false, cond-false}
use Rattle.arg_records.specs.declared.frame.TheConstants.{MAX_FRAME_WORDS}
use Rattle.log_dictionary.specs.declared.dictionary.TheConstants.{MAX_MESSAGES}
use Rattle.ring_machine.specs.declared.records.WriterRecord.{WriterRecord}
use Rattle.ring_machine.specs.declared.records.RoamerRecord.{RoamerRecord}
use Rattle.ring_machine.specs.declared.steps.StepKind.TheVariants as steps
use Rattle.ring_machine.specs.declared.steps.Barred.{Barred}
use Rattle.ring_machine.specs.Streams.{Walk, walk, next_lap, is_wrap_mark, Begins, Wraps, FitsWithin}
use Rattle.ring_machine.specs.Steps.{first_bar, is_inside, is_bad, store_tests, writer_bar, roamer_bar}

-- ---- what is known where a step isn't barred

-- where no cause is given, the first test is false, and no other gives one
pub none_of : (test : Bool) (cause : Barred) (others : Option Barred) → (if test then Some cause else others) ≡ None → (test ≡ false) × (others ≡ None)
none_of true cause others e = absurd cc
none_of false cause others e = (refl, e)

pub not_inside : (words : List ℕ) → is_inside words ≡ false → words ≡ []
not_inside [] e = refl
not_inside (head ∷ words) e = absurd cc

-- a first word that isn't bad
good_word : (size at word : ℕ) → is_bad word ≡ false → at % size + word % 65536 ≤ size → Begins size at word
good_word size at word good inside =
    let parts = or_parts (nat_lt (word % 65536) 2) (nat_lt MAX_FRAME_WORDS (word % 65536) || not (nat_lt (word / 65536) MAX_MESSAGES)) good in
    let others = or_parts (nat_lt MAX_FRAME_WORDS (word % 65536)) (not (nat_lt (word / 65536) MAX_MESSAGES)) parts.1 in
    record {
      least = ltb-false (word % 65536) 2 parts.0;
      most = ltb-false MAX_FRAME_WORDS (word % 65536) others.0;
      id = ltb-true (word / 65536) MAX_MESSAGES (not-false (nat_lt (word / 65536) MAX_MESSAGES) others.1);
      inside = inside;
    }

-- a word that may be stored fits
store_fits : (size free at : ℕ) (frames : List (List ℕ)) (part : List ℕ) (word : ℕ) → first_bar (store_tests size free at part word) ≡ None
    → FitsWithin size free (record { at = at; frames = frames; part = part }) word
store_fits size free at frames [] word unbarred none =
    let good = none_of (is_bad word) _ _ unbarred in
    let inside = none_of (nat_lt size (at % size + word % 65536)) _ _ good.1 in
    let room = none_of (nat_lt free (at + word % 65536)) _ _ inside.1 in
    inr (
      good_word size at word good.0 (ltb-false size (at % size + word % 65536) inside.0),
      ltb-false free (at + word % 65536) room.0,
    )
store_fits size free at frames (head ∷ words) word unbarred none = absurd cc

pub store_open : (size : ℕ) (writer : WriterRecord) (word : ℕ) → writer_bar size writer (steps.Store word) ≡ None
    → (writer.closed ≡ false) × FitsWithin size (writer.seen + size) (walk size writer.stream) word
store_open size writer word unbarred =
    let first = none_of writer.closed _ _ unbarred in
    let w : Walk = walk size writer.stream in
    (first.0, store_fits size (writer.seen + size) w.at w.frames w.part word first.1)

pub skip_open : (size : ℕ) (writer : WriterRecord) → writer_bar size writer steps.Skip ≡ None
    → (writer.closed ≡ false) × ((walk size writer.stream).part ≡ []) × FitsWithin size (writer.seen + size) (walk size writer.stream) 0
skip_open size writer unbarred =
    let w : Walk = walk size writer.stream in
    let first = none_of writer.closed _ _ unbarred in
    let whole = none_of (is_inside w.part) _ _ first.1 in
    let edge = none_of (w.at % size == 0) _ _ whole.1 in
    let room = none_of (nat_lt (writer.seen + size) (next_lap size w.at)) _ _ edge.1 in
    let apart = eqb-false (w.at % size) 0 edge.0 in (
      first.0,
      not_inside w.part whole.0,
      λ _. inl (record { mark = refl; inside = omega (arith, apart) }, ltb-false (writer.seen + size) (next_lap size w.at) room.0),
    )

pub publish_open : (size : ℕ) (writer : WriterRecord) → writer_bar size writer steps.Publish ≡ None
    → (writer.closed ≡ false) × ((walk size writer.stream).part ≡ [])
publish_open size writer unbarred =
    let w : Walk = walk size writer.stream in
    let first = none_of writer.closed _ _ unbarred in
    let whole = none_of (is_inside w.part) _ _ first.1 in
    (first.0, not_inside w.part whole.0)

pub close_open : (size : ℕ) (writer : WriterRecord) → writer_bar size writer steps.Close ≡ None
    → (writer.closed ≡ false) × (writer.published ≡ (walk size writer.stream).at)
close_open size writer unbarred =
    let w : Walk = walk size writer.stream in
    let first = none_of writer.closed _ _ unbarred in
    let whole = none_of (is_inside w.part || not (writer.published == w.at)) _ _ first.1 in
    let parts = or_parts (is_inside w.part) (not (writer.published == w.at)) whole.0 in
    (first.0, eqb-true writer.published w.at (not-false (writer.published == w.at) parts.1))

pub read_open : (size : ℕ) (roamer : RoamerRecord) → roamer_bar size roamer steps.Read ≡ None → roamer.loaded ≢ (walk size roamer.stream).at
read_open size roamer unbarred = let w : Walk = walk size roamer.stream in eqb-false roamer.loaded w.at (none_of (roamer.loaded == w.at) _ _ unbarred).0

pub release_open : (size : ℕ) (roamer : RoamerRecord) → roamer_bar size roamer steps.Release ≡ None → (walk size roamer.stream).part ≡ []
release_open size roamer unbarred = let w : Walk = walk size roamer.stream in not_inside w.part (none_of (is_inside w.part) _ _ unbarred).0

-- ---- where no step is barred

-- a test that is false gives no cause
none_then : (test : Bool) (cause : Barred) (others : Option Barred) → test ≡ false → others ≡ None → (if test then Some cause else others) ≡ None
none_then test cause others unset none = cond-false test (Some cause) others unset ∙ none

-- a first word isn't bad whose length and id are in their ranges
not_bad : (size at word : ℕ) → Begins size at word → is_bad word ≡ false
not_bad size at word begins =
    or_from (nat_lt (word % 65536) 2) (nat_lt MAX_FRAME_WORDS (word % 65536) || not (nat_lt (word / 65536) MAX_MESSAGES)) (le-ltb (word % 65536) 2 begins.least)
    (or_from (nat_lt MAX_FRAME_WORDS (word % 65536)) (not (nat_lt (word / 65536) MAX_MESSAGES)) (le-ltb MAX_FRAME_WORDS (word % 65536) begins.most)
    (not_from_true (nat_lt (word / 65536) MAX_MESSAGES) (lt-ltb (word / 65536) MAX_MESSAGES begins.id)))

fits_stored : (size free at : ℕ) (frames : List (List ℕ)) (part : List ℕ) (word : ℕ) → is_wrap_mark part word ≡ false
    → FitsWithin size free (record { at = at; frames = frames; part = part }) word → first_bar (store_tests size free at part word) ≡ None
fits_stored size free at frames [] word unmarked fits =
    ⊎_elim
    (λ (m : Wraps size at word × (next_lap size at ≤ free)). absurd (true≢false (sym (eq-eqb word 0 m.0.mark) ∙ unmarked)))
    (λ (b : Begins size at word × (at + word % 65536 ≤ free)).
    none_then (is_bad word) _ _ (not_bad size at word b.0)
    (none_then (nat_lt size (at % size + word % 65536)) _ _ (le-ltb size (at % size + word % 65536) b.0.inside)
    (none_then (nat_lt free (at + word % 65536)) _ _ (le-ltb free (at + word % 65536) b.1) refl)))
    (fits refl)
fits_stored size free at frames (head ∷ words) word unmarked fits = refl

pub may_look : (size : ℕ) (writer : WriterRecord) → writer.closed ≡ false → writer_bar size writer steps.Look ≡ None
may_look size writer unclosed = none_then writer.closed _ _ unclosed refl

pub may_store : (size : ℕ) (writer : WriterRecord) (word : ℕ) → writer.closed ≡ false → is_wrap_mark (walk size writer.stream).part word ≡ false
    → FitsWithin size (writer.seen + size) (walk size writer.stream) word → writer_bar size writer (steps.Store word) ≡ None
may_store size writer word unclosed unmarked fits =
    let w : Walk = walk size writer.stream in
    none_then writer.closed _ _ unclosed (fits_stored size (writer.seen + size) w.at w.frames w.part word unmarked fits)

pub may_skip : (size : ℕ) (writer : WriterRecord) → writer.closed ≡ false → (walk size writer.stream).part ≡ [] → FitsWithin size (writer.seen + size) (walk size writer.stream) 0
    → writer_bar size writer steps.Skip ≡ None
may_skip size writer unclosed whole fits =
    let w : Walk = walk size writer.stream in
    ⊎_elim
    (λ (m : Wraps size w.at 0 × (next_lap size w.at ≤ writer.seen + size)).
    let apart : w.at % size ≢ 0 = λ e. let inside = m.0.inside in omega (arith, e, inside) in
    none_then writer.closed _ _ unclosed
    (none_then (is_inside w.part) _ _ (ap is_inside whole)
    (none_then (w.at % size == 0) _ _ (ne_eqb (w.at % size) 0 apart)
    (none_then (nat_lt (writer.seen + size) (next_lap size w.at)) _ _ (le-ltb (writer.seen + size) (next_lap size w.at) m.1) refl))))
    (λ (b : Begins size w.at 0 × (w.at + 0 % 65536 ≤ writer.seen + size)). let least = b.0.least in absurd (omega (arith, least)))
    (fits whole)

pub may_publish : (size : ℕ) (writer : WriterRecord) → writer.closed ≡ false → (walk size writer.stream).part ≡ [] → writer.published ≢ (walk size writer.stream).at
    → writer_bar size writer steps.Publish ≡ None
may_publish size writer unclosed whole new =
    let w : Walk = walk size writer.stream in
    none_then writer.closed _ _ unclosed
    (none_then (is_inside w.part) _ _ (ap is_inside whole) (none_then (writer.published == w.at) _ _ (ne_eqb writer.published w.at new) refl))

pub may_close : (size : ℕ) (writer : WriterRecord) → writer.closed ≡ false → (walk size writer.stream).part ≡ [] → writer.published ≡ (walk size writer.stream).at
    → writer_bar size writer steps.Close ≡ None
may_close size writer unclosed whole all =
    let w : Walk = walk size writer.stream in
    let told : not (writer.published == w.at) ≡ false = not_from_true (writer.published == w.at) (eq-eqb writer.published w.at all) in
    none_then writer.closed _ _ unclosed
    (none_then (is_inside w.part || not (writer.published == w.at)) _ _ (or_from (is_inside w.part) (not (writer.published == w.at)) (ap is_inside whole) told) refl)

pub may_read : (size : ℕ) (roamer : RoamerRecord) → roamer.loaded ≢ (walk size roamer.stream).at → roamer_bar size roamer steps.Read ≡ None
may_read size roamer left = let w : Walk = walk size roamer.stream in none_then (roamer.loaded == w.at) _ _ (ne_eqb roamer.loaded w.at left) refl

pub may_release : (size : ℕ) (roamer : RoamerRecord) → (walk size roamer.stream).part ≡ [] → roamer.released ≢ (walk size roamer.stream).at
    → roamer_bar size roamer steps.Release ≡ None
may_release size roamer whole new =
    let w : Walk = walk size roamer.stream in
    none_then (is_inside w.part) _ _ (ap is_inside whole) (none_then (roamer.released == w.at) _ _ (ne_eqb roamer.released w.at new) refl)
