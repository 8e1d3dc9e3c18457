-- What is kept of the writers goes on with the blocks.
use Rattle.std.proofs.Common.{◌≡◌, ◌≢◌, ℕ, ◌<◌, ◌≤◌, ◌||◌, Bool, true, false, List, [], ◌∷◌, ◌++◌, length, map, get_or, refl, sym, ap, subst, ◌∙◌, inl, inr, cond, arith}
use Rattle.std.specs.Prelude.{slice_set}
use Rattle.std.specs.List.{list_any}
use Rattle.std.proofs.lemmas.Bool.Decides.{eqb_tells}
use Rattle.std.proofs.lemmas.Bool.{or_right}
use Rattle.std.proofs.lemmas.List.{append-nil, length-map, map-set, get_or_past, get_or-map, get_or-set_same, get_or-set_other, set-get_or}
use Rattle.std.proofs.lemmas.List.Folds.{list_any-append}
use Rattle.arg_records.specs.declared.call.Call.{Call}
use Rattle.checkpoint_io.specs.declared.header.Header.{Header}
use Rattle.checkpoint_io.specs.declared.writers.WriterState.{WriterState}
use Rattle.checkpoint_io.specs.Blocks.{Block, Extent, Close}
use Rattle.checkpoint_io.specs.Validity.{block_records, records_of, last_stamp, closes}
use Rattle.checkpoint_io.specs.Writers.{last_kept, closed_kept, AreStatesOf}
use Rattle.checkpoint_io.proofs.lemmas.ValidityLaws.{records-push}

-- ---- the last stamp

pub last_stamp-append : (least : ℕ) (before records : List Call) → last_stamp least (before ++ records) ≡ last_stamp (last_stamp least before) records
last_stamp-append least [] records = refl
last_stamp-append least (call ∷ before) records = last_stamp-append call.stamp before records

-- ---- the states

no_more : (b : Bool) → (b || false) ≡ b
no_more true = refl
no_more false = refl

closed-push : (writer : ℕ) (before : List Block) (block : Block) → closes writer block ≡ false → list_any (closes writer) (before ++ block ∷ []) ≡ list_any (closes writer) before
closed-push writer before block other =
    list_any-append (closes writer) before (block ∷ []) ∙ ap (λ (b : Bool). list_any (closes writer) before || (b || false)) other ∙ no_more (list_any (closes writer) before)

-- behind a block that has no records and closes nothing
pub states_kept : (states : List WriterState) (header : Header) (before : List Block) (block : Block) → ((writer : ℕ) → block_records writer block ≡ []) → ((writer : ℕ) → closes writer block ≡ false) → AreStatesOf states header before → AreStatesOf states header (before ++ block ∷ [])
states_kept states header before block no_records unclosed are = record {
  many = are.many;
  lasts = λ writer known.
      are.lasts writer known ∙ ap (last_stamp header.clock.tick) (sym (records-push writer before block ∙ ap (λ (l : List Call). records_of writer before ++ l) (no_records writer) ∙ append-nil (records_of writer before)));
  closed = λ writer known. are.closed writer known ∙ sym (closed-push writer before block (unclosed writer));
}

-- behind an extent
pub states_go_on : (old new : List WriterState) (header : Header) (before : List Block) (w stamp : ℕ) (records : List Call) → w < header.writers → ((least : ℕ) → stamp ≡ last_stamp least records) → length new ≡ length old → (w < length old → last_kept new w ≡ stamp) → ((other : ℕ) → other ≢ w → last_kept new other ≡ last_kept old other) → ((other : ℕ) → closed_kept new other ≡ closed_kept old other) → AreStatesOf old header before → AreStatesOf new header (before ++ Extent w records ∷ [])
states_go_on old new header before w stamp records known ends many own others same are = record {
  many = many ∙ are.many;
  lasts = lasts;
  closed = λ writer known. same writer ∙ are.closed writer known ∙ sym (closed-push writer before (Extent w records) refl);
}
  where
    lasts : (writer : ℕ) → writer < header.writers → last_kept new writer ≡ last_stamp header.clock.tick (records_of writer (before ++ Extent w records ∷ []))
    lasts writer fits =
        elim (eqb_tells w writer) [
          | inl is ↦
              let within : w < length old = omega (arith, known, are.many) in
              let here : last_kept new writer ≡ stamp = subst (λ (n : ℕ). last_kept new n ≡ stamp) is.1 (own within) in
              here ∙ ends (last_stamp header.clock.tick (records_of writer before)) ∙ sym (last_stamp-append header.clock.tick (records_of writer before) records)
              ∙ ap (last_stamp header.clock.tick) (sym (records-push writer before (Extent w records) ∙ ap (λ (b : Bool). records_of writer before ++ cond b records []) is.0))
          | inr differs ↦
              others writer (λ e. differs.1 (sym e)) ∙ are.lasts writer fits
              ∙ ap (last_stamp header.clock.tick) (sym (records-push writer before (Extent w records) ∙ ap (λ (b : Bool). records_of writer before ++ cond b records []) differs.0 ∙ append-nil (records_of writer before)))
        ]

-- behind a close mark
pub states_close : (old new : List WriterState) (header : Header) (before : List Block) (w : ℕ) → w < header.writers → length new ≡ length old → (w < length old → closed_kept new w ≡ true) → ((other : ℕ) → other ≢ w → closed_kept new other ≡ closed_kept old other) → ((other : ℕ) → last_kept new other ≡ last_kept old other) → AreStatesOf old header before → AreStatesOf new header (before ++ Close w ∷ [])
states_close old new header before w known many own others same are = record {
  many = many ∙ are.many;
  lasts = λ writer fits.
      same writer ∙ are.lasts writer fits ∙ ap (last_stamp header.clock.tick) (sym (records-push writer before (Close w) ∙ append-nil (records_of writer before)));
  closed = closed;
}
  where
    closed : (writer : ℕ) → writer < header.writers → closed_kept new writer ≡ list_any (closes writer) (before ++ Close w ∷ [])
    closed writer fits =
        elim (eqb_tells w writer) [
          | inl is ↦
              let within : w < length old = omega (arith, known, are.many) in
              subst (λ (n : ℕ). closed_kept new n ≡ true) is.1 (own within)
              ∙ sym (list_any-append (closes writer) before (Close w ∷ []) ∙ or_right (list_any (closes writer) before) (list_any (closes writer) (Close w ∷ [])) (ap (λ (b : Bool). b || false) is.0))
          | inr differs ↦
              others writer (λ e. differs.1 (sym e)) ∙ are.closed writer fits ∙ sym (closed-push writer before (Close w) differs.0)
        ]

-- what states have, where one of them is set
pub set_here : {X : Type 0} (f : WriterState → X) (d : X) (states : List WriterState) (w : ℕ) (state : WriterState) → w < length states → get_or (map f (slice_set states w state)) w d ≡ f state
set_here {X} f d states w state within = ap (λ (l : List X). get_or l w d) (map-set f states w state) ∙ get_or-set_same (map f states) w (f state) d (omega (arith, within, length-map states f))

pub set_other : {X : Type 0} (f : WriterState → X) (d : X) (states : List WriterState) (w : ℕ) (state : WriterState) (other : ℕ) → other ≢ w → get_or (map f (slice_set states w state)) other d ≡ get_or (map f states) other d
set_other {X} f d states w state other differs = ap (λ (l : List X). get_or l other d) (map-set f states w state) ∙ get_or-set_other (map f states) w other (f state) d differs

-- one that keeps what it had
pub set_same : {X : Type 0} (f : WriterState → X) (states : List WriterState) (w : ℕ) (old state : WriterState) → w < length states → old ≡ get_or states w old → f state ≡ f old → map f (slice_set states w state) ≡ map f states
set_same {X} f states w old state within there same =
    let had : f state ≡ get_or (map f states) w (f state) = same ∙ ap f there ∙ sym (get_or-map f states w old (f state) within) in
    map-set f states w state ∙ ap (λ (x : X). slice_set (map f states) w x) had ∙ set-get_or (map f states) w (f state)

-- a writer that the header doesn't have has no state
pub far_kept : (states : List WriterState) (writer : ℕ) → length states ≤ writer → closed_kept states writer ≡ false
far_kept states writer far = get_or_past (map (λ state. state.closed) states) writer false (omega (arith, far, length-map states (λ (state : WriterState). state.closed)))
