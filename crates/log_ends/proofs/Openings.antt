-- Which text opens a session.
use Rattle.std.proofs.Common.{◌≡◌, ◌⊎◌, ℕ, List, [], length, map, refl, sym, ap, subst, ◌∙◌, inl, inr, arith}
use Rattle.std.specs.List.{AllZip}
use Rattle.std.proofs.lemmas.List.{length-map, drop_all}
use Rattle.std.specs.Prelude.{Err, All}
use Rattle.trace_text.specs.declared.cause.TraceCause.{TraceCause}
use Rattle.trace_text.specs.declared.reading.TraceFault.{TraceFault}
use Rattle.trace_text.specs.declared.reading.TraceFault.TheVariants as faults
use Rattle.trace_text.specs.TraceReading.{IsAnswerTo, IsOnlyAnswerTo}
use Rattle.log_ends.specs.declared.opening.OpenFault.TheVariants as opens
use Rattle.ring_core.specs.Plans.{Plan}
use Rattle.word_ring.specs.Ends.{WordWriterEnd, WordRoamerEnd}
use Rattle.log_session.specs.Writers.{WriterView}
use Rattle.log_ends.specs.declared.writer.WriterEnd.{WriterEnd}
use Rattle.log_ends.specs.Openings.{open_fault, IsNewPair, HaveNewRing}
use Rattle.log_ends.specs.declared.part_end.PartEnd.{PartEnd}
use Rattle.log_ends.specs.PartEnds.{IsFirstPart, part_frames}
use Rattle.log_ends.proofs.Lists.{zip_images, zip_images_of_second, zip_and_all, all_images}

module _ {A : Type 0} (IsRight : A → Type 0) (IsRefused : ℕ → TraceCause → Type 0) where
  -- the line that is told is refused
  pub refused_so : (fault : TraceFault) (line : ℕ) → IsAnswerTo IsRight IsRefused (Err fault) → open_fault fault ≡ opens.BadDictionary line → (cause : TraceCause) × IsRefused line cause
  refused_so (faults.Refused at cause) line answer told = let same : at ≡ line = cc in (cause, subst (λ (n : ℕ). IsRefused n cause) same answer)
  refused_so faults.ReadFault line answer told = absurd cc
  refused_so faults.NoMemory line answer told = absurd cc

  -- a line that is refused is told
  pub refused_only : (fault : TraceFault) (line : ℕ) (cause : TraceCause) → IsOnlyAnswerTo IsRight IsRefused (Err fault) → IsRefused line cause
      → (open_fault fault ≡ opens.BadDictionary line) ⊎ (open_fault fault ≡ opens.NoMemory)
  refused_only (faults.Refused at other) line cause only refused = elim (only.refusal line cause refused) [ inl same ↦ inl cc | inr none ↦ absurd none ]
  refused_only faults.ReadFault line cause only refused = inr refl
  refused_only faults.NoMemory line cause only refused = inr refl

-- the writers that are to be given out have the rings
pub rings_left : (size : ℕ) (plan : Plan) (left : List WriterEnd) (writers : List (WriterView WordWriterEnd)) (outs : List WordRoamerEnd) (ends ends_after : List PartEnd) → map (λ (end : WriterEnd). end.writer) left ≡ writers → map (λ (end : PartEnd). end.out) ends ≡ outs → All IsFirstPart ends → ends_after ≡ ends
    → AllZip (IsNewPair size plan) writers outs → AllZip (HaveNewRing size plan) left ends_after
rings_left size plan left writers outs ends ends_after same same_outs first same_ends rings =
    let images = subst (λ (pair : List (WriterView WordWriterEnd) × List WordRoamerEnd). AllZip (IsNewPair size plan) pair.0 pair.1) (λ i. (sym same i, sym same_outs i)) rings in
    let of_left = zip_images (λ (end : WriterEnd). end.writer) (IsNewPair size plan) left (map (λ (end : PartEnd). end.out) ends) images in
    let of_both = zip_images_of_second (λ (end : PartEnd). end.out) (λ (writer : WriterEnd). IsNewPair size plan writer.writer) left ends of_left in
    subst (AllZip (HaveNewRing size plan) left) (sym same_ends)
    (zip_and_all (λ (writer : WriterEnd) (end : PartEnd). IsNewPair size plan writer.writer end.out) (HaveNewRing size plan) IsFirstPart (λ writer end ring is. record { ring = ring; first = is }) left ends of_both first)

-- nothing was taken from ends of new rings
pub none_taken : (outs : List WordRoamerEnd) (ends : List PartEnd) → map (λ (end : PartEnd). end.out) ends ≡ outs → All (λ (out : WordRoamerEnd). out.got ≡ []) outs → All (λ end. part_frames end ≡ []) ends
none_taken outs ends same none =
    all_images (λ (end : PartEnd). end.out) (λ (out : WordRoamerEnd). out.got ≡ []) (λ end. part_frames end ≡ []) (λ end is. drop_all end.earlier end.out.got (omega (arith, ap length is))) ends
    (subst (All (λ (out : WordRoamerEnd). out.got ≡ [])) (sym same) none)

pub planned_ends : (plan : Plan) (outs : List WordRoamerEnd) (ends : List PartEnd) → map (λ (end : PartEnd). end.out) ends ≡ outs → All (λ (out : WordRoamerEnd). out.plan ≡ plan) outs → All (λ (end : PartEnd). end.out.plan ≡ plan) ends
planned_ends plan outs ends same planned =
    all_images (λ (end : PartEnd). end.out) (λ (out : WordRoamerEnd). out.plan ≡ plan) (λ end. end.out.plan ≡ plan) (λ end is. is) ends
    (subst (All (λ (out : WordRoamerEnd). out.plan ≡ plan)) (sym same) planned)

pub count_left : (left : List WriterEnd) (writers : List (WriterView WordWriterEnd)) (count : ℕ) → map (λ (end : WriterEnd). end.writer) left ≡ writers → length writers ≡ count → length left ≡ count
count_left left writers count same all = sym (length-map left (λ (end : WriterEnd). end.writer)) ∙ ap length same ∙ all

pub count_ends : (ends : List PartEnd) (outs : List WordRoamerEnd) → map (λ (end : PartEnd). end.out) ends ≡ outs → length ends ≡ length outs
count_ends ends outs same = sym (length-map ends (λ (end : PartEnd). end.out)) ∙ ap length same
