-- Lines piece by piece.
use Rattle.std.proofs.Common.{◌≡◌, ℕ, suc, zero, ◌+◌, ◌<◌, ◌≤◌, List, [], ◌∷◌, ◌++◌, subst, drop, length, codes, refl, sym, ap, ◌∙◌, append_assoc, append-nil, arith}
use Rattle.std.specs.Prelude.{decimal, slice_get, IfSome}
use Rattle.std.specs.List.{concat}
use Rattle.std.proofs.lemmas.List.{drop_all}
use Rattle.nl_io.specs.Content.{Told}
use Rattle.nl_io.specs.TextWriters.{Carries, IsCutOff}
use Rattle.nl_io.proofs.lemmas.TextWriters.{carries_held, carries_more, cut_more}
use Rattle.ring_machine.specs.declared.steps.StepKind.{StepKind}
use Rattle.ring_machine.specs.declared.view.RingView.{RingView}
use Rattle.ring_machine.specs.RingStates.{RingState}
use Rattle.ring_machine.specs.Rings.{view_of}
use Rattle.schedule_text.specs.StepLines.{step_name}
use Rattle.schedule_text.specs.Printed.{event_text, positions_text, state_name, ring_line, ring_lines}
use Rattle.schedule_text.specs.Judged.{event_of}

pub event_pieces : (number ring : ℕ) (step : StepKind) (number_text name ring_text : List ℕ) → number_text ≡ decimal number → name ≡ step_name step → ring_text ≡ decimal ring
    → concat (number_text ∷ codes " " ∷ name ∷ codes " " ∷ ring_text ∷ []) ≡ event_text number (event_of (ring, step))
event_pieces number ring step number_text name ring_text a b c = λ i. concat (a i ∷ codes " " ∷ b i ∷ codes " " ∷ c i ∷ [])

pub positions_pieces : (view : RingView) (written published released seen loaded read : List ℕ) → written ≡ decimal view.written → published ≡ decimal view.published → released ≡ decimal view.released
    → seen ≡ decimal view.seen → loaded ≡ decimal view.loaded → read ≡ decimal view.read
    → concat (codes ": written " ∷ written ∷ codes " published " ∷ published ∷ codes " released " ∷ released ∷ codes " seen " ∷ seen ∷ codes " loaded " ∷ loaded ∷ codes " read " ∷ read ∷ codes "\n" ∷ [])
    ≡ positions_text view
positions_pieces view written published released seen loaded read a b c d e f =
    λ i. concat (codes ": written " ∷ a i ∷ codes " published " ∷ b i ∷ codes " released " ∷ c i ∷ codes " seen " ∷ d i ∷ codes " loaded " ∷ e i ∷ codes " read " ∷ f i ∷ codes "\n" ∷ [])

pub ring_pieces : (ring : ℕ) (view : RingView) (ring_text sent got name : List ℕ) → ring_text ≡ decimal ring → sent ≡ decimal view.sent → got ≡ decimal view.got → name ≡ state_name view
    → concat (codes "ring " ∷ ring_text ∷ codes ": sent " ∷ sent ∷ codes " got " ∷ got ∷ codes " " ∷ name ∷ codes "\n" ∷ []) ≡ ring_line ring view
ring_pieces ring view ring_text sent got name a b c d = λ i. concat (codes "ring " ∷ a i ∷ codes ": sent " ∷ b i ∷ codes " got " ∷ c i ∷ codes " " ∷ d i ∷ codes "\n" ∷ [])

-- ---- the lines of the rings

-- the lines of the rings from one on are its line and those of the others
pub rings_more : (rings : List RingState) (n ring : ℕ) (view : RingView) → ring < length rings → IfSome (slice_get rings ring) (λ s. view ≡ view_of s)
    → ring_lines (n + ring) (drop ring rings) ≡ ring_line (n + ring) view ++ ring_lines (n + ring + 1) (drop (ring + 1) rings)
rings_more [] n ring view within shown = absurd (omega (arith, within))
rings_more (s ∷ rings) n zero view within shown = ap (λ (v : RingView). ring_line (n + 0) v ++ ring_lines (n + 0 + 1) rings) (sym shown)
rings_more (s ∷ rings) n (suc ring) view within shown =
    let same : n + suc ring ≡ (n + 1) + ring = omega arith in
    let next : suc ring + 1 ≡ suc (ring + 1) = omega arith in
    ap (λ (k : ℕ). ring_lines k (drop ring rings)) same
    ∙ rings_more rings (n + 1) ring view (omega (arith, within)) shown
    ∙ (λ i. ring_line (sym same i) view ++ ring_lines (sym same i + 1) (drop (sym next i) (s ∷ rings)))

pub rings_from : (rings : List RingState) (ring : ℕ) (view : RingView) → ring < length rings → IfSome (slice_get rings ring) (λ s. view ≡ view_of s)
    → ring_lines ring (drop ring rings) ≡ ring_line ring view ++ ring_lines (ring + 1) (drop (ring + 1) rings)
rings_from rings ring view within shown =
    let same : 0 + ring ≡ ring = omega arith in
    subst (λ (k : ℕ). ring_lines k (drop ring rings) ≡ ring_line k view ++ ring_lines (k + 1) (drop (ring + 1) rings)) same (rings_more rings 0 ring view within shown)

-- the lines of the rings in front of one are put or held back, behind what was held back before
pub record RingsCarried (before : List ℕ) (rings : List RingState) (ring : ℕ) (was is : Told) (held : List ℕ) : Type 0 where
  pub text : List ℕ
  pub carries : Carries text was is held
  pub joined : before ++ ring_lines 0 rings ≡ text ++ ring_lines ring (drop ring rings)

pub none_carried : (before : List ℕ) (rings : List RingState) (was : Told) → RingsCarried before rings 0 was was before
none_carried before rings was = record { text = before; carries = carries_held before before was refl; joined = refl }

module _ (before : List ℕ) (rings : List RingState) (ring : ℕ) (was mid : Told) (held : List ℕ) (so_far : RingsCarried before rings ring was mid held) (view : RingView) (within : ring < length rings)
    (shown : IfSome (slice_get rings ring) (λ s. view ≡ view_of s)) where
  goes_on : before ++ ring_lines 0 rings ≡ so_far.text ++ ring_line ring view ++ ring_lines (ring + 1) (drop (ring + 1) rings)
  goes_on =
      so_far.joined ∙ ap (λ (l : List ℕ). so_far.text ++ l) (rings_from rings ring view within shown)
      ∙ sym (append_assoc so_far.text (ring_line ring view) (ring_lines (ring + 1) (drop (ring + 1) rings)))

  pub ring_carried : (is : Told) (now : List ℕ) → Carries (held ++ ring_line ring view) mid is now → RingsCarried before rings (ring + 1) was is now
  ring_carried is now more = record {
    text = so_far.text ++ ring_line ring view;
    carries = carries_more (so_far.text ++ ring_line ring view) so_far.text (ring_line ring view) held now was mid is refl so_far.carries more;
    joined = goes_on;
  }

  pub ring_cut : (is : Told) (first between last : ℕ) → between ≡ first → IsCutOff (held ++ ring_line ring view) mid is between last → IsCutOff (before ++ ring_lines 0 rings) was is first last
  ring_cut is first between last same cut =
      cut_more (before ++ ring_lines 0 rings) so_far.text (ring_line ring view) (ring_lines (ring + 1) (drop (ring + 1) rings)) held was mid is first between last goes_on so_far.carries same cut

-- all of them are
pub all_carried : (before : List ℕ) (rings : List RingState) (ring : ℕ) (was is : Told) (held : List ℕ) → length rings ≤ ring → RingsCarried before rings ring was is held → Carries (before ++ ring_lines 0 rings) was is held
all_carried before rings ring was is held past so_far =
    let none : drop ring rings ≡ [] = drop_all ring rings past in
    subst (λ (text : List ℕ). Carries text was is held) (sym (so_far.joined ∙ ap (λ (rs : List RingState). so_far.text ++ ring_lines ring rs) none ∙ append-nil so_far.text)) so_far.carries
