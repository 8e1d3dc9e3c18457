-- The calls of a run, written line by line.
use Rattle.std.proofs.Common.{◌≡◌, ℕ, ◌+◌, ◌<◌, ◌≤◌, List, [], ◌++◌, length, get_or, drop, Option, Some, Result, Ok, Err, refl, sym, ap, subst, ◌∙◌, append_assoc}
use Rattle.std.specs.Prelude.{codes}
use Rattle.std.specs.List.{flat_map, filter_map, cons_option}
use Rattle.std.specs.Result.{IsErrAnd}
use Rattle.std.proofs.lemmas.List.{append-nil, at_drop_more, drop_all}
use Rattle.nl_io.specs.Content.{Told}
use Rattle.nl_io.specs.TextWriters.{Carries, IsCutOff}
use Rattle.nl_io.proofs.lemmas.TextWriters.{carries_held, carries_more, carries_front, front_more, cut_held, cut_more}
use Rattle.trace_text.specs.declared.order.CallPlace.{CallPlace}
use Rattle.trace_text.specs.declared.writing.WriteTraceFault.{WriteTraceFault}
use Rattle.trace_text.specs.declared.writing.WriteTraceFault.TheVariants.{Failed, NoMemory}
use Rattle.trace_text.specs.Recordings.{Recording}
use Rattle.trace_text.specs.Lines.{WriterCall}
use Rattle.trace_text.specs.Canonical.{call_text, made_at, front_text, Canonical}
use Rattle.trace_text.specs.Order.{places_in_order}
use Rattle.trace_text.specs.Writing.{CutOffBy, KeepsWriting, Writes}

-- the lines of the calls at the places
abbrev pub calls_text : Recording → List CallPlace → List ℕ
calls_text run places = flat_map call_text (filter_map (made_at run) places)

-- a text that goes on with the lines from a place on goes on with that of its call, and then with those from the next on
pub calls_more : (whole text : List ℕ) (run : Recording) (places : List CallPlace) (i : ℕ) (d : CallPlace) (made : WriterCall) → whole ≡ text ++ calls_text run (drop i places) → i < length places → Some made ≡ made_at run (get_or places i d)
    → whole ≡ text ++ call_text made ++ calls_text run (drop (i + 1) places)
calls_more whole text run places i d made joined within is =
    joined
    ∙ ap (λ (rest : List ℕ). text ++ rest) (
    at_drop_more (calls_text run) places i d within
    ∙ ap (λ (m : Option WriterCall). flat_map call_text (cons_option m (filter_map (made_at run) (drop (i + 1) places)))) (sym is)
    )
    ∙ sym (append_assoc text (call_text made) (calls_text run (drop (i + 1) places)))

-- a line that was made in an empty buffer
pub fresh_line : (bytes made buffer line : List ℕ) → bytes ≡ made → made ≡ buffer ++ line → buffer ≡ [] → bytes ≡ line
fresh_line bytes made buffer line same pushed empty = same ∙ pushed ∙ ap (λ (b : List ℕ). b ++ line) empty

-- where no place is left, the text is whole
pub calls_all : (whole text held : List ℕ) (was is : Told) (run : Recording) (places : List CallPlace) (i : ℕ) → whole ≡ text ++ calls_text run (drop i places) → length places ≤ i → Carries text was is held → Carries whole was is held
calls_all whole text held was is run places i joined past carried =
    let all = joined ∙ ap (λ (ps : List CallPlace). text ++ calls_text run ps) (drop_all i places past) ∙ append-nil text in
    subst (λ (t : List ℕ). Carries t was is held) (sym all) carried

-- behind a text the bytes were cut off
pub cut_on : (whole text bytes more held : List ℕ) (was mid is : Told) (before now after : ℕ) (fault : WriteTraceFault) → whole ≡ text ++ bytes ++ more → Carries text was mid held → now ≡ before
    → CutOffBy (held ++ bytes) mid is now after fault → CutOffBy whole was is before after fault
cut_on whole text bytes more held was mid is before now after Failed joined carried same cut = cut_more whole text bytes more held was mid is before now after joined carried same cut
cut_on whole text bytes more held was mid is before now after NoMemory joined carried same cut = (front_more whole text bytes more held was mid is joined carried cut.0, cut.1 ∙ same)

-- behind a text memory was wanting
pub memory_wanted : (whole text more held : List ℕ) (was is : Told) (before after : ℕ) → whole ≡ text ++ more → Carries text was is held → after ≡ before → CutOffBy whole was is before after NoMemory
memory_wanted whole text more held was is before after joined carried same = (carries_front whole text more held was is joined carried, same)

-- a call answered this fault
pub goes_on_fault : (text held : List ℕ) (was is : Told) (before after : ℕ) (fault : WriteTraceFault) (result : Result (Unit {0}) WriteTraceFault) → IsErrAnd result (λ e. e ≡ fault)
    → CutOffBy text was is before after fault → KeepsWriting text was is before after held result
goes_on_fault text held was is before after fault (Ok x) same cut = absurd same
goes_on_fault text held was is before after fault (Err e) same cut = subst (CutOffBy text was is before after) (sym same) cut

pub writes_fault : (text : List ℕ) (was is : Told) (before after : ℕ) (fault : WriteTraceFault) (result : Result (Unit {0}) WriteTraceFault) → IsErrAnd result (λ e. e ≡ fault)
    → CutOffBy text was is before after fault → Writes text was is before after result
writes_fault text was is before after fault (Ok x) same cut = absurd same
writes_fault text was is before after fault (Err e) same cut = subst (CutOffBy text was is before after) (sym same) cut

-- ---- the parts of a text, one after the other

module _ (run : Recording) (was : Told) (before : ℕ) where
  abbrev front : List ℕ
  front = front_text run

  abbrev lines : List ℕ
  lines = calls_text run (places_in_order run)

  pub front_put : (start held left : List ℕ) (is : Told) → held ≡ [] → start ≡ front → Carries (held ++ start) was is left → Carries front was is left
  front_put start held left is none same put = carries_more front [] start held left was was is (sym same) (carries_held [] held was none) put

  pub front_cut : (start held : List ℕ) (is : Told) (after : ℕ) → held ≡ [] → start ≡ front → IsCutOff (held ++ start) was is before after → CutOffBy (Canonical run) was is before after Failed
  front_cut start held is after none same cut =
      cut_more (Canonical run) [] start (lines ++ codes "end\n") held was was is before before after
      (append_assoc front lines (codes "end\n") ∙ ap (λ (b : List ℕ). b ++ (lines ++ codes "end\n")) (sym same)) (carries_held [] held was none) refl cut

  pub calls_put : (places : List CallPlace) (held left : List ℕ) (mid is : Told) → places ≡ places_in_order run → Carries front was mid held → Carries (held ++ calls_text run places) mid is left → Carries (front ++ lines) was is left
  calls_put places held left mid is same carried put =
      carries_more (front ++ lines) front (calls_text run places) held left was mid is (ap (λ (ps : List CallPlace). front ++ calls_text run ps) (sym same)) carried put

  pub calls_cut : (places : List CallPlace) (held : List ℕ) (mid is : Told) (now after : ℕ) (fault : WriteTraceFault) → places ≡ places_in_order run → Carries front was mid held → now ≡ before
      → CutOffBy (held ++ calls_text run places) mid is now after fault → CutOffBy (Canonical run) was is before after fault
  calls_cut places held mid is now after fault same carried counted cut =
      cut_on (Canonical run) front (calls_text run places) (codes "end\n") held was mid is before now after fault
      (ap (λ (ps : List CallPlace). front ++ calls_text run ps ++ codes "end\n") (sym same)) carried counted cut

  pub end_put : (held left : List ℕ) (mid is : Told) → Carries (front ++ lines) was mid held → Carries (held ++ codes "end\n") mid is left → Carries (Canonical run) was is left
  end_put held left mid is carried put = carries_more (Canonical run) (front ++ lines) (codes "end\n") held left was mid is refl carried put

  pub end_cut : (held : List ℕ) (mid is : Told) (now after : ℕ) → Carries (front ++ lines) was mid held → now ≡ before → IsCutOff (held ++ codes "end\n") mid is now after → CutOffBy (Canonical run) was is before after Failed
  end_cut held mid is now after carried counted cut =
      cut_more (Canonical run) (front ++ lines) (codes "end\n") [] held was mid is before now after (sym (append-nil (Canonical run))) carried counted cut

  pub flush_cut : (held : List ℕ) (mid is : Told) (now after : ℕ) → Carries (Canonical run) was mid held → now ≡ before → IsCutOff held mid is now after → CutOffBy (Canonical run) was is before after Failed
  flush_cut held mid is now after carried counted cut =
      cut_held (Canonical run) (Canonical run) [] held was mid is before now after (sym (append-nil (Canonical run))) carried counted cut
