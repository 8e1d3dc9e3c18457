-- What is held, when a call was made.
use Rattle.std.proofs.Common.{◌≡◌, ◌⊎◌, ◌↔◌, ℕ, List, refl, sym, ap, subst, ◌∙◌, inl, inr, ⊎_elim, Ok, Err, IsErrOf}
use Rattle.std.specs.Prelude.{Option, None, Some, MatchOption, false, is_some, Box}
use Rattle.std.specs.Global.{Global}
use Rattle.log_ends.specs.declared.end.End.{End}
use Rattle.log_ends.specs.declared.end.End.TheVariants as ends
use Rattle.log_ends.specs.declared.session.SessionEnd.{SessionEnd}
use Rattle.log_ends.specs.declared.consumer.ConsumerEnd.{ConsumerEnd}
use Rattle.log_ends.specs.declared.setup.Setup.{Setup}
use Rattle.log_ends.specs.declared.opening.OpenFault.{OpenFault}
use Rattle.log_ends.specs.declared.opening.OpenFault.TheVariants as opens
use Rattle.log_dictionary.specs.declared.message.Message.{Message}
use Rattle.trace_text.specs.Dictionaries.{DictionaryText}
use Rattle.log_ends.specs.Openings.{IsSetupInRange, IsTextRefusedAt, IsOpened}
use Rattle.log_ends.specs.Slots.{end_in, OnEnd, OpensInto}

-- the end that a slot holds, by way of its box
pub held : (slot : Option (Box End Global)) (boxed : Box End Global) (lent end : End) → Some boxed ≡ slot → lent ≡ boxed.value → lent ≡ end → end_in slot ≡ Some end
held slot boxed lent end is value same = sym (ap end_in is) ∙ ap Some (sym value ∙ same)

-- an end of the kind was held, and the step was made
pub on_end : {A : Type 0} (make : A → End) (held_in : Option End → Option A) (before after : Option End) (old new : A) (Step : A → A → Type 0) (Other : Type 0)
    → held_in before ≡ Some old → after ≡ Some (make new) → Step old new → OnEnd make held_in before after Step Other
on_end {A} make held_in before after old new Step Other was is step =
    subst (λ (o : Option A). MatchOption o ((after ≡ before) × Other) (λ old. (new : A) × (after ≡ Some (make new)) × Step old new)) (sym was) (new, is, step)

-- nothing is held where there is nothing
pub none_in : (slot : Option (Box End Global)) → false ≡ is_some slot → end_in slot ≡ None
none_in None is = refl
none_in (Some boxed) is = absurd (cc is)

-- none was put, as the opening was refused
pub opens_not : (text : List ℕ) (setup : Setup) (fault : OpenFault) (session consumer : Option End)
    → (IsErrOf {T = SessionEnd × ConsumerEnd} {E = OpenFault} (Err fault) opens.OutOfRange ↔ (¬ (IsSetupInRange setup)))
    → ((line : ℕ) → IsErrOf {T = SessionEnd × ConsumerEnd} {E = OpenFault} (Err fault) (opens.BadDictionary line) → IsTextRefusedAt text line)
    → (IsSetupInRange setup → (line : ℕ) → IsTextRefusedAt text line → (IsErrOf {T = SessionEnd × ConsumerEnd} {E = OpenFault} (Err fault) (opens.BadDictionary line)) ⊎ (IsErrOf {T = SessionEnd × ConsumerEnd} {E = OpenFault} (Err fault) opens.NoMemory))
    → session ≡ None → consumer ≡ None → OpensInto text setup (Err fault) session consumer
opens_not text setup fault session consumer range refused only none_there none_here = record {
  opened = tt;
  none = (none_there, none_here);
  out_of_range = (λ is. range.0 (cc is), λ out. cc (range.1 out));
  refused = λ line is. refused line (cc is);
  only = λ fits line bad. ⊎_elim (λ is. inl (cc is)) (λ is. inr (cc is)) (only fits line bad);
}

-- none was put, as there was no memory
pub opens_short : (text : List ℕ) (setup : Setup) (ends : SessionEnd × ConsumerEnd) (session consumer : Option End)
    → (IsErrOf {T = SessionEnd × ConsumerEnd} {E = OpenFault} (Ok ends) opens.OutOfRange ↔ (¬ (IsSetupInRange setup)))
    → session ≡ None → consumer ≡ None → OpensInto text setup (Err opens.NoMemory) session consumer
opens_short text setup ends session consumer range none_there none_here = record {
  opened = tt;
  none = (none_there, none_here);
  out_of_range = (λ is. absurd (cc is), λ out. absurd (cc (range.1 out)));
  refused = λ line is. absurd (cc is);
  only = λ fits line bad. inr refl;
}

-- both were put
pub opens_both : (text : List ℕ) (setup : Setup) (both : SessionEnd × ConsumerEnd) (session consumer : Option End)
    → ((messages : List Message) × DictionaryText text messages × IsOpened messages setup both.0 both.1)
    → (IsErrOf {T = SessionEnd × ConsumerEnd} {E = OpenFault} (Ok both) opens.OutOfRange ↔ (¬ (IsSetupInRange setup)))
    → (IsSetupInRange setup → (line : ℕ) → IsTextRefusedAt text line → (IsErrOf {T = SessionEnd × ConsumerEnd} {E = OpenFault} (Ok both) (opens.BadDictionary line)) ⊎ (IsErrOf {T = SessionEnd × ConsumerEnd} {E = OpenFault} (Ok both) opens.NoMemory))
    → session ≡ Some (ends.Session both.0) → consumer ≡ Some (ends.Consumer both.1) → OpensInto text setup (Ok tt) session consumer
opens_both text setup both session consumer opened range only ours theirs = record {
  opened = (opened.0, both.0, both.1, ours, theirs, opened.1, opened.2);
  none = tt;
  out_of_range = (λ is. absurd (cc is), λ out. absurd (cc (range.1 out)));
  refused = λ line is. absurd (cc is);
  only = λ fits line bad. ⊎_elim (λ is. absurd (cc is)) (λ is. absurd (cc is)) (only fits line bad);
}
