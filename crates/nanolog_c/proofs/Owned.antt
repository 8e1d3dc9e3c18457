-- What a handle owns, and the word that it is for the machine.
use mathlib.Core.Path.{◌≡◌, refl, subst}
use Prim.Native.Nat.{ℕ}
use mathlib.Core.List.{List, [], ◌∷◌, ◌++◌}
use seplogic.Ra.Ura.{Ura}
use mir.Syntax.{impl, tnil, dnil}
use mir.Raw.{raw as bare}
use mir.Val.{Val, vstruct, vcons, vnil, of_list}
use base.Fraction.{full_share}
use base.Logic.{ent, never, never_e, id⊢, via, snd∗, guard, guard_i}
use denote.Signature.{Slot, plain}
use types.Logic.{Logic, sem}
use types.Kit.{Item, Goal, Seq, Step, step, ‵, given, ◌$◌, drop, use1, learn, fsplit, fjoin, fpick, fpack, feq_i, feq_l}
use base.Fml.{ftrue}
use contract.Monad.{fact_use}
use denote.RattleType.{Valss}
use denote.Memory.{lone}
use denote.RawPtr.{Ptr, RawPtr, block_ptr, null_ptr, ptr_val, lies_at, Testable}
use denote.Steps.{nothing}
use denote.Struct.Struct.{within}
use denote.Struct.Owning.{shape}
use Rattle.std.specs.Prelude.{Option, Some, None}
use Rattle.std.proofs.BoxSteps.Form.{Bx}
use Rattle.std.proofs.GlobalToken.{dealloc_token-Testable}
use Rattle.std.specs.contracts.alloc.Global as Heap
use Rattle.std.specs.contracts.impls.GlobalAllocator.TheImpl.{ghosts, dict}
use Rattle.std.proofs.alloc.Global.TheLaws as heap
use Rattle.log_ends.specs.contracts.end.End as End
use Rattle.log_ends.proofs.end.End.TheLaws as end
use Rattle.box_parts.specs.contracts.Parts as Parts
use Rattle.nanolog_c.specs.Handles.{end_owns, handle_owns, heap as the_heap}
use Rattle.nanolog_c.specs.contracts.handle.Handle as Handle

abbrev pub E : Bx
E = record { row = End.the_row; laws = end.the_row_laws; al = record { row = Heap.the_row; laws = heap.the_row_laws; g = ghosts; d = dict; drops = impl [] tnil dnil } }

abbrev pub FromParts : Slot 0
FromParts = plain (λ _. Parts.the_row End.the_row Heap.the_row ghosts)

abbrev pub FromHandle : Slot 0
FromHandle = plain (λ _. Handle.the_row)

abbrev pub FromGlobal : Slot 0
FromGlobal = plain (λ _. Heap.the_row)

-- the word of a handle
abbrev pub word_of : Ptr → Val
word_of p = vstruct (vcons (ptr_val p) vnil)

module _ {M : Type 1} {𝓤 : Ura M} (𝓛 : Logic 𝓤) where
  -- the box of an end lies where a pointer may be compared with null
  pub tested : (p : Ptr) (x : (End.the_row).Denot) → ent 𝓤 (sem 𝓛 (end_owns p x)) (guard 𝓤 (Testable p) (sem 𝓛 (end_owns p x)))
  tested p x =
      fact_use 𝓤 (Testable p) (via 𝓤 _ (snd∗ 𝓤 (sem 𝓛 (lies_at End.the_row full_share p x)) (sem 𝓛 (ghosts.dealloc_token the_heap (bare (lone (End.the_row).mir)) p)))
      (dealloc_token-Testable 𝓛 the_heap (bare (lone (End.the_row).mir)) p)) (guard_i 𝓤 (Testable p) (sem 𝓛 (end_owns p x)))

module _ {M : Type 1} {𝓤 : Ura M} {𝓛 : Logic 𝓤} {K : Type 0} {Γ : List (Item 𝓤)} {G : Goal 𝓤 𝓛.H} where
  -- it is null and owns nothing, or it owns an end
  either_owned : K → (p : Ptr) (held : Option (End.the_row).Denot)
      → (p ≡ null_ptr → held ≡ None → Seq K 𝓛 Γ G)
      → ((b o : ℕ) (x : (End.the_row).Denot) → p ≡ block_ptr b o → held ≡ Some x → Seq K 𝓛 (‵ (end_owns (block_ptr b o) x) ∷ Γ) G)
      → Seq K 𝓛 (‵ (handle_owns p held) ∷ Γ) G
  either_owned t null_ptr None none some = drop t $ none refl refl
  either_owned t null_ptr (Some x) none some = use1 𝓛 (given ⊥ (‵ ftrue)) (via 𝓤 (never 𝓤) (id⊢ 𝓤 (never 𝓤)) (never_e 𝓤 _)) $ learn t (λ z. absurd z)
  either_owned t (block_ptr b o) None none some = use1 𝓛 (given ⊥ (‵ ftrue)) (via 𝓤 (never 𝓤) (id⊢ 𝓤 (never 𝓤)) (never_e 𝓤 _)) $ learn t (λ z. absurd z)
  either_owned t (block_ptr b o) (Some x) none some = some b o x refl refl

  pub handle_in : K → (d : (Handle.the_row).Denot)
      → Step K 𝓛 (‵ ((Handle.the_row).own_val d (word_of d.ptr ∷ [])) ∷ Γ) G (‵ (handle_owns d.ptr d.value) ∷ Γ) G
  handle_in t d = step (λ s.
      nothing t $ feq_i t (List Val) (ptr_val d.ptr ∷ []) (ptr_val d.ptr ∷ []) refl $ fjoin t $
      feq_i t (List Val) (word_of d.ptr ∷ []) (word_of d.ptr ∷ []) refl $ fjoin t $
      fpack t (Valss (RawPtr ∷ [])) (within (shape Handle.the_type) (d.ptr, tt) (word_of d.ptr ∷ [])) (ptr_val d.ptr ∷ [], tt) $ fjoin t $ s)

  pub handle_out : K → (d : (Handle.the_row).Denot) (vs : List Val)
      → (d.value ≡ None → vs ≡ word_of null_ptr ∷ [] → Seq K 𝓛 Γ G)
      → ((b o : ℕ) (x : (End.the_row).Denot) → d.value ≡ Some x → vs ≡ word_of (block_ptr b o) ∷ [] → Seq K 𝓛 (‵ (end_owns (block_ptr b o) x) ∷ Γ) G)
      → Seq K 𝓛 (‵ ((Handle.the_row).own_val d vs) ∷ Γ) G
  handle_out t d vs none some =
      fsplit t $ fpick t (λ vss. fsplit t $ feq_l t (λ ev. fsplit t $ feq_l t (λ ep. drop t $
      let is : (p : Ptr) → d.ptr ≡ p → vs ≡ word_of p ∷ [] = λ p e.
      subst (λ (q : Ptr). vs ≡ vstruct (of_list (ptr_val q ∷ [])) ∷ []) e (subst (λ (ps : List Val). vs ≡ vstruct (of_list (ps ++ [])) ∷ []) ep ev) in
      either_owned t d.ptr d.value (λ e nothing_held. none nothing_held (is null_ptr e)) (λ b o x e held. some b o x held (is (block_ptr b o) e)))))
