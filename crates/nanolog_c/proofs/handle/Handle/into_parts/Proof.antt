-- `into_parts` compares the pointer with null, and puts it beside the allocator; what the handle owns goes with it.
use mathlib.Core.Path.{refl, sym, subst}
use mathlib.Core.List.{List, [], ◌∷◌, ◌++◌}
use lib.Dec.{lit<}
use seplogic.Ra.Ura.{Ura}
use mir.Val.{Val, vcons, vnil}
use base.Logic.{SProp, ent, emp, id⊢}
use base.Fml.{ftrue, fsep}
use prog.Memory.{Memory}
use prog.Routine.{Routine}
use prog.Wp.{WpFn, Tables}
use types.Logic.{Logic}
use contract.Monad.{Fun}
use contract.Running.{tables, tables_of}
use sound.WpLaws.{WpFn-mono}
use types.Kit.{Item, ‵, raw, given, at_ret, ◌⊛◌, ◌$◌, ◌∵◌, !, qed, by, move, drop, use0, use1, join, learn, split, fsplit, fjoin, suffices, done}
use types.Part.{whole, sub, agg}
use types.Match.{live}
use types.Run.{stop, fld, no_more, and_then, lit, of_opd, bin, first, branches, skips, exec, returns, returns_within, enter}
use types.ByLocal.{alloc_all, pass_all, free_all, look_at, get, get_in, sets, env}
use denote.Exit.{yes}
use denote.RawPtr.{Testable, block_ptr, null_ptr, tests_null}
use denote.Param.{layout}
use denote.RattleType.{RattleType}
use denote.Signature.{type_at}
use denote.Steps.{nothing}
use denote.Triple.Spec.{triple_of}
use denote.Triple.Table.{entered}
use denote.Triple.Walked.{says, Stays, stay_dropped, walk_of, ends_at, Goes-dropped, walk_Meets}
use Rattle.std.specs.Prelude.{None, Some}
use Rattle.core.proofs.alloc.Shapes.{after}
use Rattle.core.proofs.cell.Inside.{Good}
use Rattle.core.proofs.option.Made.{Some-of, none_of}
use Rattle.std.proofs.alloc.Calls.{token, handle_tells}
use Rattle.std.specs.Box.Ownership.{box_owns}
use Rattle.std.proofs.BoxSteps.Form.{D, R, word, box_typed}
use Rattle.std.proofs.BoxSteps.Steps.{box_in}
use Rattle.std.specs.contracts.alloc.Global as Heap
use Rattle.std.specs.contracts.impls.GlobalAllocator.TheImpl.{ghosts}
use Rattle.std_alloc.proofs.ResultValues.{and_tt}
use Rattle.log_ends.specs.contracts.end.End as End
use Rattle.box_parts.specs.contracts.Parts as Parts
use Rattle.nanolog_c.specs.Handles.{end_owns}
use Rattle.nanolog_c.proofs.Owned.{E, FromHandle as From, FromGlobal as OfHeap, word_of, tested, handle_out}
use Rattle.nanolog_c.specs.contracts.handle.Handle as Handle
use Rattle.nanolog_c.specs.contracts.handle.Handle.into_parts as F
use Rattle.nanolog_c.specs.contracts.handle.Handle.into_parts.Key.{name as #self}
use Rattle.nanolog_c.proofs.handle.Handle.into_parts.Statement as stated
use Rattle.nanolog_c.proofs.handle.Handle.into_parts.Code as code

abbrev stayed : Stays (F.ended).signature.params (F.ended).kept
stayed = (stay_dropped From yes, (stay_dropped OfHeap yes, tt))

abbrev Row : RattleType
Row = Parts.the_row End.the_row Heap.the_row ghosts

module _ {M : Type 1} {𝓤 : Ura M} (𝓛 : Logic 𝓤) (at_mem : Memory → SProp 𝓤) (run : Routine → Fun 𝓤) (𝓣 : Tables 𝓤 𝓛.H) where
  open 𝓛 use {H}

  walk : (z : (walk_of 𝓛 F.ended stayed (F.clauses 𝓛 at_mem run)).Ghost)
      → ent 𝓤 ((walk_of 𝓛 F.ended stayed (F.clauses 𝓛 at_mem run)).pre z) (WpFn 𝓤 H 𝓣.C 𝓣.Λ code.function (z.0.4.0 ++ (z.0.4.1.0 ++ [])) ((walk_of 𝓛 F.ended stayed (F.clauses 𝓛 at_mem run)).post z))
  walk z =
      let Post = (walk_of 𝓛 F.ended stayed (F.clauses 𝓛 at_mem run)).post z in
      let self = z.0.3.0 in
      let alloc = z.0.3.1.0 in
      let To : RattleType = type_at (F.signature).result tt in
      qed 𝓛 ((‵ ftrue ⊛ ‵ (fsep ((Handle.the_row).own_val self z.0.4.0) (fsep (E.al.row.own_val alloc z.0.4.1.0) ftrue))) ∷ raw (emp 𝓤) ∷ []) ∵ split ! $ drop ! $ fsplit ! $
      handle_out ! self z.0.4.0
      (λ held ws. fsplit ! $ handle_tells E.al ! alloc z.0.4.1.0 (λ hv ea fa. drop ! $ drop ! $
      by ! (subst (λ (us : List Val). ent 𝓤 (types.Kit.⋆ 𝓛 []) (WpFn 𝓤 H 𝓣.C 𝓣.Λ code.function (us ++ (z.0.4.1.0 ++ [])) Post)) (sym ws)
      (subst (λ (us : List Val). ent 𝓤 (types.Kit.⋆ 𝓛 []) (WpFn 𝓤 H 𝓣.C 𝓣.Λ code.function (word_of null_ptr ∷ (us ++ [])) Post)) (sym ea)
      (qed 𝓛 [] ∵ enter ! 𝓣.C 𝓣.Λ code.function (word_of null_ptr ∷ hv ∷ []) _ $ alloc_all ! (λ ls. pass_all ! refl ((tt, (record { fits = lit< tt }, tt)), (fa, tt)) $
      sets ! (of_opd ! (get_in ! (fld ! refl (stop !)) (sub ! 0 refl (whole !)))) refl (tt, record { fits = lit< tt }) $ sets ! (bin ! (get ! refl) (lit ! tt) tt) refl (tt, tt) $
      first ! $ branches ! (get ! refl)
      (λ _. sets ! (agg ! (and_then ! (lit ! tt) (no_more !))) refl (tt, (record { fits = lit< tt }, tt)) $ returns_within ! Post refl (look_at ! 0 refl) $ free_all ! refl $
      use0 𝓛 (‵ (To.own_val None (live 0 vnil ∷ []))) (none_of 𝓛 Row) $
      suffices ! _ (ends_at 𝓛 F.ended stayed (F.clauses 𝓛 at_mem run) z (live 0 vnil) None (tt, (tt, tt)) (tt, (tt, tt))) $ says ! held $
      nothing ! $ nothing ! $ nothing ! $ fjoin ! $ move ! (1 ∷ 0 ∷ []) $ fjoin ! $ join ! $ nothing ! $ join ! $ done !)
      (λ wrong. absurd wrong)))))))
      (λ b o x held ws.
      use1 𝓛 (given (Testable (block_ptr b o)) (‵ (end_owns (block_ptr b o) x))) (tested 𝓛 (block_ptr b o) x) $ learn ! (λ may.
      move ! (1 ∷ []) $ fsplit ! $ handle_tells E.al ! alloc z.0.4.1.0 (λ hv ea fa. move ! (2 ∷ []) $ use1 𝓛 (‵ (box_owns (token E.al alloc) (R E) (block_ptr b o) x)) (id⊢ 𝓤 _) $ fsplit ! $
      let v : D E = record { ptr = block_ptr b o; alloc = alloc; value = x } in
      let made : Row.Denot = record { ptr = block_ptr b o; alloc = alloc; value = x } in
      box_in E ! v b o x refl refl $ use1 𝓛 (‵ (Row.own_val made (word E hv b o ∷ []))) (id⊢ 𝓤 _) $ move ! (1 ∷ 2 ∷ []) $ drop ! $ drop ! $
      let Γ : List (Item 𝓤) = ‵ (Row.own_val made (word E hv b o ∷ [])) ∷ [] in
      by ! (subst (λ (us : List Val). ent 𝓤 (types.Kit.⋆ 𝓛 Γ) (WpFn 𝓤 H 𝓣.C 𝓣.Λ code.function (us ++ (z.0.4.1.0 ++ [])) Post)) (sym ws)
      (subst (λ (us : List Val). ent 𝓤 (types.Kit.⋆ 𝓛 Γ) (WpFn 𝓤 H 𝓣.C 𝓣.Λ code.function (word_of (block_ptr b o) ∷ (us ++ [])) Post)) (sym ea)
      (qed 𝓛 Γ ∵ enter ! 𝓣.C 𝓣.Λ code.function (word_of (block_ptr b o) ∷ hv ∷ []) _ $ alloc_all ! (λ ls. pass_all ! refl ((tt, (tt, tt)), (fa, tt)) $
      sets ! (of_opd ! (get_in ! (fld ! refl (stop !)) (sub ! 0 refl (whole !)))) refl (tt, tt) $ sets ! (bin ! (get ! refl) (lit ! tt) (tests_null (block_ptr b o) may)) refl (tt, tt) $
      first ! $ branches ! (get ! refl) (λ wrong. absurd wrong) (λ _. skips ! $ exec ! 𝓣.C 𝓣.Λ (env (code.function).locals ls) (after 3 (code.function).body) (at_ret (env (code.function).locals ls) Post) $
      let full = word E hv b o in let typed = box_typed E hv b o fa in let w : Val = live 1 (vcons full vnil) in
      let good : Good (layout To) w = (and_tt _ typed.0, (record { fits = lit< tt }, (typed.1, tt))) in
      sets ! (of_opd ! (get ! refl)) refl (tt, tt) $ sets ! (agg ! (and_then ! (get ! refl) (and_then ! (get ! refl) (no_more !)))) refl typed $
      sets ! (agg ! (and_then ! (lit ! tt) (and_then ! (get ! refl) (no_more !)))) refl good $ returns ! (look_at ! 0 refl) $ free_all ! refl $
      use1 𝓛 (‵ (To.own_val (Some made) (w ∷ []))) (Some-of 𝓛 Row made full) $
      suffices ! _ (ends_at 𝓛 F.ended stayed (F.clauses 𝓛 at_mem run) z w (Some made) (tt, (tt, tt)) (tt, (tt, tt))) $ says ! held $
      nothing ! $ nothing ! $ nothing ! $ fjoin ! $ move ! (1 ∷ 0 ∷ []) $ fjoin ! $ join ! $ nothing ! $ join ! $ done !))))))))

pub into_parts_spec : {M : Type 1} → stated.statement M
unfolding tables_of
into_parts_spec 𝓤 𝓛 𝓜 𝓡 wired =
    let 𝓣 : Tables 𝓤 𝓛.H = tables_of 𝓤 𝓛.H 𝓜 (tables 𝓤 𝓛.H 𝓜 𝓡 𝓡.env) in
    entered 𝓤 𝓛.H (triple_of 𝓛 F.signature (F.spec 𝓛 𝓜.mem 𝓡.returns)) 𝓣.C 𝓣.Λ #self code.function (code.unfolded 𝓤 𝓛.H 𝓜 𝓡 wired)
    (walk_Meets 𝓛 F.ended stayed (Goes-dropped 𝓛 0 From yes (λ κs x f. refl), (Goes-dropped 𝓛 0 OfHeap yes (λ κs x f. refl), tt)) (F.clauses 𝓛 𝓜.mem 𝓡.returns) (WpFn 𝓤 𝓛.H 𝓣.C 𝓣.Λ code.function) (WpFn-mono 𝓤 𝓛.H 𝓛.laws 𝓣 code.function)
    (walk 𝓛 𝓜.mem 𝓡.returns 𝓣))
