use Rattle.std.proofs.Common.{rules, ◌≡◌, List, [], ◌∷◌, ◌++◌, length, refl, sym, ap, subst, ◌∙◌, append_assoc, arith}
use Rattle.std.specs.List.{AllZip}
use Rattle.std.proofs.lemmas.List.{append-nil, nil_from_length}
use Rattle.log_session.specs.Writers.{WriterView}
use Rattle.log_session.specs.Starts.{ShareRings}
use Rattle.log_session.specs.Settling.{IsRejoined, AllZip3}
use Rattle.log_session.proofs.Rings.{AllZip3-snoc, zip_head, zip_ends, zip_goes_on, sum_more, sum_less}
use Rattle.arg_records.proofs.lemmas.Walks.{walked, walked_all, one_less}
use Rattle.log_session.proofs.settling.settle.Goals as goal
use Rattle.log_session.proofs.settling.settle.Goals.{in-None, in-Some+in_default}

pub loop-writer-init : goal.loop-writer-init
loop-writer-init g c =
    let writers = c.into_iter-writer-iterator.ensures.into_iter_gives in
    let ends = c.into_iter-ends.ensures.rest ∙ c.into_ends.ensures in
    let shared : AllZip (λ (writer : WriterView g.row.S-In.Denot) (end : g.row.S-Out.Denot). g.S.In.StageIn.pair writer.end ≡ g.S.Out.StageOut.pair end) c.into_iter-writer-iterator.result.rest.items c.into_iter-ends.result.rest.items =
    subst (λ (lists : List (WriterView g.row.S-In.Denot) × List g.row.S-Out.Denot). AllZip (λ (writer : WriterView g.row.S-In.Denot) (end : g.row.S-Out.Denot). g.S.In.StageIn.pair writer.end ≡ g.S.Out.StageOut.pair end) lists.0 lists.1) (λ i. (sym writers.0 i, sym ends i)) c.requires.rings in (
      [],
      [],
      [],
      writers.0,
      ends,
      shared,
      sym (append-nil _),
      tt,
      refl,
      (let e = ap length writers.0 in let r = c.requires.room in search rules),
      (let e = writers.0 in let r = c.requires.few in search rules),
      (let e = ap length writers.0 in let v = c.args.writers.ok in omega (arith, e, v.0, writers.1)),
      (let e = ap length c.into_iter-ends.ensures.rest in let v = c.into_ends.result.ok in omega (arith, e, v.0, c.into_iter-ends.ensures.len)),
    )

pub loop-writer-preserved : goal.loop-writer-preserved
loop-writer-preserved g c =
    let (seen, ends, left, writers_are, ends_are, shared, into_is, rejoined, taken, room, few, long, ends_long) = c.loop-writer.invariant in
    let more = c.rejoin-taken.ensures.more in
    let next = c.in-Some.ensures.steps in
    let next_end = c.in-Some-next.ensures.items in (
      seen ++ c.in-Some.writer ∷ [],
      ends ++ c.in-Some-next.end ∷ [],
      left ++ more.left ∷ [],
      walked seen _ _ _ c.in-Some.writer writers_are next.0,
      walked ends _ _ _ c.in-Some-next.end ends_are next_end,
      (zip_head _ _ _ _ _ _ _ next.0 next_end shared).1,
      more.joined ∙ ap (λ (list : List g.row.S-Done.Denot). list ++ more.left ∷ []) into_is ∙ append_assoc _ left (more.left ∷ []),
      AllZip3-snoc _ seen ends left _ _ _ rejoined more.rejoined,
      sum_more _ left more.left _ _ taken more.taken_is,
      omega (arith, ap length next.0, room, c.rejoin-taken.ensures.room.0, c.rejoin-taken.ensures.room.1),
      sum_less _ _ _ c.in-Some.writer c.loop-writer.taken c.rejoin-taken.result _ next.0 c.rejoin-taken.ensures.few few,
      one_less _ _ c.in-Some.writer _ _ long next.0 next.1,
      one_less _ _ c.in-Some-next.end _ _ ends_long c.in-Some-next.ensures.cases.0 c.in-Some-next.ensures.cases.1,
    )

pub returns : goal.returns
returns g c =
    let (seen, ends, left, writers_are, ends_are, shared, into_is, rejoined, taken, room, few, long, ends_long) = c.loop-writer.invariant in
    elim c.match-next.branch [
      | in-None w ↦
          let none : length c.loop-writer.writer-iterator.rest.items ≡ 0 = long ∙ w.in-None.ensures.steps.0 in
          let no_end : length c.loop-writer.ends.rest.items ≡ 0 = ap length (zip_ends _ _ _ none shared) in (
            left,
            into_is,
            subst (λ (lists : List (WriterView g.row.S-In.Denot) × List g.row.S-Out.Denot). AllZip3 (IsRejoined g.S.In.StageIn.sent g.S.In.StageIn.closed g.S.Out.StageOut.got g.S.Out.StageOut.ended g.S.Done.StageDone.sent g.S.Done.StageDone.got g.S.Done.StageDone.closed g.S.Done.StageDone.ended) lists.0 lists.1 left)
                (λ i. (walked_all seen _ _ writers_are none i, walked_all ends _ _ ends_are no_end i)) rejoined,
            taken,
          )
      | in-Some+in_default w ↦
          let none : length c.loop-writer.ends.rest.items ≡ 0 = ends_long ∙ w.in_default.ensures.cases.0 in
          let nil = nil_from_length c.loop-writer.ends.rest.items none in
          absurd (zip_goes_on _ _ _ w.in-Some.writer w.in-Some.ensures.steps.0
          (subst (λ (list : List g.row.S-Out.Denot). ShareRings g.S.In.StageIn.pair g.S.Out.StageOut.pair c.loop-writer.writer-iterator.rest.items list) nil shared))
    ]
