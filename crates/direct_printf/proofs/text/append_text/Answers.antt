use Rattle.std.proofs.Common.{◌≡◌, ◌+◌, ◌≤◌, [], ◌++◌, length, take, vec_len, sym, ◌∙◌, ap, arith, rules}
use Rattle.std.proofs.lemmas.List.{append-nil}
use Rattle.log_dictionary.proofs.lemmas.Appending.{kept}
use Rattle.direct_printf.proofs.Rest.{Rest-start, Rest-end, Rest-at, Rest-from, Rest-literal, Rest-percent, Rest-field_args, own_inside, own_fitting, appended}
use Rattle.direct_printf.proofs.text.append_text.Goals as goal
use Rattle.direct_printf.proofs.text.append_text.Goals.{in-Literal+in_ok-extend_from_slice-in-Literal, in-Percent+in_ok-push-in-Percent, in-Field+in_ok-append_field-in-Field}

pub loop-piece-init : goal.loop-piece-init
loop-piece-init g c =
    ([], sym (append-nil c.args.out.now.items), Rest-start c.args.format.now _ _ _ c.bytes-bytes.ensures.bytes c.pieces-piece-items.ensures.pieces c.bytes-bytes.ensures.spelled c.requires)

pub overflow_add-end : goal.overflow_add-end
overflow_add-end g c =
    let inside : c.loop-piece.next + c.count_arguments.result ≤ length c.args.args.now = own_inside g.A.Argument.value _ _ _ c.args.args.now c.loop-piece.next _ _ _ c.count_arguments.ensures (Rest-at _ _ _ _ _ _ _ _ c.loop-piece-test.true c.in-Field.is c.loop-piece.invariant.2) in
    search rules

pub slice_bounds-append_field-end : goal.slice_bounds-append_field-end
slice_bounds-append_field-end g c =
    let inside : c.loop-piece.next + c.count_arguments.result ≤ length c.args.args.now = own_inside g.A.Argument.value _ _ _ c.args.args.now c.loop-piece.next _ _ _ c.count_arguments.ensures (Rest-at _ _ _ _ _ _ _ _ c.loop-piece-test.true c.in-Field.is c.loop-piece.invariant.2) in
    search rules

pub append_field-requires : goal.append_field-requires
append_field-requires g c =
    own_fitting g.A.Argument.value _ _ _ c.args.args.now c.loop-piece.next _ _ _ c.count_arguments.ensures (Rest-at _ _ _ _ _ _ _ _ c.loop-piece-test.true c.in-Field.is c.loop-piece.invariant.2)

pub returns-in_err-append_field-in-Field-clause-err : goal.returns-in_err-append_field-in-Field-clause-err
returns-in_err-append_field-in-Field-clause-err g c =
    let stands : take (vec_len c.args.out.now) c.append_field.new.out.items ≡ c.args.out.now.items =
    kept _ _ _ _ _ _ c.args.out.now.ok.0 c.loop-piece.out.ok.0 c.loop-piece.invariant.1 c.in_err-append_field-in-Field.ensures.err in
    search rules

pub loop-piece-preserved : goal.loop-piece-preserved
loop-piece-preserved g c =
    let inv = c.loop-piece.invariant in
    elim c.match-piece.branch [
      | in-Literal+in_ok-extend_from_slice-in-Literal w ↦
          let same : c.match-piece.out.items ≡ w.extend_from_slice.new.self.items = cc in (
            _,
            same ∙ appended _ _ _ _ _ inv.1 w.in_ok-extend_from_slice-in-Literal.ensures.items,
            Rest-from _ _ _ _ _ _ _ w.next-is (Rest-literal _ _ _ _ _ _ _ (Rest-at _ _ _ _ _ _ _ _ c.loop-piece-test.true w.in-Literal.is inv.2)),
          )
      | in-Percent+in_ok-push-in-Percent w ↦
          let same : c.match-piece.out.items ≡ w.push.new.self.items = cc in (
            _,
            same ∙ appended _ _ _ _ _ inv.1 w.in_ok-push-in-Percent.ensures.items,
            Rest-from _ _ _ _ _ _ _ w.next-is (Rest-percent _ _ _ _ _ (Rest-at _ _ _ _ _ _ _ _ c.loop-piece-test.true w.in-Percent.is inv.2)),
          )
      | in-Field+in_ok-append_field-in-Field w ↦
          let same : c.match-piece.out.items ≡ w.append_field.new.out.items = cc in (
            _,
            same ∙ appended _ _ _ _ _ inv.1 w.in_ok-append_field-in-Field.ensures.ok,
            Rest-from _ _ _ _ _ _ _ w.next-is (Rest-field_args g.A.Argument.value _ _ _ c.args.args.now c.loop-piece.next _ _ _ w.count_arguments.ensures (Rest-at _ _ _ _ _ _ _ _ c.loop-piece-test.true w.in-Field.is inv.2)),
          )
    ]

pub returns-clause-ok : goal.returns-clause-ok
returns-clause-ok g c =
    c.loop-piece.invariant.1 ∙ ap (λ front. c.args.out.now.items ++ front) (Rest-end _ _ c.loop-piece.piece-index _ _ _ (omega arith) c.loop-piece.invariant.2)
