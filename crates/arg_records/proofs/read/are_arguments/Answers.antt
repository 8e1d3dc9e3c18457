use Rattle.std.proofs.Common.{ℕ, ◌+◌, List, [], ◌∷◌, length, drop, get_or, eqb, rules, sym, ap, subst, ◌∙◌, arith}
use Rattle.std.proofs.lemmas.Bool.{eqb-true}
use Rattle.std.proofs.lemmas.List.{drop_more, drop_all, nil_from_length}
use Rattle.printf_grammar.specs.declared.arg_type.ArgType.{ArgType}
use Rattle.printf_grammar.specs.declared.arg_type.ArgType.TheVariants.{Int}
use Rattle.arg_records.specs.Reading.{SpellsArguments}
use Rattle.arg_records.proofs.Reading.{first_spelled, one_more_spelled, others_spelled, none_spelled, none_left}
use Rattle.arg_records.proofs.read.are_arguments.Goals as goal

pub returns-in_default : goal.returns-in_default
returns-in_default c =
    let types = c.args.types.now in
    let place = c.loop-kind.kind-index in
    let rest = c.loop-kind.rest.now in (
      λ h. absurd (search rules),
      λ spelled.
          let left = c.loop-kind.invariant.1 spelled in
          let it = first_spelled (get_or types place Int) (drop (place + 1) types) left.0 rest (subst (λ (ts : List ArgType). SpellsArguments ts left.0 rest) (drop_more types place Int c.loop-kind-test.true) left.1) in
          absurd (c.in_default.ensures it.0 _ it.3),
    )

pub loop-kind-preserved : goal.loop-kind-preserved
loop-kind-preserved c =
    let types = c.args.types.now in
    let place = c.loop-kind.kind-index in
    let rest = c.loop-kind.rest.now in
    let back = c.in-Some.back.now in
    let begins = c.in-Some.ensures in
    let split = drop_more types place Int c.loop-kind-test.true in (
      λ more. c.loop-kind.invariant.0 (
        begins.0 ∷ more.0,
        subst (λ (ts : List ArgType). SpellsArguments ts (begins.0 ∷ more.0) rest) (sym split) (one_more_spelled (get_or types place Int) (drop (place + 1) types) begins.0 more.0 rest back begins.1 more.1),
      ),
      λ spelled.
          let left = c.loop-kind.invariant.1 spelled in
          let it = others_spelled (get_or types place Int) (drop (place + 1) types) begins.0 left.0 rest back begins.1 (subst (λ (ts : List ArgType). SpellsArguments ts left.0 rest) split left.1) in
          (it.0, it.2),
    )

pub returns : goal.returns
returns c =
    let types = c.args.types.now in
    let rest = c.loop-kind.rest.now in
    let none = drop_all c.loop-kind.kind-index types (omega arith) in (
      λ empty. c.loop-kind.invariant.0 (
        [],
        subst (λ (ts : List ArgType). SpellsArguments ts [] rest) (sym none) (none_spelled rest (nil_from_length rest (eqb-true _ _ (sym c.is_empty.ensures ∙ empty)))),
      ),
      λ spelled.
          let left = c.loop-kind.invariant.1 spelled in
          let it = none_left left.0 rest (subst (λ (ts : List ArgType). SpellsArguments ts left.0 rest) none left.1) in
          c.is_empty.ensures ∙ ap (λ (ws : List ℕ). eqb (length ws) 0) it.1,
    )
