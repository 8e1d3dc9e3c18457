use Rattle.std.proofs.Common.{◌+◌, ◌++◌, List, [], ◌∷◌, length, drop, get_or, sym, ap, subst, ◌∙◌, append_assoc, arith}
use Rattle.std.proofs.lemmas.List.{drop_more, drop_all, append-nil, length_push}
use Rattle.printf_grammar.specs.declared.arg_type.ArgType.{ArgType}
use Rattle.printf_grammar.specs.declared.arg_type.ArgType.TheVariants.{Int}
use Rattle.printf_grammar.specs.declared.argument.Value.{Value}
use Rattle.arg_records.specs.Reading.{SpellsArguments}
use Rattle.arg_records.proofs.Reading.{first_spelled, one_more_spelled, others_spelled, none_left}
use Rattle.arg_records.proofs.read.take_arguments.Goals as goal

pub take_argument-requires : goal.take_argument-requires
take_argument-requires c =
    let types = c.args.types.now in
    let place = c.loop-kind.kind-index in
    let left = c.loop-kind.invariant.left in
    let it = first_spelled (get_or types place Int) (drop (place + 1) types) left.0 c.loop-kind.rest.now (subst (λ (ts : List ArgType). SpellsArguments ts left.0 c.loop-kind.rest.now) (drop_more types place Int c.loop-kind-test.true) left.1) in
    (it.0, _, it.3)

pub loop-kind-preserved : goal.loop-kind-preserved
loop-kind-preserved c =
    let types = c.args.types.now in
    let place = c.loop-kind.kind-index in
    let rest = c.loop-kind.rest.now in
    let args = c.loop-kind.args in
    let value = c.in_ok-value.value in
    let back = c.in_ok-value.back.now in
    let begins = c.in_ok-value.ensures in
    let pushed = c.in_ok-push.ensures.ok in
    let split = drop_more types place Int c.loop-kind-test.true in
    let left = c.loop-kind.invariant.left in
    let others = others_spelled (get_or types place Int) (drop (place + 1) types) value left.0 rest back begins (subst (λ (ts : List ArgType). SpellsArguments ts left.0 rest) split left.1) in
    record {
      many = omega (arith, length_push args value, c.loop-kind.invariant.many, ap length pushed);
      left = (others.0, others.2);
      read = λ more spelled.
          let whole = c.loop-kind.invariant.read (value ∷ more) (subst (λ (ts : List ArgType). SpellsArguments ts (value ∷ more) rest) (sym split) (one_more_spelled (get_or types place Int) (drop (place + 1) types) value more rest back begins spelled)) in
          subst (λ (all : List Value). SpellsArguments types all c.args.words.now) (sym (ap (λ (front : List Value). front ++ more) pushed ∙ append_assoc args (value ∷ []) more)) whole;
    }

pub returns-clause-ok : goal.returns-clause-ok
returns-clause-ok c =
    let types = c.args.types.now in
    let left = c.loop-kind.invariant.left in
    let none = none_left left.0 c.loop-kind.rest.now (subst (λ (ts : List ArgType). SpellsArguments ts left.0 c.loop-kind.rest.now) (drop_all c.loop-kind.kind-index types (omega arith)) left.1) in
    subst (λ (all : List Value). SpellsArguments types all c.args.words.now) (ap (λ (more : List Value). c.loop-kind.args ++ more) none.0 ∙ append-nil c.loop-kind.args) (c.loop-kind.invariant.read left.0 left.1)
