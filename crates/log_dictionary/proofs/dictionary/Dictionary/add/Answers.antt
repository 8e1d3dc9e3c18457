use Rattle.std.proofs.Common.{List, length, refl, sym, ap, subst, arith, Ok}
use Rattle.log_dictionary.specs.declared.message.Message.{Message}
use Rattle.log_dictionary.specs.declared.dictionary.Added.{Added}
use Rattle.log_dictionary.specs.Messages.{HasMessage, HasId}
use Rattle.log_dictionary.proofs.lemmas.Distinct.{id_is_there, old_is_added}
use Rattle.log_dictionary.proofs.dictionary.Dictionary.add.Goals as goal

pub returns-in_default-clause-old : goal.returns-in_default-clause-old
returns-in_default-clause-old c = λ there. absurd (c.in_default.ensures (subst (λ (m : List Message). HasMessage m c.args.message) (sym c.self.view_is) there))

pub returns-in_default-clause-too_many : goal.returns-in_default-clause-too_many
returns-in_default-clause-too_many c = (
  λ _. (
    λ there. c.in_default.ensures (subst (λ (m : List Message). HasMessage m c.args.message) (sym c.self.view_is) there),
    omega (arith, c.len.ensures, c.if-len-ge-MAX_MESSAGES.true, c.self.invariant, ap length c.self.view_is),
  ),
  λ _. refl,
)

pub returns-then-len-ge-MAX_MESSAGES-clause-ok : goal.returns-then-len-ge-MAX_MESSAGES-clause-ok
returns-then-len-ge-MAX_MESSAGES-clause-ok c = (subst (λ (m : List Message). HasId m c.args.message c.in-Some.id) c.self.view_is c.in-Some.ensures, refl)

pub returns-then-len-ge-MAX_MESSAGES-clause-too_many : goal.returns-then-len-ge-MAX_MESSAGES-clause-too_many
returns-then-len-ge-MAX_MESSAGES-clause-too_many c = (λ e. absurd cc, λ new. absurd (new.0 (id_is_there c.args.self.now c.args.message c.in-Some.id (subst (λ (m : List Message). HasId m c.args.message c.in-Some.id) c.self.view_is c.in-Some.ensures))))

pub returns-in_default-insert-clause-old : goal.returns-in_default-insert-clause-old
returns-in_default-insert-clause-old c = λ there. absurd (c.in_default-insert.ensures.new (subst (λ (m : List Message). HasMessage m c.args.message) (sym c.self.view_is) there))

pub returns-clause-old : goal.returns-clause-old
returns-clause-old c = λ there.
    let old = old_is_added c.self.inside.messages c.args.message _ c.in-Ok.added c.in-Ok.ensures.ok (subst (λ (m : List Message). HasMessage m c.args.message) (sym c.self.view_is) there) in
    (old.0, ap (λ (added : Added). Ok added) old.1)
