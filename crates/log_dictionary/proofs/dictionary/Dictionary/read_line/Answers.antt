use Rattle.std.proofs.Common.{◌≡◌, ◌<◌, List, ℕ, refl, sym, ap, subst, ◌∙◌, arith, length, Result, Ok, Err}
use Rattle.std.proofs.lemmas.Bool.{false≢true}
use Rattle.log_dictionary.specs.declared.message.Message.{Message}
use Rattle.log_dictionary.specs.declared.dictionary.TheConstants.{MAX_MESSAGES}
use Rattle.log_dictionary.specs.declared.dictionary.LineFault.{LineFault}
use Rattle.log_dictionary.specs.declared.dictionary.LineFault.TheVariants.{BadEntry, NoMemory}
use Rattle.log_dictionary.specs.declared.dictionary.Added.{Added}
use Rattle.log_dictionary.specs.declared.dictionary.Added.TheVariants.{Old, New}
use Rattle.log_dictionary.specs.Messages.{HasMessage, HasId, SpellsMessage}
use Rattle.log_dictionary.specs.Additions.{IsAdded, ReadsLine}
use Rattle.log_dictionary.proofs.lemmas.Distinct.{id_is_there}
use Rattle.log_dictionary.proofs.lemmas.LineMessages.{stopped, old_is_not_new, added_next, added_old}
use Rattle.log_dictionary.proofs.dictionary.Dictionary.read_line.Goals as goal
use Rattle.log_dictionary.proofs.dictionary.Dictionary.read_line.Goals.{in-Ok-New, in-Ok-Old, in-Err-insert}

pub returns-in-Err-clause-reads : goal.returns-in-Err-clause-reads
returns-in-Err-clause-reads c = stopped c.args.self.now c.args.line.now c.in-Err.fault (omega (arith, c.len.ensures, ap length c.self.view_is)) c.in-Err.ensures.fault

pub returns-in-Some-clause-reads : goal.returns-in-Some-clause-reads
returns-in-Some-clause-reads c =
    let found = c.in-Ok.ensures.found in (
      omega (arith, c.len.ensures, ap length c.self.view_is),
      old_is_not_new c.args.self.now c.args.line.now found.0 c.in-Ok.pair.1 found.2 (id_is_there c.args.self.now c.in-Ok.pair.1 _ (subst (λ (m : List Message). HasId m c.in-Ok.pair.1 c.in-Some.field-0) c.self.view_is c.in-Some.ensures)),
      refl,
    )

pub returns-then-not-is_number-clause-reads : goal.returns-then-not-is_number-clause-reads
returns-then-not-is_number-clause-reads c =
    let found = c.in-Ok.ensures.found in (
      omega (arith, c.len.ensures, ap length c.self.view_is),
      (
        found.0,
        c.in-Ok.pair.1,
        record { spelled = found.2; new = subst (λ (m : List Message). ¬ (HasMessage m c.in-Ok.pair.1)) c.self.view_is c.in_default.ensures },
        λ is. false≢true (sym c.if-not-is_number.true ∙ (c.is_number.ensures found.0 found.1).1 (is ∙ omega (arith, c.len-2.ensures, ap length c.self.view_is))),
      ),
      refl,
    )

pub returns-clause-reads : goal.returns-clause-reads
returns-clause-reads c =
    let before = c.args.self.now in
    let line = c.args.line.now in
    let message = c.in-Ok.pair.1 in
    let after = c.insert.new.self in
    let few : length before < MAX_MESSAGES = omega (arith, c.len.ensures, ap length c.self.view_is) in
    let found = c.in-Ok.ensures.found in
    let at_end = (c.is_number.ensures found.0 found.1).0 c.if-not-is_number.false in
    let next : found.0 ≡ length before = omega (arith, at_end, c.len-2.ensures, ap length c.self.view_is) in
    let spells : SpellsMessage line (length before) message = subst (λ (id : ℕ). SpellsMessage line id message) next found.2 in
    let moved = λ (a : Added) (is : IsAdded c.self.inside.messages message after a). subst (λ (m : List Message). IsAdded m message after a) c.self.view_is is in
    let read = λ (r : Result (Unit {0}) LineFault) (e : c.match-insert.result ≡ r) (reads : ReadsLine before line after r). subst (ReadsLine before line after) (sym e) reads in
    elim c.match-insert.branch [
      | in-Ok-New w ↦ read (Ok tt) w.result-is (added_next before line message w.in-Ok-New.field-0-0 after few spells (moved (New w.in-Ok-New.field-0-0) (subst (IsAdded c.self.inside.messages message after) w.in-Ok-New.field-0-is w.in-Ok-New.ensures.ok)))
      | in-Ok-Old w ↦ read (Err BadEntry) w.result-is (added_old before line message w.in-Ok-Old.field-0-0 after few spells (moved (Old w.in-Ok-Old.field-0-0) (subst (IsAdded c.self.inside.messages message after) w.in-Ok-Old.field-0-is w.in-Ok-Old.ensures.ok)))
      | in-Err-insert w ↦ read (Err NoMemory) w.result-is (few, w.in-Err-insert.ensures.err ∙ c.self.view_is)
    ]
