use Rattle.std.proofs.Common.{◌≡◌, ℕ, length, Err, subst, sym, ◌∙◌}
use Rattle.std.specs.Prelude.{true}
use Rattle.nibble_pack.proofs.lemmas.Parsing.{handed_on}
use Rattle.checkpoint_io.specs.declared.block.Block.TheVariants as read
use Rattle.checkpoint_io.specs.Places.{log_place}
use Rattle.checkpoint_io.specs.Reading.{is_count}
use Rattle.checkpoint_io.specs.Entries.{TakesFragment}
use Rattle.checkpoint_io.proofs.NextLaws.{fragment_answer, fragment_stands, count_refused}
use Rattle.checkpoint_io.proofs.fragment_reading.read_fragment.Goals as goal

pub returns-in_err-count-clause-read : goal.returns-in_err-count-clause-read
returns-in_err-count-clause-read g c =
    let is : c.in_ok-first.first ≡ length c.args.dictionary.now = c.if-first-from.false ∙ c.from.ensures ∙ c.len-defined.ensures.value in
    let mid = log_place c.take_number.new.pending (g.S.Source.left c.take_number.new.source) in
    handed_on _ _ _ _ c.from_residual-in_err-count.ensures.1 (count_refused c.args.dictionary.now c.in_ok-first.first _ mid _ c.in_err-count.field-0.0 is c.in_ok-first.ensures.read c.in_err-count.ensures.read)

pub returns-in_err-take_messages-clause-read : goal.returns-in_err-take_messages-clause-read
returns-in_err-take_messages-clause-read g c =
    let is : c.in_ok-first.first ≡ length c.args.dictionary.now = c.if-first-from.false ∙ c.from.ensures ∙ c.len-defined.ensures.value in
    let few : is_count c.args.dictionary.now c.in_ok-count.count ≡ true = sym c.may_have.ensures ∙ c.if-not-may_have.false in
    let start = log_place c.take_number-2.new.pending (g.S.Source.left c.take_number-2.new.source) in
    handed_on _ _ _ _ c.from_residual-in_err-take_messages.ensures.1 (fragment_answer (Err c.in_err-take_messages.field-0.0) c.args.dictionary.now c.in_ok-first.first c.in_ok-count.count _ _ start start _ is few c.in_ok-first.ensures.read c.in_ok-count.ensures.read c.in_err-take_messages.ensures.read)

pub returns-clause-read : goal.returns-clause-read
returns-clause-read g c =
    let is : c.in_ok-first.first ≡ length c.args.dictionary.now = c.if-first-from.false ∙ c.from.ensures ∙ c.len-defined.ensures.value in
    let few : is_count c.args.dictionary.now c.in_ok-count.count ≡ true = sym c.may_have.ensures ∙ c.if-not-may_have.false in
    let from = log_place c.args.pending.now (g.S.Source.left c.args.source.now) in
    let to = log_place c.take_messages.new.pending (g.S.Source.left c.take_messages.new.source) in
    subst (λ (n : ℕ). TakesFragment c.args.dictionary.now (read.Fragment n c.in_ok-count.count) c.take_messages.new.dictionary from to) (c.if-first-from.false ∙ c.from.ensures)
    (fragment_stands c.args.dictionary.now c.take_messages.new.dictionary c.in_ok-first.first c.in_ok-count.count from _ _ to is few c.in_ok-first.ensures.read c.in_ok-count.ensures.read c.in_ok-take_messages.ensures.read)
