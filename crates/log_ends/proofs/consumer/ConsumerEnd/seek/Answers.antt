use Rattle.std.proofs.Common.{◌≡◌, true, false}
use Rattle.log_ends.proofs.Seeking.{sought_none, sought_once, sought_twice}
use Rattle.log_ends.proofs.consumer.ConsumerEnd.seek.Goals as goal

pub returns-then-not-is_empty : goal.returns-then-not-is_empty
returns-then-not-is_empty c =
    sought_none c.args.self.now (λ none. let told : c.is_empty.result ≡ true = c.is_empty.ensures.1 none in absurd cc)

pub returns-then-not-is_empty-2 : goal.returns-then-not-is_empty-2
returns-then-not-is_empty-2 c =
    let unended : c.args.self.now.ending ≡ false = cc in
    sought_once c.args.self.now c.visit_from.new.self c.visit_from.result (c.is_empty.ensures.0 c.if-not-is_empty.false) unended
    (λ none. let told : c.is_empty-2.result ≡ true = c.is_empty-2.ensures.1 none in absurd cc) c.visit_from.ensures

pub returns : goal.returns
returns c =
    let unended : c.args.self.now.ending ≡ false = cc in
    sought_twice c.args.self.now c.visit_from.new.self c.visit_from-2.new.self c.visit_from.result c.visit_from-2.result c.visit_from.ensures c.visit_from-2.ensures
    (c.is_empty.ensures.0 c.if-not-is_empty.false) unended (c.is_empty-2.ensures.0 c.if-not-is_empty-2.false)
