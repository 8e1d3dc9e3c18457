use Rattle.std.proofs.Common.{◌≡◌, inl, inr, ap, ◌∙◌, arith, rules}
use Rattle.session_commands.proofs.replaying.log_calls.Goals as goal

pub returns-clause-sized : goal.returns-clause-sized
returns-clause-sized g c = λ is. elim (c.run.ensures.bad_size.0 is) [ inl low ↦ omega (arith, c.requires.bounds.0) | inr high ↦ omega (arith, c.requires.bounds.1) ]

pub returns-clause-unbegun : goal.returns-clause-unbegun
returns-clause-unbegun g c = λ is.
    let same = c.run.ensures.unbegun (inr is) in
    let kept : g.F.Files.desk c.run.new.sink.files.now ≡ g.F.Files.desk c.args.files.now = (λ i. g.F.Files.desk (same i).files.now) ∙ ap g.F.Files.desk c.make.ensures.same in
    search (rules, kept)
