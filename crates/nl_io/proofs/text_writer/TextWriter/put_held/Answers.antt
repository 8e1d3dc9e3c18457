use Rattle.std.proofs.Common.{List, ℕ, ◌++◌, ap, ◌∙◌}
use Rattle.nl_io.proofs.lemmas.Outcomes.{at_ok, at_err}
use Rattle.nl_io.proofs.lemmas.TextWriters.{behind_put, cut_before, all_told, cut_told}
use Rattle.nl_io.proofs.text_writer.TextWriter.put_held.Goals as goal
use Rattle.nl_io.proofs.text_writer.TextWriter.put_held.Goals.{in-Ok, in-Err}

pub returns-in_err-flush-clause-cut_off : goal.returns-in_err-flush-clause-cut_off
returns-in_err-flush-clause-cut_off g c = at_err c.from_residual.result (cut_before _ c.args.bytes.now _ _ _ _ c.in_err-flush.ensures.cut_off)

pub returns-clause-ok : goal.returns-clause-ok
returns-clause-ok g c =
    let none = c.self.view_is ∙ c.in_ok-flush.ensures.empty in
    elim c.match-try_extend_from_slice.branch [
      | in-Ok w ↦ rw w.sink-is (at_ok c.match-try_extend_from_slice.result (behind_put _ _ _ _ _ c.in_ok-flush.ensures.ok (w.in-Ok.ensures.ok ∙ ap (λ (b : List ℕ). b ++ c.args.bytes.now) none)))
      | in-Err w ↦ rw (w.sink-is, w.result-is) (all_told w.write_all.result _ _ _ _ _ _ c.in_ok-flush.ensures.ok (rw w.in-Err.ensures.err none) w.write_all.ensures.ok)
    ]

pub returns-clause-cut_off : goal.returns-clause-cut_off
returns-clause-cut_off g c =
    elim c.match-try_extend_from_slice.branch [
      | in-Ok w ↦ rw w.result-is tt
      | in-Err w ↦ rw (w.sink-is, w.result-is)
          (cut_told w.write_all.result _ _ _ _ _ _ _ _ c.in_ok-flush.ensures.ok c.in_ok-flush.ensures.counted w.write_all.ensures.some w.write_all.ensures.err w.write_all.ensures.cause w.write_all.ensures.count)
    ]
