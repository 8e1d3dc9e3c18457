use Rattle.std.proofs.Common.{◌≡◌, ℕ, None, sym, ap, ◌∙◌, subst, take}
use Rattle.std.proofs.lemmas.Result.{IfOk-weaker, on_err_weaker}
use Rattle.nl_io.specs.Content.{IsFront, IsAtEnd}
use Rattle.nl_io.specs.Count.{counted}
use Rattle.nl_io.specs.Desk.{Desk, ById}
use Rattle.nl_io.specs.Untold.{ids_in}
use Rattle.nl_io.proofs.Tables.{ids_in-content, ids_in-taken}
use Rattle.nl_io.proofs.std_files.StdFilesFiles.read.Goals as goal

pub returns-clause-front : goal.returns-clause-front
returns-clause-front g c = IfOk-weaker c.read_from.result (λ n. c.read_from.new.faults ≡ c.args.self.now.read_faults) _ (λ n same. λ content is.
    subst (IsFront n (take n c.read_from.new.into)) (sym (ids_in-content c.args.self.now.reading c.args.id content is)) tt) c.read_from.ensures.counted.same

pub returns-clause-moved : goal.returns-clause-moved
returns-clause-moved g c = IfOk-weaker c.read_from.result (λ n. c.read_from.new.faults ≡ c.args.self.now.read_faults) _ (λ n same.
    let desk : ById → ℕ → Desk = λ left faults. record { held = None; left = left; made = ids_in c.args.self.now.made; read_faults = faults; write_faults = c.args.self.now.write_faults } in
    record {
      taken = λ content is. ap (desk (ids_in c.read_from.new.table)) same
          ∙ ap (λ (left : ById). desk left c.args.self.now.read_faults) (ids_in-taken c.args.self.now.reading c.read_from.new.table c.args.id n content is c.read_from.ensures.same);
    }) c.read_from.ensures.counted.same

pub returns-clause-end : goal.returns-clause-end
returns-clause-end g c = IfOk-weaker c.read_from.result (λ n. c.read_from.new.faults ≡ c.args.self.now.read_faults) _ (λ n same. λ content is none room.
    subst IsAtEnd (sym (ids_in-content c.args.self.now.reading c.args.id content is)) tt) c.read_from.ensures.counted.same

pub returns-clause-err : goal.returns-clause-err
returns-clause-err g c = on_err_weaker c.read_from.result (λ (rose : c.read_from.new.faults ≡ counted c.args.self.now.read_faults).
    let desk : ById → Desk = λ left. record { held = None; left = left; made = ids_in c.args.self.now.made; read_faults = c.read_from.new.faults; write_faults = c.args.self.now.write_faults } in
    record { same = ap desk c.read_from.ensures.same; count = c.read_from.ensures.counted.more }) c.read_from.ensures.counted.one
