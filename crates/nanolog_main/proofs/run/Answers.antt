use Rattle.std.proofs.Common.{◌≡◌, ℕ, None, subst}
use Rattle.nl_io.specs.Untold.{ids_in}
use Rattle.command_base.specs.Scenes.{Scene, scene}
use Rattle.command_base.specs.Printing.{Tells}
use Rattle.nanolog_cli.specs.Outcomes.{Answers}
use Rattle.nanolog_main.proofs.run.Goals as goal

pub returns : goal.returns
returns g c =
    let ends = c.run_words.ensures.ends in
    let files = c.run_words.new.files in
    let after : Scene = scene (record { held = None; left = ids_in files.reading; made = ids_in files.made; read_faults = files.read_faults; write_faults = files.write_faults }) None c.run_words.new.out.faults in
    record {
      ends = (
        ends.0,
        ends.1,
        after,
        c.run_words.new.err.faults,
        ends.2,
        subst (λ (s : Scene). Answers ends.0 s after ends.1) (λ i. scene (c.make-files.ensures i) None (c.make-out.ensures i)) ends.3,
        subst (λ (n : ℕ). Tells ends.1 None None n c.run_words.new.err.faults) c.make-err.ensures ends.4,
      );
    }
