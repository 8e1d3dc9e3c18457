-- A log was read, the text that it gives was printed, and then the command ends as the reading did.
use Rattle.std.proofs.Common.{◌≡◌, ℕ, List, [], refl, sym, ap, subst, ◌∙◌}
use Rattle.nl_io.specs.Content.{Told, with_end}
use Rattle.nl_io.specs.Desk.{Desk}
use Rattle.command_base.specs.Endings.{Ending, Usage, WriteFault, NoMemory}
use Rattle.command_base.specs.Effects.{CommandEffect}
use Rattle.command_base.proofs.lemmas.EffectLaws.{put_nothing, completes, has_completed, nothing_came}
use Rattle.command_base.specs.Readings.{Form, Begun, ReadsFile, printing_task}
use Rattle.command_base.specs.Scenes.{Scene, scene}
use Rattle.command_base.specs.Soundness.{IsSound}
use Rattle.command_base.specs.Tasks.{Product, Course, nothing, text_alone}

module _ (input : List ℕ) (course : Course) (form : Form) (begun : Begun) (is_right : List ℕ → Type 0) (old : Scene) (desk : Desk) where
  -- nothing came of the log, and nothing was printed
  nothing_told : (put : Told) (faults : ℕ) (ending : Ending) → IsSound (printing_task input course form begun is_right)
      → ReadsFile input form begun old.desk desk nothing ending → put ≡ with_end [] old.put → faults ≡ old.faults
      → CommandEffect (printing_task input course form begun is_right) old (scene desk put faults) ending
  nothing_told put faults ending sound reads printed counted =
      let as_it_was : scene desk old.put old.faults ≡ scene desk put faults =
      λ i. scene desk (sym (printed ∙ sym (put_nothing old.put)) i) (sym counted i) in
      subst (λ (new : Scene). CommandEffect (printing_task input course form begun is_right) old new ending) as_it_was
      (nothing_came (printing_task input course form begun is_right) old desk ending sound reads)

  pub text_told : (text : List ℕ) (put : Told) (faults : ℕ) (ending : Ending) → ((name : List ℕ) → ending ≡ WriteFault name → ¬ (begun ending old.desk text)) → IsSound (printing_task input course form begun is_right)
      → ReadsFile input form begun old.desk desk (text_alone text) ending → put ≡ with_end text old.put → faults ≡ old.faults
      → CommandEffect (printing_task input course form begun is_right) old (scene desk put faults) ending
  text_told text put faults NoMemory unbroken sound reads printed counted =
      let none : text ≡ [] = ap (λ (product : Product). product.text) reads.1 in
      nothing_told put faults NoMemory sound (reads.0, refl) (printed ∙ ap (λ (t : List ℕ). with_end t old.put) none) counted
  text_told text put faults (WriteFault name) unbroken sound reads printed counted = absurd (unbroken name refl reads.text)
  text_told text put faults (Usage lines) unbroken sound reads printed counted = absurd reads
  text_told text put faults ending unbroken sound reads printed counted =
      completes (printing_task input course form begun is_right) old (scene desk put faults) ending tt
      (has_completed (printing_task input course form begun is_right) old desk (text_alone text) ending put faults (record { read = desk; reading = reads; made = refl }) printed counted)
