use Rattle.std.proofs.Common.{◌∷◌, ◌++◌, List, ℕ, [], false, drop, ap, sym, ◌∙◌, append_assoc, arith}
use Rattle.std.proofs.lemmas.List.{length-drop, take_all}
use Rattle.std.specs.Fmt.{decimal}
use Rattle.direct_printf.specs.Fields.{Digits}
use Rattle.direct_printf.proofs.Writing.{shown_text, shows_still}
use Rattle.direct_printf.proofs.log_line.LineWriter.append_short_time.Goals as goal

pub invariant_of-self : goal.invariant_of-self
invariant_of-self c = shows_still c.args.second c.show_second-self-inside.result _ _ c.write_rest.ensures.second c.show_second-self-inside.ensures

pub invariant_of-self-2 : goal.invariant_of-self-2
invariant_of-self-2 c = shows_still c.args.second c.show_second-self-inside.result _ _ c.write_rest.ensures.second c.show_second-self-inside.ensures

pub returns-clause-ok : goal.returns-clause-ok
returns-clause-ok c =
    let text = c.write_rest.new.text in
    let shown = shown_text c.args.second c.show_second-self-inside.result text _ (omega arith) (shows_still c.args.second c.show_second-self-inside.result _ _ c.write_rest.ensures.second c.show_second-self-inside.ensures) c.write_rest.ensures.rest in
    c.in_ok-extend_from_slice.ensures.items
    ∙ ap (λ (bytes : List ℕ). c.args.out.now.items ++ bytes) (take_all _ (drop c.show_second-self-inside.result text) (omega (arith, length-drop c.show_second-self-inside.result text)) ∙ shown ∙ sym (append_assoc (decimal c.args.second) (46 ∷ Digits c.args.rest 10 false 9) (32 ∷ [])))
