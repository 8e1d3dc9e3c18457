use Rattle.std.proofs.Common.{◌<◌, ◌^◌, refl, sym, subst, ◌∙◌, ap, arith}
use Rattle.source_scan.specs.Positions.{in_force_of, line_number_at}
use Rattle.source_scan.proofs.CursorLemmas.{moved-cursor}
use Rattle.source_scan.proofs.cursor.moved_to.Goals as goal

pub line_at-requires : goal.line_at-requires
line_at-requires c =
    let past = c.past_changes-behind.ensures in
    let there = past.same c.args.place (omega arith) ∙ past.none in
    subst (λ one. line_number_at c.args.source.now one c.args.place < 2 ^ 32) there c.requires.line

pub returns : goal.returns
returns c =
    let after = in_force_of c.past_changes-behind.result.position in
    let past = c.past_changes-behind.ensures in
    let there = past.same c.args.place (omega arith) ∙ past.none in
    record {
      from = refl;
      same = moved-cursor c.args.source.now (in_force_of c.args.cursor.position) after c.args.cursor.changes.now c.past_changes-behind.result.changes.now c.args.place c.line_at.result past.from past.same c.line_at.ensures;
      line = ap (λ one. line_number_at c.args.source.now one c.args.place) there ∙ sym c.line_at.ensures;
      name = ap (λ one. one.name) there;
    }
