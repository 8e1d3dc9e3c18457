use Rattle.std.proofs.Common.{ℕ, ◌∙◌, sym, subst, ap, arith}
use Rattle.source_scan.specs.declared.statement.TheConstants.{MAX_SOURCE}
use Rattle.source_scan.specs.Rising.{RiseFrom}
use Rattle.source_scan.specs.Statements.{source_text}
use Rattle.source_scan.proofs.Fronts.{behind}
use Rattle.source_scan.proofs.CursorLemmas.{follows-front}
use Rattle.source_scan.proofs.FoundLists.{finds-other, finds-next, finds-all}
use Rattle.source_scan.proofs.Rises.{rise-wider, rise-drop, rise-front, rise-passed, rise-found}
use Rattle.source_scan.proofs.statement.find_statements.Goals as goal

pub loop-rest-init : goal.loop-rest-init
loop-rest-init c = record {
  finds = λ more later. rw c.new-found.ensures.items later;
  follows = follows-front c.args.source.file.now c.args.source.bytes.now c.args.source.changes.now c.front_cursor-cursor.result c.front_cursor-cursor.ensures.position c.front_cursor-cursor.ensures.changes;
  rise = subst (λ (from : ℕ). RiseFrom from c.args.tokens.now MAX_SOURCE) (sym (ap (λ one. one.from) c.front_cursor-cursor.ensures.position)) c.requires.rise;
}

pub loop-rest-preserved-then-not-begins : goal.loop-rest-preserved-then-not-begins
loop-rest-preserved-then-not-begins c =
    record {
      finds = finds-other (source_text c.args.source) c.args.tokens.now c.loop-rest.rest.now c.loop-rest.found.items _ c.in-len1-up.len_at_least c.loop-rest.invariant.finds (sym c.begins.ensures ∙ c.if-not-begins.true);
      follows = c.loop-rest.invariant.follows;
      rise = rise-passed c.loop-rest.cursor.position.from MAX_SOURCE c.loop-rest.rest.now c.in-len1-up.len_at_least c.loop-rest.invariant.rise;
    }

pub cursor_at-cursor-requires-clause-from : goal.cursor_at-cursor-requires-clause-from
cursor_at-cursor-requires-clause-from c = (rise-front c.loop-rest.cursor.position.from MAX_SOURCE c.loop-rest.rest.now _ c.in-len1-up.len_at_least c.loop-rest.invariant.rise).0

pub found_at-requires-clause-rise : goal.found_at-requires-clause-rise
found_at-requires-clause-rise c =
    let from = c.loop-rest.cursor.position.from in
    let later : RiseFrom from (behind c.loop-rest.rest.now) MAX_SOURCE = rise-passed from MAX_SOURCE c.loop-rest.rest.now c.in-len1-up.len_at_least c.loop-rest.invariant.rise in
    rw c.split_at.ensures.back (rise-wider from 0 MAX_SOURCE MAX_SOURCE _ (omega arith) (omega arith) (rise-drop 1 from MAX_SOURCE _ later))

pub loop-rest-preserved : goal.loop-rest-preserved
loop-rest-preserved c =
    let here = c.cursor_at-cursor.result in
    record {
      finds = rw c.in_ok-push.ensures.items
          (finds-next (source_text c.args.source) c.args.tokens.now c.loop-rest.rest.now c.loop-rest.found.items _ c.in_ok-found_at.field-0 here.position.name.now here.position.number c.split_at.result.1.now c.split_at-in-len1-up.result.1.now c.closing_place-closing.result c.own_tokens.result c.in-len1-up.len_at_least c.loop-rest.invariant.finds (sym c.begins.ensures ∙ c.if-not-begins.false)
          c.split_at.ensures.back c.closing_place-closing.ensures.place c.cursor_at-cursor.ensures.name c.cursor_at-cursor.ensures.line c.in_ok-found_at.ensures c.own_tokens.ensures.own c.split_at-in-len1-up.ensures.back);
      follows = c.cursor_at-cursor.ensures.follows;
      rise = rise-found c.loop-rest.cursor.position.from MAX_SOURCE here.position.from c.own_tokens.result c.loop-rest.rest.now c.split_at.result.1.now c.split_at-in-len1-up.result.1.now _ c.in-len1-up.len_at_least c.loop-rest.invariant.rise c.cursor_at-cursor.ensures.from
          c.split_at.ensures.back c.split_at-in-len1-up.ensures.back;
    }

pub returns : goal.returns
returns c = finds-all (source_text c.args.source) c.args.tokens.now c.loop-rest.rest.now c.loop-rest.found.items c.in_default.len_below c.loop-rest.invariant.finds
