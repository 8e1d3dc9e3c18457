use Rattle.std.proofs.Common.{[], ◌∷◌, ◌++◌, refl, ◌∙◌}
use Rattle.source_scan.specs.declared.statement.TheConstants.{MAX_SOURCE}
use Rattle.command_base.proofs.lemmas.HeldLaws.{held_there}
use Rattle.source_commands.proofs.SourceLemmas.{going_on, none_so_far, not_read, name_next, read_all, read_more, held_bytes, lacks_next, lacks_answered, missing_numbered, missing_nothing, stopped_numbered, all_numbered}
use Rattle.source_commands.proofs.sources.number_sources.Goals as goal

pub loop-name-init : goal.loop-name-init
loop-name-init g c = record {
  sources = [];
  read = none_so_far _ _;
  numbers = c.make-numbering.ensures;
  same = refl;
  others = g.met.F.Files.rest_same _;
}

pub returns-then-numbering-clause-numbered : goal.returns-then-numbering-clause-numbered
returns-then-numbering-clause-numbered g c =
    let was = c.loop-name.invariant in
    stopped_numbered _ _ _ was.sources _ _ (not_read _ c.args.names.now c.loop-name.name-index was.sources _ was.read refl) was.numbers c.if-numbering.true was.same

pub returns-in-Err-clause-numbered : goal.returns-in-Err-clause-numbered
returns-in-Err-clause-numbered g c =
    let was = c.loop-name.invariant in
    missing_numbered _ _ _ was.sources c.loop-name.numbering _ _ _ c.without_source.result
    (not_read _ c.args.names.now c.loop-name.name-index was.sources _ was.read (name_next c.args.names.now c.loop-name.name-index _ c.loop-name-test.true)) was.numbers
    (going_on was.sources c.loop-name.numbering was.numbers c.if-numbering.false) (rw was.same at c.in-Err.ensures.unread) c.without_source.ensures.refused

pub returns-in-Err-clause-nothing : goal.returns-in-Err-clause-nothing
returns-in-Err-clause-nothing g c =
    let was = c.loop-name.invariant in
    missing_nothing _ _ _ was.sources c.loop-name.numbering _ _ _ c.without_source.result
    (not_read _ c.args.names.now c.loop-name.name-index was.sources _ was.read (name_next c.args.names.now c.loop-name.name-index _ c.loop-name-test.true)) was.numbers
    (rw was.same at c.in-Err.ensures.unread) c.without_source.ensures.unread

pub returns-in_err-numbering-clause-nothing : goal.returns-in_err-numbering-clause-nothing
returns-in_err-numbering-clause-nothing g c =
    let was = c.loop-name.invariant in
    let held = held_bytes (g.F.Files.desk c.args.files.now) c.args.names.now c.loop-name.name-index _ MAX_SOURCE c.in-Ok.source (rw was.same at c.in-Ok.ensures.all) (rw was.same at c.in-Ok.ensures.longer) in
    lacks_answered _ _ _ c.from_residual.result c.from_residual.ensures.1
    (lacks_next _ _ _ was.sources _ _
    (not_read _ c.args.names.now c.loop-name.name-index was.sources _ was.read (name_next c.args.names.now c.loop-name.name-index _ c.loop-name-test.true)) (held_there (g.F.Files.desk c.args.files.now) _ held.0 held.1)
    (c.in-Ok.ensures.same ∙ was.same))

pub loop-name-preserved : goal.loop-name-preserved
loop-name-preserved g c =
    let was = c.loop-name.invariant in
    let held = held_bytes (g.F.Files.desk c.args.files.now) c.args.names.now c.loop-name.name-index _ MAX_SOURCE c.in-Ok.source (rw was.same at c.in-Ok.ensures.all) (rw was.same at c.in-Ok.ensures.longer) in
    record {
      sources = was.sources ++ record { name = _; bytes = held.0 } ∷ [];
      read = read_more _ _ c.loop-name.name-index _ was.sources held.0 was.read c.loop-name-test.true held.1;
      numbers = c.in_ok-numbering.ensures was.sources held.0 held.2 held.3 was.numbers;
      same = c.in-Ok.ensures.same ∙ was.same;
      others = g.met.F.Files.rest_then _ _ _ was.others c.read_file.ensures.others;
    }

pub returns-clause-numbered : goal.returns-clause-numbered
returns-clause-numbered g c =
    let was = c.loop-name.invariant in
    all_numbered _ _ _ was.sources _ (read_all _ c.args.names.now c.loop-name.name-index was.sources was.read c.loop-name-test.false) was.numbers was.same
