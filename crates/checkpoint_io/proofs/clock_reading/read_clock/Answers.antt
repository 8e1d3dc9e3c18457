use Rattle.std.proofs.Common.{rules, ◌<◌, length}
use Rattle.log_dictionary.specs.declared.clocks.TheConstants.{MAX_CLOCKS}
use Rattle.nibble_pack.proofs.lemmas.Parsing.{handed_on}
use Rattle.checkpoint_io.specs.Places.{log_place}
use Rattle.checkpoint_io.proofs.TimeLaws.{clock_answer, clock_cut}
use Rattle.checkpoint_io.proofs.clock_reading.read_clock.Goals as goal

pub returns-in_err-tick-clause-read : goal.returns-in_err-tick-clause-read
returns-in_err-tick-clause-read g c header before are =
    let room : length c.args.times.now.clocks < MAX_CLOCKS = search rules in
    handed_on _ _ _ _ c.from_residual.ensures.1 (clock_cut c.args.times.now header before (log_place c.args.pending.now (g.S.Source.left c.args.source.now)) _ c.in_err-tick.field-0.0 are room (c.in_err-tick.ensures.read header before are))

pub returns-clause-read : goal.returns-clause-read
returns-clause-read g c header before are =
    let room : length c.args.times.now.clocks < MAX_CLOCKS = search rules in
    clock_answer c.take_rest.result c.args.times.now header before c.in_ok-tick.tick _ _ _ _ are room (c.in_ok-tick.ensures.read header before are) c.take_rest.ensures.read
