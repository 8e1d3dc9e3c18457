use Rattle.std.proofs.Common.{[], arith}
use Rattle.log_dictionary.proofs.TextLemmas.{walk_begins}
use Rattle.log_dictionary.proofs.TextRuns.{walk_run, walk_escaped_run, escaped_run_shorter, read_ends}
use Rattle.log_dictionary.proofs.text.unescape.Goals as goal

pub loop-byte-init : goal.loop-byte-init
loop-byte-init c = record {
  walked = rw (c.in_ok-extend_from_slice.ensures, c.in_ok-bytes.ensures)
      (walk_run c.args.spelled.now c.args.spelled.now c.in-Some.run'.now c.in-Some.rest.now [] (walk_begins c.args.spelled.now) c.in-Some.ensures.some);
  ended = c.in-Some.ensures.some.ended;
}

pub loop-byte-smaller : goal.loop-byte-smaller
loop-byte-smaller c =
    omega (arith, escaped_run_shorter c.loop-byte.rest.now c.in-Some-split_escaped_run.run'.now c.in-Some-split_escaped_run.after.now c.in-Some-split_escaped_run.byte c.in-Some-split_escaped_run.ensures.some)

pub loop-byte-preserved : goal.loop-byte-preserved
loop-byte-preserved c = record {
  walked = rw (c.in_ok-extend_from_slice-2.ensures, c.in_ok-push.ensures)
      (walk_escaped_run c.args.spelled.now c.loop-byte.rest.now c.in-Some-split_escaped_run.run'.now c.in-Some-split_escaped_run.after.now c.loop-byte.bytes c.in-Some-split_escaped_run.byte
      c.loop-byte.invariant.walked c.in-Some-split_escaped_run.ensures.some);
  ended = c.in-Some-split_escaped_run.ensures.some.follows.ended;
}

pub returns : goal.returns
returns c = read_ends c.args.spelled.now c.loop-byte.rest.now c.loop-byte.bytes c.requires c.loop-byte.invariant.walked c.in_default-split_escaped_run.ensures.none
