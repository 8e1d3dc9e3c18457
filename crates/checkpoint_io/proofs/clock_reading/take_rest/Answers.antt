use Rattle.std.proofs.Common.{refl, arith}
use Rattle.std.proofs.lemmas.Bool.{le-leb}
use Rattle.nibble_pack.specs.Parsing.{low_first}
use Rattle.nibble_pack.proofs.lemmas.Parsing.{handed_on}
use Rattle.checkpoint_io.specs.declared.cause.Cause.TheVariants as causes
use Rattle.checkpoint_io.specs.Places.{log_place}
use Rattle.checkpoint_io.specs.Reading.{clock_rate_at}
use Rattle.checkpoint_io.proofs.StepLaws.{stands_then, stands_last, refused_then, refused_first}
use Rattle.checkpoint_io.proofs.clock_reading.take_rest.Goals as goal

pub returns-in_err-rate-clause-read : goal.returns-in_err-rate-clause-read
returns-in_err-rate-clause-read g c =
    let mid = log_place c.take_number.new.pending (g.S.Source.left c.take_number.new.source) in
    handed_on _ _ _ _ c.from_residual-in_err-rate.ensures.1 (refused_then (low_first 8 causes.Cut) (λ nanos. clock_rate_at c.args.tick nanos.0 nanos.1) c.in_ok-nanos.nanos _ mid _ c.in_err-rate.field-0.0 c.in_ok-nanos.ensures.read
    (refused_first (low_first 8 causes.Cut) _ mid _ c.in_err-rate.field-0.0 c.in_err-rate.ensures.read))

pub returns-clause-read : goal.returns-clause-read
returns-clause-read g c =
    stands_then (low_first 8 causes.Cut) _ c.in_ok-nanos.nanos _ _ _ _ c.in_ok-nanos.ensures.read
    (stands_last (low_first 8 causes.Cut) _ c.in_ok-rate.rate _ _ _ c.in_ok-rate.ensures.read (λ rest. rw (le-leb 1 c.in_ok-rate.rate (omega arith)) refl))
