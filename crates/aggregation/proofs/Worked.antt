-- The worked totals are proved by computing them.
use Rattle.std.proofs.Common.{◌≡◌, Some, refl}
use Rattle.aggregation.specs.Totals.{totals_of, totals_in}
use Rattle.aggregation.specs.Rows.{total_blocks, plain_totals, width_totals, long_totals, long_numbers, long_number_totals}

pub numbers : totals_in total_blocks 0 0 ≡ Some plain_totals
numbers = refl

pub width : totals_in total_blocks 1 0 ≡ Some width_totals
width = refl

pub not_narrowed : totals_in total_blocks 1 1 ≡ Some long_totals
not_narrowed = refl

pub limits : totals_of long_numbers ≡ long_number_totals
limits = refl
