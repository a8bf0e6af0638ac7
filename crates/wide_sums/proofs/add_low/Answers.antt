-- `wide_sums::add_low` meets its contract: the mask is the remainder, and product and sum fit 64 bits.
-- Assumes nothing.
use native.Mathlib.Omega.{arith}
use Rattle.wide_sums.proofs.Parts.{low_value, low_size}
use Rattle.wide_sums.proofs.add_low.Goals as goal

pub overflow_mul-result : goal.overflow_mul-result
overflow_mul-result c =
    rw (low_value c.args.c c.ranges.c) (record { fits = omega (arith, low_size c.args.c c.args.joint c.requires.1) })

pub overflow_add-result : goal.overflow_add-result
overflow_add-result c =
    rw (low_value c.args.c c.ranges.c) (record { fits = omega (arith, low_size c.args.c c.args.joint c.requires.1) })

pub returns : goal.returns
returns c = rw (low_value c.args.c c.ranges.c)
