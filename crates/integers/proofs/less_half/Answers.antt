-- `integers::less_half` meets its contract: within the limit there is room in 64 bits for the sum, and the step forward by it is the difference.
-- Assumes nothing.
use Rattle.std.proofs.Common.{arith, w64, SFits}
use Rattle.std.proofs.lemmas.Int.{ints, to_z-of_z}
use lib.IntN.{◌+ℤ◌}
use Rattle.integers.specs.Half.{stepped}
use Rattle.integers.proofs.Sizes.{limit_size, sum_fits}
use Rattle.integers.proofs.less_half.Goals as goal

pub overflow_add-a : goal.overflow_add-a
overflow_add-a c = rw (to_z-of_z w64 c.args.a c.ranges.a, to_z-of_z w64 c.args.b c.ranges.b) (sum_fits c.args.a c.args.b c.requires.1 c.requires.2)

pub step-requires : goal.step-requires
step-requires c = (
  omega (arith, ints, limit_size c.args.v c.requires.0),
  omega (arith, ints, limit_size c.args.a c.requires.1, limit_size c.args.b c.requires.2),
)

pub returns : goal.returns
unfolding stepped
returns c =
    let fits : SFits w64 (c.args.a +ℤ c.args.b) = sum_fits c.args.a c.args.b c.requires.1 c.requires.2 in
    grind (arith, to_z-of_z)
