-- `wide_sums::add_high` meets its contract: product and sum fit 64 bits, and the shift is the division rounded down.
-- Assumes nothing.
use native.Mathlib.Omega.{arith}
use lib.IntN.{pos, ◌+ℤ◌, ◌*ℤ◌}
use mir.Syntax.{w64}
use mir.ValLaws.{to_z-of_z}
use Rattle.integers.specs.Floor.{floor}
use Rattle.surfaces.specs.Weights.{unit}
use Rattle.surfaces.proofs.Unit.{unit_is}
use Rattle.wide_sums.proofs.Parts.{high_product, high_product_fits, high_sum_fits}
use Rattle.wide_sums.proofs.add_high.Goals as goal

pub overflow_cast-result-2 : goal.overflow_cast-result-2
overflow_cast-result-2 c = record { sfits = omega (arith, unit_is) }

pub overflow_mul-result : goal.overflow_mul-result
overflow_mul-result c =
    let a = c.args in
    rw (high_product a.c a.joint c.requires.1 c.requires.2 c.ranges.c) (high_product_fits a.c a.joint c.requires.1 c.requires.2)

pub overflow_add-result : goal.overflow_add-result
overflow_add-result c =
    let a = c.args in
    rw (
      high_product a.c a.joint c.requires.1 c.requires.2 c.ranges.c,
      to_z-of_z w64 (floor unit a.c *ℤ pos a.joint) (high_product_fits a.c a.joint c.requires.1 c.requires.2),
      to_z-of_z w64 a.high c.ranges.high,
    )
    (high_sum_fits a.c a.joint c.requires.1 c.requires.2 a.high c.requires.0)

pub returns : goal.returns
returns c =
    let a = c.args in
    rw (
      high_product a.c a.joint c.requires.1 c.requires.2 c.ranges.c,
      to_z-of_z w64 (floor unit a.c *ℤ pos a.joint) (high_product_fits a.c a.joint c.requires.1 c.requires.2),
      to_z-of_z w64 a.high c.ranges.high,
    )
    (to_z-of_z w64 (a.high +ℤ floor unit a.c *ℤ pos a.joint)
    (high_sum_fits a.c a.joint c.requires.1 c.requires.2 a.high c.requires.0))
