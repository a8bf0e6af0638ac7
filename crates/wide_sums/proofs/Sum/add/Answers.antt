-- `wide_sums::Sum::add` meets its contract: each part grows by at most 2^47, so that what the type leaves of 64 bits is left.
-- Assumes nothing.
use native.Mathlib.Omega.{arith}
use lib.IntN.{pos, ◌*ℤ◌}
use mir.Syntax.{w64}
use mir.ValLaws.{to_z-of_z}
use Rattle.integers.specs.Floor.{floor}
use Rattle.integers.proofs.Sizes.{sum_size}
use Rattle.surfaces.specs.Weights.{unit}
use Rattle.wide_sums.proofs.Parts.{fits_below, high_size, low_size}
use Rattle.wide_sums.proofs.Sum.add.Goals as goal

pub invariant_of-self : goal.invariant_of-self
invariant_of-self c =
    let a = c.args in
    record {
      high_room =
          rw (
            to_z-of_z w64 c.add_high-self.result (record { sfits = c.add_high-self.type_inv }),
            c.add_high-self.ensures,
            to_z-of_z w64 a.self.now.high (fits_below a.self.now.high (omega (arith, c.requires.0))),
            to_z-of_z w64 a.c c.ranges.c,
          )
          (omega (arith, c.requires.0, sum_size a.self.now.high (floor unit a.c *ℤ pos a.joint), high_size a.c a.joint c.requires.2 c.requires.3));
      low_room = rw (c.add_low-self.ensures, to_z-of_z w64 a.c c.ranges.c) (omega (arith, c.requires.1, low_size a.c a.joint c.requires.3));
    }
