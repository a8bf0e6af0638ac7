-- `integers::odd` meets its contract: the lowest bit of a number is 1 where it is odd.
-- Assumes nothing.
use mathlib.Core.Path.{ap}
use native.Mathlib.Omega.{arith}
use lib.IntN.{nat_abs}
use mir.Syntax.{w64}
use mir.ValLaws.{to_z_pos}
use Rattle.integers.specs.Half.{odd_of}
use Rattle.integers.proofs.Steps.{odd_small, lowest_odd}
use Rattle.integers.proofs.odd.Goals as goal

pub returns : goal.returns
returns c =
    let sum = c.args.sum in
    rw (lowest_odd sum c.ranges.sum) (ap nat_abs (to_z_pos w64 (odd_of sum) (omega (arith, odd_small sum))))
