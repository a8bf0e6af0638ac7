-- A step back: up to 2^62 on either side of zero, a value and half a sum leave room in 64 bits for their sum, and a shift by one bit is the half.
-- Assumes nothing.
use mathlib.Core.Path.{sym}
use mathlib.Core.Bool.{false}
use lib.IntN.{◌+ℤ◌}
use mir.Syntax.{w64}
use mir.Val.{SFits}
use mir.ValLaws.{to_z-of_z}
use Rattle.integers.specs.Half.{half}
use Rattle.integers.proofs.Steps.{stepped_fits, halved, stepped_back}
use Rattle.integers.proofs.BackDirection.step.Goals as goal

pub returns : goal.returns
returns c =
    let v = c.args.v in
    let sum = c.args.sum in
    let fits : SFits w64 (v +ℤ half sum) = rw (sym (stepped_back v sum)) (stepped_fits false v sum c.requires.0 c.requires.1) in
    rw (to_z-of_z w64 v c.ranges.v, halved sum c.ranges.sum c.requires.1, stepped_back v sum)
    (to_z-of_z w64 (v +ℤ half sum) fits)
