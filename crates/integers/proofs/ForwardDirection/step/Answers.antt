-- A step forward: up to 2^62 on either side of zero, a value and half a sum leave room in 64 bits for their difference, and a shift by one bit is the half.
-- Assumes nothing.
use mathlib.Core.Path.{sym}
use mathlib.Core.Bool.{true}
use lib.IntN.{◌-ℤ◌}
use mir.Syntax.{w64}
use mir.Val.{SFits}
use mir.ValLaws.{to_z-of_z}
use Rattle.integers.specs.Half.{half}
use Rattle.integers.proofs.Steps.{stepped_fits, halved, stepped_forward}
use Rattle.integers.proofs.ForwardDirection.step.Goals as goal

pub returns : goal.returns
returns c =
    let v = c.args.v in
    let sum = c.args.sum in
    let fits : SFits w64 (v -ℤ half sum) = rw (sym (stepped_forward v sum)) (stepped_fits true v sum c.requires.0 c.requires.1) in
    rw (to_z-of_z w64 v c.ranges.v, halved sum c.ranges.sum c.requires.1, stepped_forward v sum)
    (to_z-of_z w64 (v -ℤ half sum) fits)
