-- `axis_weights::Coordinate::border_weight` meets its contract: a coordinate is at most the unit, so nothing is taken off below 0.
-- Assumes nothing.
use native.Mathlib.Omega.{arith}
use Rattle.surfaces.specs.Weights.{unit}
use Rattle.surfaces.proofs.Unit.{unit_is}
use Rattle.surfaces.proofs.AxisHat.{weight_lower}
use Rattle.axis_weights.proofs.Weighing.{border_upper}
use Rattle.axis_weights.proofs.Coordinate.border_weight.Goals as goal

pub overflow_sub-result : goal.overflow_sub-result
overflow_sub-result c = omega (arith, unit_is, c.args.self.inside)

pub returns-then-mark-eq1 : goal.returns-then-mark-eq1
returns-then-mark-eq1 c = rw c.if-mark-eq1.true (omega (arith, unit_is, weight_lower unit c.args.self.x 0 1))

pub returns-else-mark-eq1 : goal.returns-else-mark-eq1
returns-else-mark-eq1 c = border_upper c.args.self.x c.args.mark c.requires c.if-mark-eq1.false
