-- `component_boxes::points_across` meets its contract: two to the level plus one, less one.
-- Assumes nothing.
use native.Mathlib.Omega.{arith}
use Rattle.component_grids.specs.Component.{across}
use Rattle.component_boxes.proofs.Powers.{shifted_two}
use Rattle.component_boxes.proofs.points_across.Goals as goal

pub returns : goal.returns
unfolding across
returns c = omega (arith, shifted_two c.args.level c.requires)
