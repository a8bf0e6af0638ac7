-- `component_boxes::cut_at` meets its contract: the larger of two numbers, held at most a third.
-- Assumes nothing.
use Rattle.std.proofs.Common.{arith}
use Rattle.splits.specs.Splits.{cut}
use Rattle.component_boxes.proofs.cut_at.Goals as goal

pub returns : goal.returns
unfolding cut
returns c = omega (arith, c.max.ensures, c.min.ensures)
