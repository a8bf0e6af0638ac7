-- `component_boxes::widest_axis` meets its contract. The loop's invariant: the first of the widest among the axes so far.
-- Assumes nothing.
use Rattle.std.proofs.Common.{◌≡◌}
use Rattle.numbering.specs.Point.{at}
use Rattle.component_boxes.specs.Order.{widest}
use Rattle.component_boxes.proofs.widest_axis.Given as goal

abbrev pub invariant-loop-t : goal.invariant-loop-t
invariant-loop-t l = l.most ≡ widest (at l.levels) l.t
