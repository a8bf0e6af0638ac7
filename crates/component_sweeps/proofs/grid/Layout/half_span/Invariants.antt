-- `Layout::half_span` meets its contract. The loop's invariant: the span over the axes so far, which is less than their points in the grid.
-- Assumes nothing.
use Rattle.std.proofs.Common.{◌≡◌, length}
use Rattle.numbering.specs.Point.{at}
use Rattle.component_boxes.specs.Order.{half_span}
use Rattle.component_sweeps.specs.Steps.{tops_of}
use Rattle.component_sweeps.proofs.grid.Layout.half_span.Given as goal

abbrev pub invariant-loop-level : goal.invariant-loop-level
invariant-loop-level l = l.span ≡ half_span (length l.yielded) (tops_of l.self) (at l.levels)
