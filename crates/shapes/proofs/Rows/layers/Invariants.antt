-- The loop's invariant: what is counted are the points of the layers before b.
-- Assumes nothing.
use mathlib.Core.Path.{◌≡◌}
use Rattle.naturals.specs.Sum.{sum_to}
use Rattle.faces.specs.Marked.{layer}
use Rattle.shapes.proofs.Rows.layers.Given as goal

abbrev pub invariant-loop-b : goal.invariant-loop-b
invariant-loop-b l = l.before ≡ sum_to (layer l.axes l.level) l.b
