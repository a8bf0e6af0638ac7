-- The loop's invariant: the inner axes before this place are counted.
-- Assumes nothing.
use Rattle.std.proofs.Common.{◌≡◌}
use Rattle.numbering.specs.Point.{at}
use Rattle.faces.specs.Packing.{before}
use Rattle.neighbours.proofs.facets.inner_before.Given as goal

abbrev pub invariant-loop-t : goal.invariant-loop-t
invariant-loop-t l = l.inner ≡ before (at l.marks) l.t
