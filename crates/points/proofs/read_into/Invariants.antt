-- `points::read_into` meets its contract: the lengths decide refusal 7, and of lists of the right length the tests of the axes decide. The loop's invariant is `Walked`.
-- Assumes nothing.
use Rattle.points.proofs.Tested.{Walked}
use Rattle.points.proofs.read_into.Given as goal

abbrev pub invariant-loop-t : goal.invariant-loop-t
invariant-loop-t l = Walked l.checked.shape l.marks l.fn.levels l.fn.indices l.t l.left l.point_levels l.point_indices
