-- `evaluation::summed` meets its contract. With a zero border there is one face. The loop's invariant: what is left of the table begins at the first point of the level
-- vector at hand, and all points before are summed. The measure is its length.
-- Assumes nothing.
use Rattle.std.proofs.Common.{◌≡◌, ◌-◌, ◌≤◌, length, drop}
use Rattle.numbering.specs.Point.{at}
use Rattle.vectors.specs.Steps.{vectors_before}
use Rattle.evaluation.proofs.Lists.{VectorAt}
use Rattle.evaluation.proofs.Reaching.{Tallied}
use Rattle.evaluation.proofs.Walking.{Summed}
use Rattle.evaluation.proofs.summed.Given as goal

abbrev pub invariant-loop-hats : goal.invariant-loop-hats
invariant-loop-hats l =
    VectorAt l.fn.shape.axes l.fn.shape.level 0 (length l.table - length l.rest) l.vector
    × (length l.rest ≤ length l.table)
    × (l.rest ≡ drop (length l.table - length l.rest) l.table)
    × Summed l.fn.shape l.table (at l.coordinates) l.sum.high l.sum.low (length l.table - length l.rest) (vectors_before l.fn.shape.axes (at l.vector.levels))
    × Tallied l.fn.asked l.fn.shape l.table (at l.coordinates) l.absolute_sum (length l.table - length l.rest) (vectors_before l.fn.shape.axes (at l.vector.levels))

abbrev pub decreases-loop-hats : goal.decreases-loop-hats
decreases-loop-hats l = length l.rest
