-- `evaluation::summed_over_faces` meets its contract. The invariants are `ToFace` for the faces and `OnFace` for the lists of one; the measure is what is left of its
-- points.
-- Assumes nothing.
use Rattle.std.proofs.Common.{◌+◌, ◌-◌}
use Rattle.numbering.specs.Count.{points}
use Rattle.numbering.specs.Point.{at}
use Rattle.faces.specs.Row.{row}
use Rattle.evaluation.proofs.Facing.{face_of, ToFace, OnFace}
use Rattle.evaluation.proofs.summed_over_faces.Given as goal

abbrev pub invariant-loop-vector : goal.invariant-loop-vector
invariant-loop-vector l =
    OnFace l.fn.asked l.fn.shape l.table l.coordinates (face_of l.fn.shape.axes l.borders l.rank) (at l.marks) l.inner l.axes l.top l.first l.vector l.sum.high l.sum.low l.absolute_sum

abbrev pub decreases-loop-vector : goal.decreases-loop-vector
decreases-loop-vector l = row l.fn.shape.axes l.fn.shape.level (face_of l.fn.shape.axes l.borders l.rank) + points l.axes l.top - l.first

abbrev pub invariant-loop-rank : goal.invariant-loop-rank
invariant-loop-rank l =
    ToFace l.fn.asked l.fn.shape l.table l.coordinates (face_of l.fn.shape.axes l.borders l.rank) l.first l.sum.high l.sum.low l.absolute_sum

abbrev pub invariant-loop-borders : goal.invariant-loop-borders
invariant-loop-borders l =
    ToFace l.fn.asked l.fn.shape l.table l.coordinates (face_of l.fn.shape.axes l.borders 0) l.first l.sum.high l.sum.low l.absolute_sum
