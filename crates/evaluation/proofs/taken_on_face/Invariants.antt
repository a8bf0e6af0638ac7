-- `evaluation::taken_on_face` meets its contract. The loop's invariant is `Taken`, and so many inner axes are passed.
-- Assumes nothing.
use Rattle.std.proofs.Common.{◌≡◌}
use Rattle.numbering.specs.Point.{at}
use Rattle.faces.specs.Packing.{before}
use Rattle.evaluation.specs.Steps.{hats_on, whole}
use Rattle.evaluation.proofs.Taking.{Taken}
use Rattle.evaluation.proofs.taken_on_face.Given as goal

abbrev pub invariant-loop-t : goal.invariant-loop-t
invariant-loop-t l =
    Taken (hats_on l.hats (at l.marks) (whole l.axes (at l.marks) (at l.levels))) (whole l.axes (at l.marks) (at l.levels)) l.axes l.t l.passed
    × (l.place ≡ before (at l.marks) l.t)
