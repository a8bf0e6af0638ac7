-- The loop's invariant is `Spreading`.
-- Assumes nothing.
use Rattle.numbering.specs.Point.{at}
use Rattle.numbers.proofs.InnerAxes.{Spreading}
use Rattle.numbers.proofs.spread.Given as goal

abbrev pub invariant-loop-t : goal.invariant-loop-t
invariant-loop-t l = Spreading (at l.marks) (at l.values) l.border l.axes l.t l.inner l.list
