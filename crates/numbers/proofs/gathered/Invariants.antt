-- The loop's invariant is `Gathering`.
-- Assumes nothing.
use Rattle.numbering.specs.Point.{at}
use Rattle.numbers.proofs.InnerAxes.{Gathering}
use Rattle.numbers.proofs.gathered.Given as goal

abbrev pub invariant-loop-t : goal.invariant-loop-t
invariant-loop-t l = Gathering (at l.marks) (at l.list) l.axes l.t l.inner l.values
