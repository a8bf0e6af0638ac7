-- The loop's invariant: the first k axes are counted and ranked.
-- Assumes nothing.
use Rattle.numbering.specs.Point.{at}
use Rattle.layouts.proofs.Marks.{RankedTo}
use Rattle.layouts.proofs.borders_and_rank.Given as goal

abbrev pub invariant-loop-k : goal.invariant-loop-k
invariant-loop-k l = RankedTo (at l.marks) l.k l.borders l.rank
