-- `vectors::compare_levels` meets its contract: the sums decide, and where they are equal the loop, whose invariant is `Compared`.
-- Assumes nothing.
use Rattle.numbering.specs.Point.{at}
use Rattle.vectors.proofs.Compared.{Compared}
use Rattle.vectors.proofs.compare_levels.Given as goal

abbrev pub invariant-loop-t : goal.invariant-loop-t
invariant-loop-t l = Compared (at l.a) (at l.b) 8 l.t
