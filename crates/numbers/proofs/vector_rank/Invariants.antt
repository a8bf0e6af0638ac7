-- `numbers::vector_rank` meets its contract. The loop's invariant is `Ranked`.
-- Assumes nothing.
use Rattle.numbering.specs.Point.{at}
use Rattle.numbers.proofs.Ranked.{Ranked}
use Rattle.numbers.proofs.vector_rank.Given as goal

abbrev pub invariant-loop-t : goal.invariant-loop-t
invariant-loop-t l = Ranked (at l.vector.levels) l.vector.axes l.t l.rank l.sum
