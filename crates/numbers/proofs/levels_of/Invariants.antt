-- The loop's invariant is `Unranked`.
-- Assumes nothing.
use Rattle.numbers.proofs.Unranked.{Unranked}
use Rattle.numbers.proofs.levels_of.Given as goal

abbrev pub invariant-loop-k : goal.invariant-loop-k
invariant-loop-k l = Unranked l.axes l.sum l.rank l.levels l.k-counter l.left l.rest
