-- The loop's invariant is `Turned`: the indices before axis t were the last of their levels and are 1 now.
-- Assumes nothing.
use Rattle.successor.proofs.Indices.{Turned}
use Rattle.successor.proofs.next_indices.Given as goal

abbrev pub invariant-loop-t : goal.invariant-loop-t
invariant-loop-t l = Turned l.axes l.levels l.fn.indices l.indices l.t
