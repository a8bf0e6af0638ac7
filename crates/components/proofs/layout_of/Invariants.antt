-- `components::layout_of` meets its contract. The loop's invariant is `Strided`.
-- Assumes nothing.
use Rattle.components.proofs.Strides.{Strided}
use Rattle.components.proofs.layout_of.Given as goal

abbrev pub invariant-loop-t : goal.invariant-loop-t
invariant-loop-t l = Strided l.levels l.strides l.t l.points
