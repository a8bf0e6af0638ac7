-- `cursors::pass` meets its contract. The loop's invariant is `Moved`: the cursors before j have stepped over the level vector below.
-- Assumes nothing.
use Prim.Native.Nat.{suc, ◌≤◌}
use Rattle.numbering.specs.Number.{rank}
use Rattle.numbering.specs.Point.{at}
use Rattle.cursors.proofs.Passing.{Moved}
use Rattle.cursors.proofs.pass.Given as goal

abbrev pub invariant-loop-j : goal.invariant-loop-j
invariant-loop-j l =
    (l.v.own ≤ l.v.vector.sum) × (l.v.vector.sum ≤ 8)
    × Moved l.v.facet l.v.vector.sum (rank (at l.v.vector.levels) l.v.facet.axes) (suc (rank (at l.v.vector.levels) l.v.facet.axes)) l.j l.cursors
