-- `sweeps::lower_face` meets its contract: each turn of the loop works on the last level list that is left, whose parents are as they were, with the first numbers
-- of the lists below it at hand; then the one before it is the last that is left. At the first number of the face none is.
-- Assumes nothing.
use Prim.Native.Nat.{suc}
use Rattle.numbering.specs.Point.{at}
use Rattle.numbering.specs.Number.{rank}
use Rattle.cursors.specs.Steps.{Cursors}
use Rattle.sweeps.proofs.Standing.{Standing}
use Rattle.sweeps.proofs.Lowering.{Lowering}
use Rattle.sweeps.proofs.lower_face.Given as goal

abbrev pub invariant-loop-start : goal.invariant-loop-start
invariant-loop-start l =
    Standing l.facet l.vector
    × Cursors l.facet l.vector.sum (suc (rank (at l.vector.levels) l.facet.axes)) l.cursors
    × Lowering l.facet l.initial.table l.vector.sum (suc (rank (at l.vector.levels) l.facet.axes)) l.start l.odd l.table

abbrev pub decreases-loop-start : goal.decreases-loop-start
decreases-loop-start l = l.start
