-- `sweeps::raise_face` meets its contract: each turn of the loop works on the first level list that is left, whose parents are final, with the first numbers of the
-- lists below it at hand; then the next is the first that is left. At the end of the face none is.
-- Assumes nothing.
use Prim.Native.Nat.{◌-◌}
use Rattle.numbering.specs.Point.{at}
use Rattle.numbering.specs.Number.{rank}
use Rattle.cursors.specs.Steps.{Cursors}
use Rattle.sweeps.proofs.Standing.{Standing}
use Rattle.sweeps.proofs.Raising.{Raising}
use Rattle.sweeps.proofs.raise_face.Given as goal

abbrev pub invariant-loop-start : goal.invariant-loop-start
invariant-loop-start l =
    Standing l.facet l.vector
    × Cursors l.facet l.vector.sum (rank (at l.vector.levels) l.facet.axes) l.cursors
    × Raising l.facet l.initial.table l.vector.sum (rank (at l.vector.levels) l.facet.axes) l.start l.odd l.table

abbrev pub decreases-loop-start : goal.decreases-loop-start
decreases-loop-start l = l.end - l.start
