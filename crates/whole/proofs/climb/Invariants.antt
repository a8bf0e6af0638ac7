-- `whole::climb` meets its contract. The loop's invariant: the turns still to come, from the present table, leave what all of them leave from the start; and
-- the values are at most 2^47 doubled once for each axis before the present one, so that on each of eight axes there is room for a turn.  Assumes nothing.
use mathlib.Core.Path.{◌≡◌}
use Prim.Native.Nat.{◌+◌, ◌-◌, ◌^◌}
use lib.ListN.{length}
use Rattle.shapes.specs.Shapes.{points_of}
use Rattle.lists.specs.Steps.{NoLarger}
use Rattle.whole.specs.Steps.{ascent}
use Rattle.whole.proofs.climb.Given as goal

abbrev pub invariant-loop-k : goal.invariant-loop-k
invariant-loop-k l =
    let shape = l.fn.shape in
    (length l.table ≡ points_of shape)
    × NoLarger (2 ^ (47 + l.k)) l.table
    × (ascent (shape.axes - l.k) l.k shape l.table ≡ ascent (shape.axes - l.fn.from) l.fn.from shape l.initial.table)
