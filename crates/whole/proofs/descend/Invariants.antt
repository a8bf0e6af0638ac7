-- `whole::descend` meets its contract. The loop's invariant: the table is one of the shape, within the limit, and the back turns still to come lead from it to
-- where all of them lead from the start.  Assumes nothing.
use mathlib.Core.Path.{◌≡◌}
use Rattle.whole.specs.Steps.{InTable, descent}
use Rattle.whole.proofs.descend.Given as goal

abbrev pub invariant-loop-k : goal.invariant-loop-k
invariant-loop-k l =
    let shape = l.fn.shape in
    InTable shape l.table × (descent l.k shape l.table ≡ descent shape.axes shape l.initial.table)
