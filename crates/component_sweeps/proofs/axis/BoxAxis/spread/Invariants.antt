-- `BoxAxis::spread` meets its contract: before each turn of the loop the band has the box's points on the axes added.
-- Assumes nothing.
use Prim.Native.Nat.{◌-◌}
use Rattle.component_sweeps.specs.Steps.{Covers}
use Rattle.component_sweeps.proofs.axis.BoxAxis.spread.Given as goal

abbrev pub invariant-loop-more : goal.invariant-loop-more
invariant-loop-more l = Covers l.self.of l.self.axis l.b

abbrev pub decreases-loop-more : goal.decreases-loop-more
decreases-loop-more l = l.self.of.grid.now.axes - l.b.from
