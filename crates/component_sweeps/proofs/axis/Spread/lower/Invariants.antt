-- `Spread::lower` meets its contract: before each turn of the loop the first l lines of the band are lowered.
-- Assumes nothing.
use Rattle.component_sweeps.specs.Steps.{LoweredOn, InBand}
use Rattle.component_sweeps.proofs.axis.Spread.lower.Given as goal

abbrev pub invariant-loop-l : goal.invariant-loop-l
invariant-loop-l l = LoweredOn l.parents (InBand l.first l.self.width l.l l.self.apart l.self.unit) l.initial.table l.table
