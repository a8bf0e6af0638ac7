-- `Spread::lower_run` meets its contract: before each turn the first i positions of the run are lowered, and p is the next.
-- Assumes nothing.
use Rattle.std.proofs.Common.{◌≡◌, ◌+◌, ◌*◌}
use Rattle.component_sweeps.specs.Steps.{LoweredOn, InRun}
use Rattle.component_sweeps.proofs.axis.Spread.lower_run.Given as goal

abbrev pub invariant-loop-i : goal.invariant-loop-i
invariant-loop-i l = (l.p ≡ l.first + l._i * l.self.unit) × LoweredOn l.parents (InRun l.first l._i l.self.unit) l.initial.table l.table
