-- `Sweep::rows` meets its contract: it works down the axes to single lines, and before each turn of its loop the rows of the places passed are turned.
-- Assumes nothing.
use Rattle.component_sweeps.specs.Steps.{Turned}
use Rattle.component_sweeps.specs.SweepSteps.{turn}
use Rattle.component_sweeps.proofs.Rowing.{Upto}
use Rattle.component_sweeps.proofs.axis.Sweep.+rows.Given as goal

abbrev pub decreases-rows : goal.decreases-rows
decreases-rows l = l.j

abbrev pub invariant-loop-i : goal.invariant-loop-i
invariant-loop-i l = Turned (turn l.self) (Upto (turn l.self) l.j l.q l.u l.i) l.initial.table l.table
