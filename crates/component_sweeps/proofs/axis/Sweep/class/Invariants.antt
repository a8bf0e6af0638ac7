-- `Sweep::class` meets its contract: before each turn of the loop the places of that reach before x are turned.
-- Assumes nothing.
use Rattle.component_sweeps.proofs.Classes.{Passing}
use Rattle.component_sweeps.proofs.axis.Sweep.class.Given as goal

abbrev pub invariant-loop-x : goal.invariant-loop-x
invariant-loop-x l = Passing l.self l.q l.reach l.initial.table l.table l.x
