-- `Sweep::line` meets its contract: before each turn of the loop the places that reach less far are turned, and after it all but the middle, which stays where it has
-- no parents.
-- Assumes nothing.
use Rattle.component_sweeps.proofs.Refining.{Refining}
use Rattle.component_sweeps.proofs.axis.Sweep.line.Given as goal

abbrev pub invariant-loop-level : goal.invariant-loop-level
invariant-loop-level l = Refining l.self l.q l.initial.table l.table l.level
