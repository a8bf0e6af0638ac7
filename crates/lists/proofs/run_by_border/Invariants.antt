-- `lists::run_by_border` meets its contract: after i turns of the loop the run of the first i points is done.
-- Assumes nothing.
use Rattle.lists.specs.Steps.{value_in, RunStepped}
use Rattle.lists.proofs.run_by_border.Given as goal

abbrev pub invariant-loop-i : goal.invariant-loop-i
invariant-loop-i g l =
    RunStepped g.D.Direction.ahead l.x l.i (value_in l.initial.table l.a) l.initial.table l.odd l.table
