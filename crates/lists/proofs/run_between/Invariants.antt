-- `lists::run_between` meets its contract: after i turns of the loop the run of the first i points is done.
-- Assumes nothing.
use lib.IntN.{◌+ℤ◌}
use Rattle.lists.specs.Steps.{value_in, RunStepped}
use Rattle.lists.proofs.run_between.Given as goal

abbrev pub invariant-loop-i : goal.invariant-loop-i
invariant-loop-i g l =
    RunStepped g.D.Direction.ahead l.x l.i (λ i. value_in l.initial.table l.a i +ℤ value_in l.initial.table l.b i) l.initial.table l.odd l.table
