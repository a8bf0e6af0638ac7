-- `runs::run` meets its contract: each turn of the loop is one call more of the run, and after the last the lists hold all answers.
-- Assumes nothing.
use Rattle.runs.proofs.Reporting.{Reporting}
use Rattle.runs.proofs.run.Given as goal

abbrev pub invariant-loop-i : goal.invariant-loop-i
invariant-loop-i l =
    Reporting l.initial.reached l.initial.table l.directions l.axes l.initial.numbers l.initial.places l.table l.numbers l.places l.reached l.i
