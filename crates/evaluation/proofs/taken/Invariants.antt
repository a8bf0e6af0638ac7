-- `evaluation::taken` meets its contract. The loop's invariant is `Taken`.
-- Assumes nothing.
use lib.ListN.{length}
use Rattle.numbering.specs.Point.{at}
use Rattle.evaluation.specs.Steps.{hats_of}
use Rattle.evaluation.proofs.Taking.{Taken}
use Rattle.evaluation.proofs.taken.Given as goal

abbrev pub invariant-loop-axis : goal.invariant-loop-axis
invariant-loop-axis l = Taken (hats_of l.hats (at l.levels)) (at l.levels) (length l.hats) (length l.yielded) l.passed
