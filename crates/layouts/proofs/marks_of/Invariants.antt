-- The loop's invariant is `MarksRead`.
-- Assumes nothing.
use Rattle.layouts.proofs.Marks.{MarksRead}
use Rattle.layouts.proofs.marks_of.Given as goal

abbrev pub invariant-loop-k : goal.invariant-loop-k
invariant-loop-k l = MarksRead l.axes l.borders l.rank l.marks l.k l.left l.rest
