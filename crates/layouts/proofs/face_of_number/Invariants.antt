-- The loop's invariant is `LeftOf`.
-- Assumes nothing.
use Rattle.layouts.proofs.Found.{LeftOf}
use Rattle.layouts.proofs.face_of_number.Given as goal

abbrev pub invariant-loop-borders : goal.invariant-loop-borders
invariant-loop-borders l = LeftOf l.axes l.level l.number l.borders l.rest
