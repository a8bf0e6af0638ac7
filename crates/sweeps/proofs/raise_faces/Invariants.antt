-- The loop's invariant: the faces before this number are done.
-- Assumes nothing.
use Rattle.sweeps.proofs.FacesUp.{Up}
use Rattle.sweeps.proofs.raise_faces.Given as goal

abbrev pub invariant-loop-f : goal.invariant-loop-f
invariant-loop-f l = Up l.line l.fn.table l.f l.odd l.table
