-- The loop's invariant: the faces from this number on are turned.
-- Assumes nothing.
use Rattle.sweeps.proofs.FacesDown.{Down}
use Rattle.sweeps.proofs.lower_faces.Given as goal

abbrev pub invariant-loop-f : goal.invariant-loop-f
invariant-loop-f l = Down l.line l.fn.table l.f l.odd l.table
