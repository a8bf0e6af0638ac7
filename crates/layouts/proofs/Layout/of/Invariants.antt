-- The loops' invariants are `Laid`: up to the first face with these border axes, and up to the face of a rank among them.
-- Assumes nothing.
use Rattle.layouts.proofs.Laid.{Laid}
use Rattle.layouts.proofs.Layout.of.Given as goal

abbrev pub invariant-loop-borders : goal.invariant-loop-borders
invariant-loop-borders l = Laid l.axes l.level l.faces l.count l.start l.borders 0

abbrev pub invariant-loop-rank : goal.invariant-loop-rank
invariant-loop-rank l = Laid l.axes l.level l.faces l.count l.start l.borders l.rank
