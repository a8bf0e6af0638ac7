-- `texts::lines::put_points` meets its contract. The loop's invariant: the lines of the points passed have been put.
-- Assumes nothing.
use Rattle.texts.proofs.Listing.{Listed}
use Rattle.texts.proofs.lines.put_points.Given as goal

abbrev pub invariant-loop-p : goal.invariant-loop-p
invariant-loop-p l = Listed l.table l.initial.out l.out l.end l.p
