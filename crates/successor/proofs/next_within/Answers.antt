-- `successor::next_within` meets its contract: without axes the one point is the last.
-- Assumes nothing.
use native.Mathlib.Omega.{arith}
use Rattle.numbering.specs.Point.{at}
use Rattle.shapes.proofs.Layers.{points_none}
use Rattle.numbers.proofs.OnFaces.{no_axes}
use mathlib.Core.Path.{ap}
use Rattle.successor.specs.Steps.{unmarked_next}
use Rattle.successor.proofs.Reached.{ended}
use Rattle.successor.proofs.next_within.Goals as goal

pub returns-then-axes-eq0 : goal.returns-then-axes-eq0
unfolding unmarked_next
returns-then-axes-eq0 c =
    let p = c.args.p in
    rw c.if-axes-eq0.true
    (ap unmarked_next
    (ended 0 c.args.level (at p.levels) (at p.indices)
    (omega (arith, points_none c.args.level, no_axes (at p.levels) (at p.indices)))))
