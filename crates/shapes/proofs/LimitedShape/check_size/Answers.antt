-- `LimitedShape::check_size` meets its contract: the one test is that the points are no more than are run.
-- Assumes nothing.
use native.Mathlib.Omega.{arith}
use borrow.Author.Tests.{le-leb, lt-leb}
use Rattle.std.proofs.Common.{refl}
use Rattle.shapes.specs.Shapes.{most_points, points_of, check_size}
use Rattle.shapes.proofs.LimitedShape.check_size.Goals as goal

pub returns-then-points-gt-MOST_POINTS-clause-verdict : goal.returns-then-points-gt-MOST_POINTS-clause-verdict
unfolding check_size
returns-then-points-gt-MOST_POINTS-clause-verdict c = rw (lt-leb (points_of c.args.self.shape) most_points (omega arith)) refl

pub returns-clause-verdict : goal.returns-clause-verdict
unfolding check_size
returns-clause-verdict c = rw (le-leb (points_of c.args.self.shape) most_points (omega arith)) refl
